-- `writer_fits::look_at` meets its contract: the lines below the last one, and those from it on. Assumes nothing.
use mathlib.Core.Path.{sym, ap₂, ◌∙◌}
use mathlib.Core.Bool.{◌&&◌}
use mathlib.Core.Logic.{inl, inr}
use Prim.Native.Nat.{◌+◌}
use native.Mathlib.Omega.{arith}
use lib.ListN.{length}
use Rattle.writer_fits.proofs.RunsFit.{Least, least-is, fits-runs}
use Rattle.writer_fits.proofs.LinesFit.{count_runs}
use Rattle.writer_fits.proofs.look_at.Goals as goal
use Rattle.writer_fits.proofs.look_at.Goals.{then-last-n, else-last-n}

pub look_from-a-requires : goal.look_from-a-requires
look_from-a-requires c =
    let ends_at : Least c.args.last (length c.args.lines.now) c.if-last-n.m =
    least-is _ _ (elim c.if-last-n.branch [
      | then-last-n w ↦ inl (w.if-last-n.true, w.m-is)
      | else-last-n w ↦ inr
          (w.if-last-n.false, w.m-is)
    ]) in
    record {
      lines_len_bound = c.requires;
      from_le_to = omega arith;
      to_in_bounds = ends_at.end;
    }

pub look_from-b-requires : goal.look_from-b-requires
look_from-b-requires c =
    let ends_at : Least c.args.last (length c.args.lines.now) c.if-last-n.m =
    least-is _ _ (elim c.if-last-n.branch [
      | then-last-n w ↦ inl (w.if-last-n.true, w.m-is)
      | else-last-n w ↦ inr
          (w.if-last-n.false, w.m-is)
    ]) in
    record {
      lines_len_bound = c.requires;
      from_le_to = ends_at.end;
      to_in_bounds = omega arith;
    }

pub returns : goal.returns
returns c =
    let ends_at : Least c.args.last (length c.args.lines.now) c.if-last-n.m =
    least-is _ _ (elim c.if-last-n.branch [
      | then-last-n w ↦ inl (w.if-last-n.true, w.m-is)
      | else-last-n w ↦ inr
          (w.if-last-n.false, w.m-is)
    ]) in
    let b = c.look_from-b.ensures in
    let a = c.look_from-a.ensures in
    let e = ends_at in record {
      fit_value = ap₂ ◌&&◌ a.fit_value b.fit_value ∙ sym (fits-runs _ _ _ _ _ e);
      count_value = ap₂ ◌+◌ a.count_value b.count_value ∙ sym (count_runs _ _ _ e.end);
    }
