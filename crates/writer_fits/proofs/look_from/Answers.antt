-- `writer_fits::look_from` meets its contract. The invariant: what is still to be looked at gives the whole. Assumes nothing.
use mathlib.Core.Path.{◌≡◌, refl, sym, ◌∙◌}
use mathlib.Core.Bool.{cond}
use mathlib.Core.Logic.{inl, inr}
use Prim.Native.Nat.{◌+◌, ◌≤◌}
use Rattle.std.proofs.Common.{rules}
use native.Mathlib.Omega.{arith}
use native.Mathlib.Nat.{zero-add}
use lib.IntN.{ℤ, pos}
use lib.ListN.{get_or}
use mir.Syntax.{w32}
use mir.Val.{SFits}
use Rattle.frame_residual.specs.Residual.{is_zero}
use Rattle.writer_fits.proofs.RunsFit.{limit-low, limit-all, limit-few, entries_next, entries-done}
use Rattle.writer_fits.proofs.LinesFit.{limit-fits, magnitude-test, counted-one, counted_none, counted-most, count_next, count-done}
use Rattle.writer_fits.proofs.look_from.Goals as goal
use Rattle.writer_fits.proofs.look_from.Goals.{then-behind, else-behind, then-x-ne0, else-x-ne0}

pub loop-k-init : goal.loop-k-init
loop-k-init c = (omega arith, refl, zero-add _)

pub overflow_sub-fit : goal.overflow_sub-fit
overflow_sub-fit c =
    let limit_is : c.if-behind.limit-bits ≡ cond c.args.behind 0 32767 =
    limit-all c.args.behind (elim c.if-behind.branch [
      | then-behind w ↦ inl (w.if-behind.true, w.limit-is-bits)
      | else-behind w ↦ inr
          (w.if-behind.false, w.limit-is-bits)
    ]) in
    let few : c.if-behind.limit-bits ≤ 32767 =
    limit-few c.args.behind limit_is in
    limit-fits _ few

pub loop-k-preserved : goal.loop-k-preserved
loop-k-preserved c =
    let limit_is : c.if-behind.limit-bits ≡ cond c.args.behind 0 32767 =
    limit-all c.args.behind (elim c.if-behind.branch [
      | then-behind w ↦ inl (w.if-behind.true, w.limit-is-bits)
      | else-behind w ↦ inr
          (w.if-behind.false, w.limit-is-bits)
    ]) in
    let few : c.if-behind.limit-bits ≤ 32767 =
    limit-few c.args.behind limit_is in
    let l = c.loop-k in
    let a = c.args in
    let v : ℤ = get_or a.lines.now l.k (pos 0) in
    let f : SFits w32 v = search rules in
    let n : c.if-x-ne0.count ≡ l.count + cond (is_zero v) 0 1 =
    elim c.if-x-ne0.branch [
      | then-x-ne0 w ↦ counted-one v l.count w.if-x-ne0.true w.count-is
      | else-x-ne0 w ↦ counted_none v l.count f
          w.if-x-ne0.false w.count-is
    ] in
    let m = counted-most v l.count n in
    let e = c.loop-k-test.true in
    let d = limit-low (cond a.behind 0 32767) l.k a.to e limit_is in (
      omega arith,
      rw (magnitude-test v c.if-behind.limit-bits f few) (entries_next _ _ _ _ l.k l.fit e refl d ∙ l.invariant.1),
      count_next _ _ l.k l.count e n ∙ l.invariant.2,
    )

pub returns : goal.returns
returns c = let l = c.loop-k in
    let e = c.loop-k-test.false in
    let h = c.requires in record {
      fit_value = sym (entries-done _ _ _ _ l.k l.fit e) ∙ l.invariant.1;
      count_value = sym (count-done _ _ l.k l.count e) ∙ l.invariant.2;
      count_bound = omega arith;
    }
