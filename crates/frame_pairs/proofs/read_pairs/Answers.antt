-- `frame_pairs::read_pairs` meets its contract. The loop has the rest of the pairs equal to the whole. Assumes nothing.
use mathlib.Core.Path.{sym, ◌∙◌}
use Prim.Native.Nat.{◌<◌}
use native.Mathlib.Omega.{arith}
use Rattle.std.proofs.lemmas.Result.{err_from_is_err_and}
use Rattle.frame_pairs.proofs.PairWalk.{roomy-store, pairs-done, pairs-stop, pairs-more}
use Rattle.frame_pairs.proofs.read_pairs.Goals as goal

pub returns-in_err-pair-clause-levels_after : goal.returns-in_err-pair-clause-levels_after
returns-in_err-pair-clause-levels_after c =
    let p = err_from_is_err_and c.from_residual.result c.from_residual.ensures.1 in
    let e = rw c.base_of-base.ensures.value at (sym c.in_err-pair.ensures.result_value) in
    rw (p.1, p.2) (sym (pairs-stop _ _ _ _ _ _ _ _ _ _ _ _ c.loop-k-test.true e) ∙ c.loop-k.invariant.5)

pub loop-k-preserved : goal.loop-k-preserved
loop-k-preserved c =
    let known = rw c.base_of-base.ensures.value at (sym c.in_ok-pair.ensures.result_value) in
    let l = c.loop-k in
    let g = c.in_ok-pair.ensures.good_pair in
    let t = g.4 in
    let inside : l.k < 200 = omega arith in
    let a = l.auto.lines ∙ c.requires.working.lines in
    let b = l.auto.levels ∙ c.requires.working.levels in (
      g.6,
      g.3,
      g.5,
      omega arith,
      roomy-store c.args.o.lsb l.lines l.levels l.k c.in_ok-pair.pair.value l.invariant.4 inside a b g.0 g.1 c.store.new.lines
          c.store.ensures,
      pairs-more _ _ _ _ _ _ _ _ _ _ _ _ _ _ _ c.loop-k-test.true known c.store.ensures ∙ l.invariant.5,
    )

pub returns-clause-levels_after : goal.returns-clause-levels_after
returns-clause-levels_after c =
    sym (pairs-done _ _ _ _ _ _ _ _ _ _ _ c.loop-k-test.false) ∙ c.loop-k.invariant.5
