-- `code_word_locator::errors` meets its contract. The loop has the last three sums and the transform of all so far. Assumes nothing.
use mathlib.Core.Path.{◌≡◌}
use Prim.Native.Nat.{suc, ◌-◌}
use native.Mathlib.Omega.{arith}
use Rattle.code_word_laws.proofs.Turns.{held_first, held_next, held-last}
use Rattle.code_word_locator.proofs.errors.Goals as goal

pub loop-n-init : goal.loop-n-init
loop-n-init c =
    let a = c.args in
    let p = c.requires in (
      p.third,
      p.second,
      p.first,
      held_first a.r.first a.r.second a.r.third a.s1 a.s2 a.r.start c.row.ensures c.row-2.ensures
          c.row-3.ensures,
    )

pub loop-n-preserved : goal.loop-n-preserved
loop-n-preserved c =
    let a = c.args in
    let next : 12 - (c.loop-n.n - 1) ≡ suc (12 - c.loop-n.n) = omega arith in (
      c.tripled-x.ensures.upper_bound,
      c.loop-n.invariant.0,
      c.loop-n.invariant.1,
      rw next
          (held_next a.r.first a.r.second a.r.third a.s1 a.s2 a.r.start (12 - c.loop-n.n) c.loop-n.n (omega arith) (omega arith)
          c.tripled-x.ensures.value c.row-e.ensures c.loop-n.invariant.3),
    )

pub returns : goal.returns
returns c =
    let a = c.args in
    held-last a.r.first a.r.second a.r.third a.s1 a.s2 a.r.start (12 - c.loop-n.n) (omega arith) c.loop-n.invariant.3
