-- `writer_stream::widen` meets its contract. The loop keeps what is still to be shifted equal to the whole; two shifts are enough.
-- Assumes nothing.
use mathlib.Core.Path.{◌≡◌, refl, subst}
use Prim.Native.Nat.{◌+◌, ◌-◌}
use native.Mathlib.Omega.{arith}
use Rattle.writer_stream.proofs.Shifting.{Widening, widening-first, widening-next, widening-last}
use Rattle.writer_stream.proofs.widen.Goals as goal

pub loop-range-init : goal.loop-range-init
loop-range-init c =
    let a = c.args in
    let z : 2 ≡ 2 - (a.c.at - a.c.at) = omega arith in
    subst (Widening a.front.now a.c a.front.now a.c) z (widening-first a.front.now a.c c.requires.streams c.requires.at_bound)

pub loop-range-preserved : goal.loop-range-preserved
loop-range-preserved c =
    let l = c.loop-range in
    let a = c.args in
    let w = l.invariant.count in
    let z : 2 - (l.at - a.c.at) - 1 ≡ 2 - (l.at + 1 - a.c.at) = omega arith in
    subst (Widening a.front.now a.c _ _) z (widening-next l.invariant c.loop-range-test.true)

pub returns : goal.returns
returns c = let e = widening-last c.loop-range.invariant c.loop-range-test.false in
    record {
      result_after = e.0;
      flows = e.1;
      at_bound_2 = e.2;
      taken_value = refl;
    }
