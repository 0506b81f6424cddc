-- `slot_interleaving::scatter_checks` meets its contract. The invariant of its loop stands at the head. Assumes nothing.
use mathlib.Core.List.{[]}
use Prim.Native.Nat.{◌-◌}
use native.Mathlib.Omega.{arith}
use Rattle.code_word_laws.specs.Word.{distance}
use Rattle.code_word_laws.specs.Register.{with_checks}
use Rattle.code_word_laws.proofs.Checks.{digits-length, digits-start, with-checks-turn}
use Rattle.slot_laws.proofs.Sizes.{length-low}
use Rattle.slot_interleaving.proofs.PlaceSteps.{check-in, has-place, span_none, span-down}
use Rattle.slot_interleaving.proofs.scatter_checks.Goals as goal

pub loop-k-init : goal.loop-k-init
loop-k-init c =
    let a = c.args in
    rw c.distance-k.ensures.is (digits-start (distance a.mode - 1) a.r, span_none (omega arith))

pub place-requires : goal.place-requires
place-requires c = has-place c.requires c.word_count-count.ensures.value (check-in c.requires (omega (arith, c.loop-k-test.true)))

pub loop-k-preserved : goal.loop-k-preserved
loop-k-preserved c =
    let a = c.args in
    let n = distance a.mode - 1 in
    let t = with-checks-turn c.loop-k.k c.loop-k.rest (with_checks n a.r []) (omega arith)
    (omega (arith, digits-length n a.r)) c.loop-k.invariant.0 in
    let l = length-low a.size a.i c.requires.range.size_from c.requires.word_below in (
      t.1,
      span-down c.requires c.loop-k.invariant.1 c.place.ensures.value t.0
          (omega arith) (omega arith) (omega (arith, l, c.requires.range.mode_to)),
    )
