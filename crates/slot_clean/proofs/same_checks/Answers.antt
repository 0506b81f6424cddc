-- `slot_clean::same_checks` meets its contract. The invariant of its loop stands at the head. Assumes nothing.
use Prim.Native.Nat.{◌<◌, ◌-◌}
use native.Mathlib.Omega.{arith}
use Rattle.code_word_laws.specs.Word.{distance}
use Rattle.slot_clean.specs.Inner.{checks_from}
use Rattle.slot_interleaving.proofs.PlaceSteps.{check-in, has-place}
use Rattle.slot_clean.proofs.CleanSteps.{check-at, length-checks, compared-next, compared-last}
use Rattle.slot_clean.proofs.same_checks.Goals as goal
use Rattle.slot_clean.proofs.same_checks.Goals.{In-loop-k}

in-checks : (c : In-loop-k) → c.loop-k.k - 1 < distance c.args.mode - 1
in-checks c = omega (arith, c.loop-k-test.true)

pub place-requires : goal.place-requires
place-requires c =
    has-place c.requires c.word_count-count.ensures.value (check-in c.requires (in-checks (goal.at.place-requires c).In-loop-k))

pub loop-k-preserved : goal.loop-k-preserved
loop-k-preserved c =
    let a = c.args in
    compared-next (distance a.mode - 1) a.r (checks_from a.size a.mode a.places.now a.i) c.loop-k.k c.loop-k.rest
    c.loop-k.bits _ (length-checks c.requires) (omega arith) (omega arith)
    (check-at c.requires (in-checks (goal.at.loop-k-preserved c).In-loop-k) c.place.ensures.value) c.loop-k.invariant

pub returns : goal.returns
returns c =
    let a = c.args in
    let h = c.loop-k in
    compared-last (distance a.mode - 1) a.r (checks_from a.size a.mode a.places.now a.i) h.k h.rest h.bits
    (omega arith) h.invariant
