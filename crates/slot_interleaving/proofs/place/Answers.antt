-- `slot_interleaving::place` meets its contract. Assumes nothing.
use Prim.Native.Nat.{◌+◌, ◌*◌, ◌<◌}
use native.Mathlib.Omega.{arith}
use Rattle.slot_interleaving.proofs.PlaceSteps.{place-below, place_is}
use Rattle.slot_interleaving.proofs.place.Goals as goal
use Rattle.slot_interleaving.proofs.place.Goals.{Start}

below : (c : Start) → c.args.count * c.args.k + c.args.i < 2 * c.args.size
below c =
    let a = c.args in
    let r = c.requires in
    place-below a.size a.count a.i a.k r.size_from r.count_is r.word_below r.in_word

pub overflow_mul-result-2 : goal.overflow_mul-result-2
overflow_mul-result-2 c = omega (arith, below (goal.at.overflow_mul-result-2 c).Start)

pub overflow_sub-result : goal.overflow_sub-result
overflow_sub-result c = omega (arith, below (goal.at.overflow_sub-result c).Start)

pub overflow_sub-result-2 : goal.overflow_sub-result-2
overflow_sub-result-2 c = omega (arith, below (goal.at.overflow_sub-result-2 c).Start)

pub overflow_sub-result-3 : goal.overflow_sub-result-3
overflow_sub-result-3 c = omega (arith, below (goal.at.overflow_sub-result-3 c).Start)

pub returns-clause-value : goal.returns-clause-value
returns-clause-value c = place_is c.args.size c.args.count c.args.i c.args.k c.requires.count_is
