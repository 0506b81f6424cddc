-- `slot_interleaving::scatter_data` meets its contract. The invariant of its loop stands at the head. Assumes nothing.
use mathlib.Core.Path.{◌≡◌, refl, ap}
use Prim.Native.Nat.{ℕ, ◌<◌, ◌-◌, ◌+◌}
use native.Mathlib.Omega.{arith}
use lib.ListN.{get_or}
use Rattle.code_word_laws.specs.Word.{distance}
use Rattle.slot_laws.specs.Sizes.{word_length}
use Rattle.code_word_laws.proofs.Checks.{summed-none, summed-next}
use Rattle.slot_interleaving.proofs.PlaceSteps.{data-in, has-place, in_row, span_none, span-up}
use Rattle.slot_interleaving.proofs.scatter_data.Goals as goal
use Rattle.slot_interleaving.proofs.scatter_data.Goals.{In-loop-k}

pub loop-k-init : goal.loop-k-init
loop-k-init c = let a = c.args in (summed-none a.rows.now (λ j. get_or a.message.now j 0), span_none (omega arith))

in_word : (c : In-loop-k) → c.distance-checks.result - 1 + c.loop-k.k < word_length c.args.size c.args.i
in_word c = data-in c.requires.at_word c.distance-checks.ensures (omega (arith, c.requires.message_len, c.loop-k-test.true))

pub bounds-row-checks : goal.bounds-row-checks
bounds-row-checks c = in_row c.requires.at_word (in_word (goal.at.bounds-row-checks c).In-loop-k)

pub place-requires : goal.place-requires
place-requires c =
    has-place c.requires.at_word c.word_count-count.ensures.value (in_word (goal.at.place-requires c).In-loop-k)

pub loop-k-preserved : goal.loop-k-preserved
loop-k-preserved c =
    let a = c.args in
    let d = c.distance-checks.ensures.is in
    let e : c.loop-k.k ≡ c.distance-checks.result - 1 + c.loop-k.k - (distance a.mode - 1) = omega arith in
    let w = in_word (goal.at.loop-k-preserved c).In-loop-k in (
      summed-next a.rows.now (λ j. get_or a.message.now j 0) c.loop-k.k _ c.loop-k.r _ refl c.loop-k.invariant.0
          c.with_data-r.ensures,
      span-up c.requires.at_word c.loop-k.invariant.1 c.place.ensures.value (ap (λ (x : ℕ). get_or a.message.now x 0) e)
          (omega arith) (omega arith) (omega arith) (omega arith),
    )
