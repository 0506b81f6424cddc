-- `slot_clean::receive_data` meets its contract. The invariant of its loop stands at the head. Assumes nothing.
use mathlib.Core.Path.{refl}
use Prim.Native.Nat.{◌<◌, ◌-◌, ◌+◌}
use native.Mathlib.Omega.{arith}
use lib.ListN.{length}
use Rattle.laws.proofs.Fill.{filled-first, filled_next}
use Rattle.slot_laws.specs.Sizes.{word_length, data_length}
use Rattle.code_word_laws.proofs.Checks.{summed-none, summed-next}
use Rattle.slot_interleaving.proofs.PlaceSteps.{data-in, has-place, in_row}
use Rattle.slot_clean.proofs.CleanSteps.{data-at, data-last}
use Rattle.slot_clean.proofs.receive_data.Invariants.{datum}
use Rattle.slot_clean.proofs.receive_data.Goals as goal
use Rattle.slot_clean.proofs.receive_data.Goals.{In-loop-k}

pub loop-k-init : goal.loop-k-init
loop-k-init c =
    let a = c.args in
    let wanted = datum a.size a.mode a.places.now a.i in
    (filled-first wanted (length a.w.now) a.w.now refl, summed-none a.rows.now wanted)

in-data : (c : In-loop-k) → c.loop-k.k < data_length c.args.size c.args.mode c.args.i
in-data c = omega (arith, c.requires.w_len, c.loop-k-test.true, c.loop-k.invariant.0.long)

in_word : (c : In-loop-k) → c.distance-checks.result - 1 + c.loop-k.k < word_length c.args.size c.args.i
in_word c = data-in c.requires.at_word c.distance-checks.ensures (in-data c)

pub place-requires : goal.place-requires
place-requires c =
    has-place c.requires.at_word c.word_count-count.ensures.value (in_word (goal.at.place-requires c).In-loop-k)

pub bounds-row-checks : goal.bounds-row-checks
bounds-row-checks c = in_row c.requires.at_word (in_word (goal.at.bounds-row-checks c).In-loop-k)

pub loop-k-preserved : goal.loop-k-preserved
loop-k-preserved c =
    let d = in-data (goal.at.loop-k-preserved c).In-loop-k in
    let wanted = datum c.args.size c.args.mode c.args.places.now c.args.i in
    let x = data-at c.requires.at_word c.distance-checks.ensures d c.place.ensures.value in (
      filled_next wanted (length c.args.w.now) c.loop-k.k c.loop-k.w _ c.loop-k.invariant.0
          (omega (arith, c.loop-k-test.true, c.loop-k.invariant.0.long)) x,
      summed-next c.args.rows.now wanted c.loop-k.k _ c.loop-k.r c.with_data-r.result x c.loop-k.invariant.1
          c.with_data-r.ensures,
    )

pub returns-clause-w_after : goal.returns-clause-w_after
returns-clause-w_after c =
    data-last c.requires.at_word c.requires.w_len c.loop-k.invariant.0 (omega (arith, c.requires.w_len))
