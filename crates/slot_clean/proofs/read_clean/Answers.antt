-- `slot_clean::read_clean` meets its contract. The loop has the data of the first words where they belong, each under its own word.
-- Assumes nothing.
use Prim.Native.Nat.{◌-◌, ◌+◌}
use native.Mathlib.Omega.{arith}
use Rattle.slot_laws.proofs.RoomSteps.{WordPart, word-part, start_first, next_start, before-end, end-few, room-is}
use Rattle.slot_clean.proofs.CleanSteps.{clean-first, clean-data, clean-next}
use Rattle.slot_clean.proofs.read_clean.Goals as goal
use Rattle.slot_clean.proofs.read_clean.Goals.{After-word_length}

pub loop-i-init : goal.loop-i-init
loop-i-init c =
    let a = c.args in
    (start_first a.size a.mode, c.requires.fact, clean-first a.size a.mode a.places.now a.message.now)

-- the room for the data of word i
part : (c : After-word_length) → WordPart c.args.size c.args.mode c.loop-i.i c.loop-i.at c.word_length.result
    (c.loop-i.at + (c.word_length.result - (c.distance-checks.result - 1))) c.loop-i.message
part c =
    word-part c.requires.semi_octets_of.range c.word_count-count.ensures.value c.loop-i-test.true c.loop-i.invariant.0
    c.loop-i.invariant.1 c.word_length.ensures.value c.distance-checks.ensures

pub overflow_add-e : goal.overflow_add-e
overflow_add-e c = record { fits = omega (arith, end-few (part (goal.at.overflow_add-e c).After-word_length)) }

pub slice_bounds-read_clean_word-end : goal.slice_bounds-read_clean_word-end
slice_bounds-read_clean_word-end c = before-end (part (goal.at.slice_bounds-read_clean_word-end c).After-word_length)

pub read_clean_word-requires-clause-with_rows : goal.read_clean_word-requires-clause-with_rows
read_clean_word-requires-clause-with_rows c =
    let p = part (goal.at.read_clean_word-requires-clause-with_rows c).After-word_length in
    record {
      range = p.range;
      word_below = p.inside;
      message_long = room-is p;
      rows_are = c.check_rows-rows.ensures.inside p.range.mode_from p.range.mode_to;
      places_long = c.requires.semi_octets_of.long;
    }

pub returns-then-not-read_clean_word-clause-fact_2 : goal.returns-then-not-read_clean_word-clause-fact_2
returns-then-not-read_clean_word-clause-fact_2 c =
    let p = part (goal.at.returns-then-not-read_clean_word-clause-fact_2 c).After-word_length in
    clean-data c.args.places.now p c.requires.semi_octets_of.below c.read_clean_word.ensures.w_after

pub loop-i-preserved : goal.loop-i-preserved
loop-i-preserved c =
    let p = part (goal.at.loop-i-preserved c).After-word_length in (
      next_start p,
      clean-data c.args.places.now p c.requires.semi_octets_of.below c.read_clean_word.ensures.w_after,
      clean-next c.args.places.now p c.requires.semi_octets_of.below c.read_clean_word.ensures.w_after c.loop-i.invariant.2
          (c.read_clean_word.ensures.clean_over c.if-not-read_clean_word.false),
    )
