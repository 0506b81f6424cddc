-- `slot_interleaving::write_slot` meets its contract. The invariant of its loop stands at the head. Assumes nothing.
use mathlib.Core.Path.{refl}
use Prim.Native.Nat.{◌≤◌, ◌-◌, ◌+◌}
use native.Mathlib.Omega.{arith}
use Rattle.slot_laws.specs.Sizes.{words}
use Rattle.slot_laws.proofs.Slot.{all_words, signature-lt}
use Rattle.slot_laws.proofs.RoomSteps.{WordPart, word-part, start_first, next_start, before-end, end-few}
use Rattle.slot_interleaving.proofs.PlaceSteps.{placed_first, placed-next, placed_below, part-long, part-scattered, written}
use Rattle.slot_interleaving.proofs.write_slot.Goals as goal
use Rattle.slot_interleaving.proofs.write_slot.Goals.{After-word_length, After-loop-i}

pub loop-i-init : goal.loop-i-init
loop-i-init c = let a = c.args in (start_first a.size a.mode, placed_first refl)

-- the data of word i
part : (c : After-word_length) → WordPart c.args.size c.args.mode c.loop-i.i c.loop-i.at c.word_length.result
    (c.loop-i.at + (c.word_length.result - (c.distance-checks.result - 1))) c.args.message.now
part c =
    word-part c.requires.range c.word_count-count.ensures.value c.loop-i-test.true c.loop-i.invariant.0 c.requires.given
    c.word_length.ensures.value c.distance-checks.ensures

pub overflow_add-e : goal.overflow_add-e
overflow_add-e c = record { fits = omega (arith, end-few (part (goal.at.overflow_add-e c).After-word_length)) }

pub slice_bounds-place_word-end : goal.slice_bounds-place_word-end
slice_bounds-place_word-end c = before-end (part (goal.at.slice_bounds-place_word-end c).After-word_length)

pub place_word-requires-clause-with_rows : goal.place_word-requires-clause-with_rows
place_word-requires-clause-with_rows c =
    let p = part (goal.at.place_word-requires-clause-with_rows c).After-word_length in
    record {
      range = p.range;
      word_below = p.inside;
      message_long = part-long p;
      rows_are = c.check_rows-rows.ensures.inside p.range.mode_from p.range.mode_to;
      places_long = c.loop-i.invariant.1.long;
    }

pub loop-i-preserved : goal.loop-i-preserved
loop-i-preserved c =
    let p = part (goal.at.loop-i-preserved c).After-word_length in
    let a = c.args in (
      next_start p,
      placed-next p.range.size_from (all_words a.size a.mode a.message.now p.range p.given) c.loop-i.invariant.1 p.inside
          (part-scattered p c.loop-i.places c.place_word.new.places c.place_word.ensures),
    )

all_placed : (c : After-loop-i) → words c.args.size ≤ c.loop-i.i
all_placed c = omega (arith, c.word_count-count.ensures.value, c.loop-i-test.false)

pub pack_bytes-requires : goal.pack_bytes-requires
pack_bytes-requires c =
    let a = c.args in
    let z = c.requires.range.size_to in
    let w = all_words a.size a.mode a.message.now c.requires.range c.requires.given in
    record {
      many = omega (arith, c.requires.long, c.loop-i.invariant.1.long, z);
      few = omega (arith, c.requires.long, z);
      below = λ p q.
          placed_below c.requires.range.size_from w c.loop-i.invariant.1 (signature-lt a.mode)
          (all_placed (goal.at.pack_bytes-requires c).After-loop-i) p (omega (arith, c.requires.long, q));
    }

pub returns : goal.returns
returns c =
    written c.args.slot.now c.requires.range c.requires.given c.requires.long c.loop-i.invariant.1
    (all_placed (goal.at.returns c).After-loop-i) c.pack_bytes.ensures
