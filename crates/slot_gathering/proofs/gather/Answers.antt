-- `slot_gathering::gather` meets its contract. The loop has the data of the first words where they belong, and the sum of their counts.
-- Assumes nothing.
use mathlib.Core.Path.{sym}
use Prim.Native.Nat.{◌-◌, ◌+◌, ◌*◌, ◌≤◌}
use native.Mathlib.Omega.{arith}
use Rattle.laws.proofs.Tab.{total-none}
use Rattle.slot_laws.specs.Sizes.{word_length}
use Rattle.slot_laws.proofs.Sizes.{words-high}
use Rattle.slot_laws.proofs.RoomSteps.{WordPart, word-part, start_first, next_start, before-end, end-few}
use Rattle.slot_gathering.proofs.Arriving.{next-from}
use Rattle.slot_gathering.proofs.Gathering.{ends-in, fits-in, gathered_next, gathered-first}
use Rattle.slot_gathering.proofs.gather.Goals as goal
use Rattle.slot_gathering.proofs.gather.Goals.{After-word_length-long}

-- where the data of the loop's word belong
part : (c : After-word_length-long) → let e = c.loop-i.at + (c.word_length-long.result - (c.distance-checks.result - 1)) in
    WordPart c.args.size c.args.mode c.loop-i.i c.loop-i.at c.word_length-long.result e c.loop-i.message
part c =
    let now = c.loop-i.invariant in
    word-part c.requires.semi_octets_of.range c.requires.rooms.many c.loop-i-test.true now.room now.gathered.given
    c.word_length-long.ensures.value c.distance-checks.ensures

word-ends : (c : After-word_length-long) → c.loop-i.from + c.word_length-long.result ≤ 2 * c.args.size
word-ends c = ends-in (part c) c.requires.semi_octets_of c.loop-i.invariant.place c.distance-checks.ensures

pub loop-i-init : goal.loop-i-init
loop-i-init c =
    let a = c.args in
    record {
      sum_to = omega arith;
      bits_to = omega arith;
      place = sym (total-none (word_length a.size));
      room = start_first a.size a.mode;
      gathered = gathered-first a.size a.mode a.all.now a.counts.now a.bits.now a.message.now c.requires.rooms.given;
    }

pub overflow_add-e : goal.overflow_add-e
overflow_add-e c = record { fits = omega (arith, end-few (part c)) }

pub slice_bounds-copy-end : goal.slice_bounds-copy-end
slice_bounds-copy-end c = before-end (part c)

pub overflow_add-from : goal.overflow_add-from
overflow_add-from c =
    let ends = word-ends (goal.at.overflow_add-from c).After-word_length-long in
    record { fits = omega arith }

pub slice_bounds-copy-end-in-loop-i : goal.slice_bounds-copy-end-in-loop-i
slice_bounds-copy-end-in-loop-i c =
    let at-word = (goal.at.slice_bounds-copy-end-in-loop-i c).After-word_length-long in
    fits-in (part at-word) c.requires.semi_octets_of c.loop-i.invariant.place c.distance-checks.ensures

pub overflow_add-from-in-loop-i : goal.overflow_add-from-in-loop-i
overflow_add-from-in-loop-i c =
    let ends = word-ends (goal.at.overflow_add-from-in-loop-i c).After-word_length-long in
    record { fits = omega arith }

pub overflow_add-sum : goal.overflow_add-sum
overflow_add-sum c =
    let few = words-high c.args.size in
    record { fits = omega arith }

pub overflow_add-bit_sum : goal.overflow_add-bit_sum
overflow_add-bit_sum c =
    let few = words-high c.args.size in
    record { fits = omega arith }

pub loop-i-preserved : goal.loop-i-preserved
loop-i-preserved c =
    let a = c.args in
    let now = c.loop-i.invariant in
    let word = part (goal.at.loop-i-preserved c).After-word_length-long in
    record {
      sum_to = omega arith;
      bits_to = omega arith;
      place = next-from a.size c.loop-i.i c.loop-i.from c.word_length-long.result now.place c.word_length-long.ensures.value;
      room = next_start word;
      gathered = gathered_next word c.requires.semi_octets_of now.place c.distance-checks.ensures c.copy.ensures
          now.gathered c.from-sum.ensures c.from-bit_sum.ensures (omega (arith, c.from.ensures, c.if-mode-from.false));
    }
