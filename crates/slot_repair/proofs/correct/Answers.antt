-- `slot_repair::correct` meets its contract. The words are dealt out by A.8, and what is left of each is its answer. Assumes nothing.
use mathlib.Core.Path.{◌≡◌, sym, ◌∙◌}
use Prim.Native.Nat.{◌+◌, ◌-◌, ◌*◌, ◌≤◌}
use native.Mathlib.Omega.{arith}
use lib.ListN.{length}
use Rattle.slot_laws.proofs.Sizes.{words-low}
use Rattle.slot_laws.proofs.Semi.{semi-octets-of}
use Rattle.code_word_laws.specs.Corrector.{Dealt}
use Rattle.slot_repair.proofs.BatchSteps.{Answered, dealt-out, dealt-few, answered, repaired}
use Rattle.slot_repair.proofs.correct.Goals as goal
use Rattle.slot_repair.proofs.correct.Goals.{After-receive_all, After-word_length-long, After-correct_words}

-- there is a word
some : (c : After-receive_all) → 1 ≤ length c.args.counts.now
some c = omega (arith, words-low c.args.size c.requires.semi_octets_of.range.size_from)

-- the words as they are dealt out
dealt : (c : After-word_length-long) → let n = length c.args.counts.now in
    Dealt (length c.receive_all.new.all) n c.word_length-long.result (2 * c.args.size - n * c.word_length-long.result)
dealt c =
    dealt-out c.args.size c.args.mode _ c.word_length-long.result c.receive_all.new.all c.requires.semi_octets_of.range
    c.receive_all.ensures.long c.requires.rooms.many c.word_length-long.ensures.value

few : (c : After-word_length-long) → length c.args.counts.now * c.word_length-long.result ≤ 2 * c.args.size
few c = dealt-few c.args.size _ _ _ c.receive_all.new.all c.receive_all.ensures.long (dealt c)

-- what is left of each word
each : (c : After-correct_words)
    → Answered c.args.size c.args.mode c.args.places.now c.correct_words.new.words c.correct_words.new.counts c.correct_words.new.bits
each c =
    let a = c.args in
    let m = c.requires.rooms in
    let e : a.mode - 1 + 1 ≡ a.mode = omega (arith, c.requires.semi_octets_of.range.mode_from) in
    answered a.size a.mode a.places.now c.receive_all.new.all c.requires.semi_octets_of.range c.receive_all.ensures
    c.correct_words.new.words c.correct_words.new.counts c.correct_words.new.bits c.correct_words.auto.words
    (c.correct_words.auto.counts ∙ m.many) (c.correct_words.auto.bits ∙ m.many_bits)
    (rw e at c.correct_words.ensures)

pub overflow_sub-count : goal.overflow_sub-count
overflow_sub-count c = some (goal.at.overflow_sub-count c).After-receive_all

pub word_length-long-requires : goal.word_length-long-requires
word_length-long-requires c =
    let s = some (goal.at.word_length-long-requires c).After-receive_all in
    record {
      le_size = c.requires.semi_octets_of.range.size_from;
      size_bound = c.requires.semi_octets_of.range.size_to;
      count_value = c.requires.rooms.many;
      i_bound = omega arith;
    }

pub overflow_mul-over-2 : goal.overflow_mul-over-2
overflow_mul-over-2 c =
    let f = few (goal.at.overflow_mul-over-2 c).After-word_length-long in
    record { fits = omega arith }

pub overflow_sub-over : goal.overflow_sub-over
overflow_sub-over c = few (goal.at.overflow_sub-over c).After-word_length-long

pub correct_words-requires : goal.correct_words-requires
correct_words-requires c =
    let m = c.requires.rooms in
    record {
      sought = record { most_from = omega arith; most_to = omega arith };
      dealt = dealt (goal.at.correct_words-requires c).After-word_length-long;
      semi_octets = semi-octets-of c.receive_all.new.all c.receive_all.ensures.below;
      bits_len = m.many_bits ∙ sym m.many;
    }

pub gather-requires : goal.gather-requires
gather-requires c =
    let e = each (goal.at.gather-requires c).After-correct_words in
    record {
      semi_octets_of = record { range = c.requires.semi_octets_of.range; long = e.long; below = e.below };
      rooms = record { many = e.many; many_bits = e.many_bits; given = c.requires.rooms.given };
    }

pub returns : goal.returns
returns c =
    let left = c.correct_words.new in
    record {
      repair_from = repaired c.args.size c.args.mode c.args.places.now left.words left.counts left.bits c.gather.new.message
          c.gather.result c.requires.semi_octets_of.range (each (goal.at.returns c).After-correct_words) c.gather.ensures.gathered;
      fact = c.gather.ensures.fact;
    }
