-- `slot_gathering::receive` meets its contract. The invariant of its loop stands at the head. Assumes nothing.
use mathlib.Core.Path.{refl}
use Prim.Native.Nat.{◌<◌}
use native.Mathlib.Omega.{arith}
use lib.ListN.{length, get_or}
use Rattle.laws.proofs.Fill.{filled-first, filled_next}
use Rattle.slot_laws.specs.Sizes.{word_length}
use Rattle.slot_clean.specs.Inner.{word_from}
use Rattle.slot_interleaving.proofs.PlaceSteps.{has-place, in_row}
use Rattle.slot_clean.proofs.CleanSteps.{from_at}
use Rattle.slot_gathering.proofs.Arriving.{arrived-last}
use Rattle.slot_gathering.proofs.receive.Goals as goal

pub loop-k-init : goal.loop-k-init
loop-k-init c =
    let a = c.args in
    filled-first (λ j. get_or (word_from a.size a.mode a.places.now a.i) j 0) (length a.w.now) a.w.now refl

pub place-requires : goal.place-requires
place-requires c =
    let in_word : c.loop-k.k < word_length c.args.size c.args.i = omega arith in
    has-place c.requires.at_word c.word_count-count.ensures.value in_word

pub bounds-row-k : goal.bounds-row-k
bounds-row-k c =
    let in_word : c.loop-k.k < word_length c.args.size c.args.i = omega arith in
    in_row c.requires.at_word in_word

pub loop-k-preserved : goal.loop-k-preserved
loop-k-preserved c =
    let a = c.args in
    let in_word : c.loop-k.k < word_length a.size a.i = omega arith in
    filled_next (λ j. get_or (word_from a.size a.mode a.places.now a.i) j 0) (length a.w.now) c.loop-k.k c.loop-k.w _
    c.loop-k.invariant (omega arith) (from_at c.requires.at_word in_word c.place.ensures.value)

pub returns : goal.returns
returns c =
    let a = c.args in
    arrived-last a.size a.mode a.i (length a.w.now) c.loop-k.k a.places.now c.loop-k.w c.requires.w_len (omega arith)
    c.loop-k.invariant
