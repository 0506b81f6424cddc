-- `slot_gathering::receive` meets its contract. The invariant of its loop stands at the head. Assumes nothing.
use lib.ListN.{length, get_or}
use Rattle.laws.proofs.Fill.{Filled}
use Rattle.slot_clean.specs.Inner.{word_from}
use Rattle.slot_gathering.proofs.receive.Given as goal

abbrev pub invariant-loop-k : goal.invariant-loop-k
invariant-loop-k l = Filled (λ j. get_or (word_from l.size l.mode l.places l.i) j 0) (length l.initial.w) l.k l.w
