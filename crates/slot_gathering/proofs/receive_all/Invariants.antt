-- `slot_gathering::receive_all` meets its contract. The loop has the first words in front, joined. Assumes nothing.
use Rattle.slot_gathering.proofs.Arriving.{ArrivedTo}
use Rattle.slot_gathering.proofs.receive_all.Given as goal

abbrev pub invariant-loop-i : goal.invariant-loop-i
invariant-loop-i l = ArrivedTo l.size l.mode l.places l.i l.at l.all
