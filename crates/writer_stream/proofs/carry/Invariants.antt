-- `writer_stream::carry` meets its contract. The byte to grow counts as much as is still to be added. Assumes nothing.
use Rattle.writer_stream.proofs.Carrying.{Pending}
use Rattle.writer_stream.proofs.carry.Given as goal

abbrev pub invariant-loop-front : goal.invariant-loop-front
invariant-loop-front l = Pending l.n l.initial.front l.front l.j

abbrev pub decreases-loop-front : goal.decreases-loop-front
decreases-loop-front l = l.j
