-- `writer_stream::widen` meets its contract. The loop keeps what is still to be shifted equal to the whole; two shifts are enough.
-- Assumes nothing.
use Prim.Native.Nat.{◌-◌}
use Rattle.writer_stream.proofs.Shifting.{Widening}
use Rattle.writer_stream.proofs.widen.Given as goal

abbrev pub invariant-loop-range : goal.invariant-loop-range
invariant-loop-range l =
    Widening l.initial.front (record { low = l.initial.low; range = l.initial.range; at = l.initial.at; taken = l.taken })
    l.front (record { low = l.low; range = l.range; at = l.at; taken = l.taken }) (2 - (l.at - l.initial.at))

abbrev pub decreases-loop-range : goal.decreases-loop-range
decreases-loop-range l = 2 - (l.at - l.initial.at)
