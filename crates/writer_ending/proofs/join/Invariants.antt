-- `writer_ending::join` meets its contract. The invariant: the first i bytes are joined. Assumes nothing.
use Prim.Native.Nat.{◌+◌, ◌-◌}
use lib.ListN.{get_or}
use Rattle.laws.proofs.Fill.{Filled}
use Rattle.writer_ending.proofs.join.Given as goal

abbrev pub invariant-loop-i : goal.invariant-loop-i
invariant-loop-i l = Filled (λ k. get_or l.front k 0 + get_or l.side (l.n - 1 - k) 0) l.n l.i l.frame
