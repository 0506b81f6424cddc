-- `slot_clean::unpack` meets its contract. The invariant of its loop stands at the head. Assumes nothing.
use Prim.Native.Nat.{◌*◌}
use lib.ListN.{length}
use Rattle.laws.proofs.Fill.{Filled}
use Rattle.slot_laws.specs.Semi.{semi}
use Rattle.slot_clean.proofs.unpack.Given as goal

abbrev pub invariant-loop-j : goal.invariant-loop-j
invariant-loop-j l = Filled (semi l.slot) (length l.initial.places) (2 * l.j) l.places
