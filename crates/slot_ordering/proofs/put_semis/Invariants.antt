-- `slot_ordering::put_semis` meets its contract. The invariant of its loop stands at the head. Assumes nothing.
use Rattle.slot_ordering.proofs.OrderSteps.{digit}
use Rattle.laws.proofs.Fill.{Filled}
use lib.ListN.{length}
use mathlib.Core.Path.{◌≡◌}
use Prim.Native.Nat.{◌/◌, ◌^◌}
use Rattle.slot_ordering.proofs.put_semis.Given as goal

abbrev pub invariant-loop-c : goal.invariant-loop-c
invariant-loop-c l = (l.left ≡ l.v / 16 ^ l.c-index) × Filled (digit l.v) (length l.initial.out) l.c-index l.out
