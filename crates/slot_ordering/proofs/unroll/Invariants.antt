-- `slot_ordering::unroll` meets its contract. The invariant of its loop stands at the head. Assumes nothing.
use Rattle.slot_ordering.proofs.OrderSteps.{turned}
use Rattle.laws.proofs.Fill.{Filled}
use lib.ListN.{length}
use mathlib.Core.Path.{◌≡◌}
use Prim.Native.Nat.{◌*◌}
use Rattle.slot_ordering.proofs.unroll.Given as goal

abbrev pub invariant-loop-k : goal.invariant-loop-k
invariant-loop-k l = (length l.out ≡ 2 * l.n) × Filled (turned l.frame) (2 * length l.frame) (2 * l.k) l.out
