-- `frame_coder::find` meets its contract. The loop carries the scaled entries round the symbol reached; the row rises, so it is the
-- largest. Assumes nothing.
use mathlib.Core.Path.{◌≡◌}
use Prim.Native.Nat.{◌+◌, ◌-◌, ◌*◌, ◌≤◌}
use lib.ListN.{get_or}
use Rattle.frame_coder.proofs.find.Given as goal

abbrev pub invariant-loop-above : goal.invariant-loop-above
invariant-loop-above l = (l.v ≤ l.last) × (l.below ≡ l.t * get_or l.cum (l.row + l.v) 0) ×
    (l.above ≡ l.t * get_or l.cum (l.row + (l.v + 1)) 0) × (l.below ≤ l.low)

abbrev pub decreases-loop-above : goal.decreases-loop-above
decreases-loop-above l = l.last - l.v
