-- `record_putting::put_frame` meets its contract. The invariant: the first i bytes are put. Assumes nothing.
use mathlib.Core.Path.{◌≡◌}
use Prim.Native.Nat.{◌+◌, ◌-◌, ◌≤◌}
use lib.ListN.{length, take}
use Rattle.record_bytes.specs.Steps.{put}
use Rattle.record_putting.proofs.put_frame.Given as goal

abbrev pub invariant-loop-i : goal.invariant-loop-i
invariant-loop-i l =
    (l.i ≤ length l.frame) × (length l.out ≡ length l.initial.out) × (l.out ≡ put l.initial.out l.at (take l.i l.frame))
    × (l.last + 16 ≡ length l.frame)

abbrev pub decreases-loop-i : goal.decreases-loop-i
decreases-loop-i l = length l.frame - l.i
