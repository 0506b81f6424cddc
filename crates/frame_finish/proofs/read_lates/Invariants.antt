-- `frame_finish::read_lates` meets its contract. The invariant: what is still to be read gives the whole, and the lines to come have
-- room.
-- Assumes nothing.
use mathlib.Core.Path.{◌≡◌}
use Prim.Native.Nat.{◌+◌, ◌*◌, ◌≤◌, ◌-◌}
use lib.ListN.{length}
use Rattle.frame_finish.specs.Finish.{lates_of}
use Rattle.frame_finish.proofs.LateLines.{RoomFrom}
use Rattle.frame_finish.proofs.read_lates.Given as goal

abbrev pub invariant-loop-k : goal.invariant-loop-k
invariant-loop-k l =
    (l.p + l.left ≤ 8 * length l.s) × RoomFrom l.k l.levels l.lines
    × (lates_of l.s l.levels (l.n - l.k) l.k l.lines l.p l.left ≡ lates_of l.s l.levels l.n 0 l.initial.lines l.start l.room)
