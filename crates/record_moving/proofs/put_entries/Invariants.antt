-- `record_moving::put_entries` meets its contract. The invariant is `Carrying`: the later entries stand in the other form. Assumes nothing.
use mathlib.Core.Path.{◌≡◌}
use Prim.Native.Nat.{◌≤◌}
use lib.ListN.{length}
use Rattle.record_moving.proofs.Carrying.{Carrying}
use Rattle.record_moving.proofs.put_entries.Given as goal

abbrev pub invariant-loop-left : goal.invariant-loop-left
invariant-loop-left l =
    Carrying l.from l.to l.bytes l.initial.out l.out l.n l.end l.at l.place l._left
    × (length l.out ≡ length l.initial.out) × (l.place ≤ length l.bytes) × (l.at ≤ l.end)
