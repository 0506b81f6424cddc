-- `record_listing::put_lines` meets its contract. The invariant is `Lining`: the lines of the later entries stand. Assumes nothing.
use mathlib.Core.Path.{◌≡◌}
use Prim.Native.Nat.{◌≤◌}
use lib.ListN.{length}
use Rattle.record_listing.proofs.Lines.{Lining}
use Rattle.record_listing.proofs.put_lines.Given as goal

abbrev pub invariant-loop-left : goal.invariant-loop-left
invariant-loop-left l =
    Lining l.form l.bytes l.initial.out l.out l.end l.left l.at l.n × (length l.out ≡ length l.initial.out)
    × (l.end ≤ length l.bytes) × (l.left ≤ l.n)
