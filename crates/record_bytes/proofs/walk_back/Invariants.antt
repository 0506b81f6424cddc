-- `record_bytes::walk_back` meets its contract. The invariant is `Walking`: what is left to read gives, with the later entries, the whole.
-- Assumes nothing.
use Prim.Native.Nat.{◌≤◌}
use lib.ListN.{length}
use Rattle.record_bytes.proofs.Walking.{Walking}
use Rattle.record_bytes.proofs.walk_back.Given as goal

abbrev pub invariant-loop-left : goal.invariant-loop-left
invariant-loop-left l = (l.end ≤ length l.bytes) × (l.end ≤ 65536) × Walking l.form l.bytes l.end l.left l.place l.entries l.found
