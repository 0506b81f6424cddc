-- `slot_interleaving::pack_bytes` meets its contract. The invariant of its loop stands at the head. Assumes nothing.
use Rattle.laws.proofs.Fill.{Filled}
use lib.ListN.{length, get_or}
use mathlib.Core.List.{List}
use Prim.Native.Nat.{ℕ, ◌+◌, ◌*◌}
use Rattle.slot_interleaving.proofs.pack_bytes.Given as goal

abbrev pub byte_of : List ℕ → ℕ → ℕ
byte_of places j = get_or places (2 * j) 0 + 16 * get_or places (2 * j + 1) 0

abbrev pub invariant-loop-j : goal.invariant-loop-j
invariant-loop-j l = Filled (byte_of l.places) (length l.initial.slot) l.j l.slot
