-- `slot_delivery::roll` meets its contract. The invariant of its loop stands at the head. Assumes nothing.
use Rattle.laws.proofs.Fill.{Filled}
use lib.ListN.{get_or}
use mathlib.Core.List.{List}
use Prim.Native.Nat.{ℕ, ◌-◌, ◌*◌, ◌+◌}
use Rattle.slot_delivery.proofs.roll.Given as goal

-- byte j of a frame of n bytes, from its semi-octets
abbrev pub byte_at : List ℕ → ℕ → ℕ → ℕ
byte_at a n j = get_or a (2 * n - 1 - 2 * j) 0 + 16 * get_or a (2 * n - 1 - (2 * j + 1)) 0

abbrev pub invariant-loop-j : goal.invariant-loop-j
invariant-loop-j l = Filled (byte_at l.a l.n) l.n l.j l.frame
