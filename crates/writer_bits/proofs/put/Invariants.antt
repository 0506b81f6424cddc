-- `writer_bits::put` meets its contract: what is held and the value are one number, whose bytes are written. Assumes nothing.
use mathlib.Core.Path.{◌≡◌}
use Prim.Native.Nat.{ℕ, ◌+◌, ◌-◌, ◌*◌, ◌/◌, ◌%◌, ◌^◌, ◌<◌}
use lib.ListN.{get_or}
use Rattle.writer_bits.proofs.put.Given as goal

abbrev pub invariant-loop-b : goal.invariant-loop-b
invariant-loop-b l = record {
  held : l.held < 2 ^ (l.at + l.w - 8 * (l.at / 8 + l.b-index));
  rest : l.held ≡ l.initial.held / 2 ^ (8 * l.b-index);
  full : (i : ℕ) → i < l.b-index → get_or l.b-items i 0 ≡ l.initial.held / 2 ^ (8 * i) % 256;
}
