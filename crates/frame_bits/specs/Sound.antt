-- What the reader's own steps promise each other beside their definitions: bounds of what is read, and cursors that stay inside.
-- No public promise but `Bounded` of `frame` rests on a line of this. Assumes nothing.
use Rattle.std.specs.Prelude.{◌≡◌, Result, Ok, Err, List, ℕ, zero, suc, ◌+◌, ◌-◌, ◌*◌, ◌^◌, ◌<◌, length, get_or}
use Rattle.frame_bits.specs.Read.{value}
use Rattle.frame_bits.specs.Bits.{read_bits}
use Rattle.frame_bits.specs.declared.Step.{Step}
use Rattle.refusals.specs.declared.Cause.{Cause}

-- one bit
abbrev pub GoodBit : List ℕ → ℕ → Result (Step ℕ ℕ) Cause → Type 0
GoodBit s p (Ok bit) = (bit.value < 2) × (bit.next ≡ p + 1) × (p < 8 * length s)
GoodBit s p (Err why) = Unit {0}

-- the number in k bytes from a place back, the first the lowest
unfoldable pub back_of : List ℕ → ℕ → ℕ → ℕ
back_of s at zero = 0
back_of s at (suc k) = get_or s at 0 + 256 * back_of s (at - 1) k

-- a field of n bits inside the frame
pub record GoodField (s : List ℕ) (p n : ℕ) (f : Step ℕ ℕ) : Type 0 where
  pub found : read_bits s p n ≡ value f.value f.next
  pub below : f.value < 2 ^ n
  pub next : f.next ≡ p + n
