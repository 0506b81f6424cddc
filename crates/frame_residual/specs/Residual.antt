-- Residual data (5.4.2.8): the bits left, the residual bits of LSB mode 0, a line's late low bits of LSB mode 1.
-- Assumes nothing.
use Rattle.std.specs.Prelude.{Option, Some, None, Result, Ok, Err}
use Rattle.std.specs.Prelude.{Bool, cond, List, ℕ, zero, suc, ◌+◌, ◌-◌, ◌*◌, ◌^◌, ltb, leb, eqb, get_or, set, ℤ, pos, negsuc}
use Rattle.frame_bits.specs.Read.{Read, value, cause}
use Rattle.frame_bits.specs.Bits.{bit_of}
use Rattle.frame_coder.specs.declared.Coder.{Coder}
use Rattle.frame_residual.specs.declared.LateRead.{LateRead}
use Rattle.refusals.specs.declared.Cause.{Cause}
use Rattle.refusals.specs.Numbers.{cause_number}

-- the largest k up to n with 2^k ≤ r: floor (log2 r) where r is below 2^(n + 1)
unfoldable pub log2_of : ℕ → ℕ → ℕ
log2_of r zero = 0
log2_of r (suc n) = cond (leb (2 ^ suc n) r) (suc n) (log2_of r n)

-- nbits_side + nbits_ari: the side bits read and the arithmetic stream's, 8 (bp - 3) + 25 - floor (log2 range)
abbrev pub used_bits : ℕ → Coder → ℕ
used_bits p c = p + (8 * (c.at - 3) + (25 - log2_of c.range 23))

-- nbits_residual; "fewer than no bits left for the residual" is cause 7
unfoldable pub left_of : ℕ → ℕ → Coder → Read ℕ ℕ
left_of bytes p c = cond (ltb (8 * bytes) (used_bits p c)) (cause 7) (value (8 * bytes - used_bits p c) p)

abbrev pub left_given : Result ℕ Cause → ℕ → Read ℕ ℕ
left_given (Ok n) p = value n p
left_given (Err why) p = cause (cause_number why)

abbrev pub is_zero : ℤ → Bool
is_zero (pos n) = eqb n 0
is_zero (negsuc n) = eqb 1 0

-- the residual bits and their number
pub record Residual : Type 0 where
  pub number : ℕ
  pub bits : List ℕ

abbrev pub residual_given : ℕ → List ℕ → Residual
residual_given number bits = record { number = number; bits = bits }

-- LSB mode 0: "one per non-zero line until the remaining bits run out, packed from the first entry in line order"; n lines from line k on
unfoldable pub residual_of : List ℕ → List ℤ → ℕ → ℕ → ℕ → ℕ → ℕ → List ℕ → Residual
residual_of s lines p left zero k count bits = record { number = count; bits = bits }
residual_of s lines p left (suc n) k count bits =
    cond (is_zero (get_or lines k (pos 0))) (residual_of s lines p left n (suc k) count bits)
    (cond (leb left count) (record { number = count; bits = bits })
    (residual_of s lines p left n (suc k) (suc count) (set bits count (bit_of s (p + count)))))

-- a line's late low bits: what it becomes, the next side bit, and the bits left; or no bit was left where one was wanted
pub data Late : Type 0 where
  line : ℤ → ℕ → ℕ → Late
  stop : Late

-- away from 0 by 1
abbrev pub away : ℤ → ℤ
away (pos n) = pos (suc n)
away (negsuc n) = negsuc (suc n)

-- the sign of a line that was 0 and has a low bit: another bit, where one is left
abbrev pub born_of : List ℕ → ℕ → ℕ → Late
born_of s p zero = stop
born_of s p (suc n) = line (cond (eqb (bit_of s p) 0) (pos 1) (negsuc 0)) (p + 1) n

-- LSB mode 1, one line: its low bit, where one is left
unfoldable pub late_of : List ℕ → ℤ → ℕ → ℕ → Late
late_of s v p zero = stop
late_of s v p (suc n) = cond (eqb (bit_of s p) 0) (line v (p + 1) n) (cond (is_zero v) (born_of s (p + 1) n) (line (away v) (p + 1) n))

abbrev pub late_given : Option LateRead → Late
late_given (Some l) = line l.value l.next l.left
late_given None = stop
