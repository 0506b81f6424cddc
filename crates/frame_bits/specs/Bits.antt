-- The side stream (5.4.2.9, read_bit and read_uint): bits from the last byte backwards, lowest bit first, lowest value bit first.
-- The cursor is the number of bits read, so bit p stands in byte bp_side = length - 1 - p / 8, at bit p % 8. Assumes nothing.
use Rattle.std.specs.Prelude.{cond, List, ℕ, zero, suc, ◌+◌, ◌-◌, ◌*◌, ◌/◌, ◌%◌, ◌^◌, ltb, leb, length, get_or}
use Rattle.frame_bits.specs.Read.{Read, value, cause}

-- bit p of the side stream
abbrev pub bit_of : List ℕ → ℕ → ℕ
bit_of s p = get_or s (length s - 1 - p / 8) 0 / 2 ^ (p % 8) % 2

-- the number in n bits from p on
unfoldable pub bits_of : List ℕ → ℕ → ℕ → ℕ
bits_of s p zero = 0
bits_of s p (suc n) = bits_of s p n + bit_of s (p + n) * 2 ^ n

-- read_bit; a bit before byte 0 is cause 6
unfoldable pub read_bit : List ℕ → ℕ → Read ℕ ℕ
read_bit s p = cond (ltb p (8 * length s)) (value (bit_of s p) (p + 1)) (cause 6)

-- read_uint: a field of n bits; one that is not sent has none, and is 0
unfoldable pub read_bits : List ℕ → ℕ → ℕ → Read ℕ ℕ
read_bits s p n = cond (leb (p + n) (8 * length s)) (value (bits_of s p n) (p + n)) (cause 6)
