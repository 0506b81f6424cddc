-- The arithmetic stream (5.4.2.9, ac_dec_init and ac_decode): three bytes first, then a symbol of a row of cumulative frequencies.
-- Assumes nothing.
use Rattle.std.specs.Prelude.{cond, List, ℕ, zero, suc, ◌+◌, ◌-◌, ◌*◌, ◌/◌, ◌%◌, ltb, leb, length, get_or}
use Rattle.frame_bits.specs.Read.{Read, value, cause}
use Rattle.frame_coder.specs.declared.Coder.{Coder}

-- ac_dec_init: three bytes, most significant first; `at` is bp, and no symbol was taken
abbrev pub start_of : List ℕ → Coder
start_of s = record { low = (get_or s 0 0 * 256 + get_or s 1 0) * 256 + get_or s 2 0; range = 16777215; at = 3; taken = 0 }

-- the largest v up to n whose cumulative frequency, scaled by t, is not above low; the row starts at entry `row`
unfoldable pub largest : List ℕ → ℕ → ℕ → ℕ → ℕ → ℕ
largest cum row t low zero = 0
largest cum row t low (suc n) = cond (leb (t * get_or cum (row + suc n) 0) low) (suc n) (largest cum row t low n)

-- a byte more at the end of low
abbrev pub fed_of : List ℕ → Coder → Coder
fed_of s c =
    record { low = c.low * 256 % 16777216 + get_or s c.at 0; range = c.range * 256; at = c.at + 1; taken = c.taken }

-- a byte is taken while the range is below 2^16; "a byte outside the frame is wanted" is cause 6. Two are enough: a range is at least 2^6
-- here
unfoldable pub refill_of : List ℕ → ℕ → ℕ → Coder → Read Coder ℕ
refill_of s zero v c = value v c
refill_of s (suc n) v c =
    cond (ltb c.range 65536) (cond (ltb c.at (length s)) (refill_of s n v (fed_of s c)) (cause 6)) (value v c)

-- the stream behind symbol v, before bytes are taken: t scales the row, and one symbol more counts
abbrev pub narrowed : List ℕ → ℕ → ℕ → ℕ → Coder → Coder
narrowed cum row t v c =
    record {
      low = c.low - t * get_or cum (row + v) 0;
      range = t * (get_or cum (row + (v + 1)) 0 - get_or cum (row + v) 0);
      at = c.at;
      taken = c.taken + 1;
    }

unfoldable pub taken_of : List ℕ → List ℕ → ℕ → ℕ → ℕ → Coder → Read Coder ℕ
taken_of s cum row t v c = refill_of s 2 v (narrowed cum row t v c)

-- ac_decode: a symbol 0 .. last; "arithmetic value at or above the scaled range" is cause 4
unfoldable pub symbol_of : List ℕ → List ℕ → ℕ → ℕ → Coder → Read Coder ℕ
symbol_of s cum row last c =
    cond (leb (c.range / 1024 * 1024) c.low) (cause 4)
    (taken_of s cum row (c.range / 1024) (largest cum row (c.range / 1024) c.low last) c)
