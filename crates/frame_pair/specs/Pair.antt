-- One pair of lines of the spectral data (5.4.2.7): escapes, a last symbol, the signs, and the context that it leaves to the next.
-- Assumes nothing.
use Rattle.std.specs.Prelude.{Bool, cond, List, ℕ, zero, suc, ◌+◌, ◌*◌, ◌/◌, ◌%◌, ◌^◌, ltb, leb, eqb, length, get_or}
use Rattle.frame_bits.specs.Read.{Read, value, cause, and_then}
use Rattle.frame_bits.specs.Bits.{read_bit}
use Rattle.frame_coder.specs.Symbol.{symbol_of}
use Rattle.frame_coder.specs.declared.Coder.{Coder}
use Rattle.frame_pair.specs.declared.Last.{Last}
use Rattle.frame_pair.specs.declared.Pair.{Pair}
use Rattle.frame_pair.specs.declared.Streams.{Streams}
use Rattle.frame_pair.specs.declared.Values.{Values}

-- min (level, 3)
abbrev pub capped : ℕ → ℕ
capped level = cond (ltb level 3) level 3

-- the row that the lookup names: 18 entries a row
abbrev pub row_of : List ℕ → ℕ → ℕ → ℕ
row_of look base level = get_or look (base + 1024 * capped level) 0 * 18

-- an escape's bits, one for each value; none at level 0 in LSB mode 1
unfoldable pub plane_of : List ℕ → ℕ → ℕ → ℕ → ℕ → ℕ → Read ℕ Values
plane_of s lsb level x y p =
    cond (ltb level lsb) (value (record { x = x; y = y }) p)
    (and_then (read_bit s p) (λ a p. and_then (read_bit s p) (λ b p.
    value (record { x = x + a * 2 ^ level; y = y + b * 2 ^ level }) p)))

-- the escapes of a pair up to its last symbol, n of them allowed from this level on: "fourteen escapes in a pair" are cause 5
unfoldable pub last_of : List ℕ → List ℕ → List ℕ → ℕ → ℕ → ℕ → ℕ → ℕ → ℕ → Coder → ℕ → Read Streams Last
last_of s look cum lsb base zero level x y c p = cause 5
last_of s look cum lsb base (suc n) level x y c p =
    and_then (symbol_of s cum (row_of look base level) 16 c) (λ v d.
    cond (ltb v 16) (value (record { symbol = v; x = x; y = y; level = level }) (record { coder = d; side = p }))
    (and_then (plane_of s lsb level x y p) (λ w p. last_of s look cum lsb base n (suc level) w.x w.y d p)))

-- a value's sign bit, which only a value that is not 0 has
unfoldable pub sign_of : List ℕ → ℕ → ℕ → Read ℕ ℕ
sign_of s m p = cond (eqb m 0) (value 0 p) (read_bit s p)

-- 5.3.11.5: the next context, from the pair's last symbol (a, b) and its level
abbrev pub context_of : ℕ → ℕ → ℕ → ℕ → ℕ
context_of c a b level = c % 16 * 16 + cond (leb (capped level) 1) (1 + (a + b) * (capped level + 1)) (12 + capped level)

-- "the two streams cross": bp - bp_side > 3, where bp_side = n - 1 - p / 8 may be -1
abbrev pub crossed : ℕ → ℕ → ℕ → Bool
crossed n at p = ltb (n + 2) (at + p / 8)

-- the pair behind its last symbol: the two signs, the next context, and the crossing test
unfoldable pub signed_of : List ℕ → ℕ → ℕ → ℕ → Last → Coder → ℕ → Read Streams Pair
signed_of s context x y l c p =
    and_then (sign_of s x p) (λ a p. and_then (sign_of s y p) (λ b p.
    cond (crossed (length s) c.at p) (cause 6)
    (value (record {
      x = x;
      xsign = a;
      y = y;
      ysign = b;
      level = l.level;
      context = context_of context (l.symbol % 4) (l.symbol / 4) l.level;
    }) (record { coder = c; side = p }))))

-- a pair: a = symbol mod 4 and b = symbol / 4 stand above the bits of the escapes
unfoldable pub pair_of : List ℕ → List ℕ → List ℕ → ℕ → ℕ → ℕ → Coder → ℕ → Read Streams Pair
pair_of s look cum lsb base context c p =
    and_then (last_of s look cum lsb base 14 0 0 0 c p) (λ l k.
    signed_of s context (l.x + l.symbol % 4 * 2 ^ l.level) (l.y + l.symbol / 4 * 2 ^ l.level) l k.coder k.side)
