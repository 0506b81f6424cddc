-- The arithmetic stream written (5.3.14, ac_enc_init, ac_encode, ac_shift) as one number: a symbol adds to `low`, which has no bound, and a
-- shift lengthens it by a digit to base 256. `at` is 3 + the shifts, so that both directions count alike. Assumes nothing.
use Rattle.std.specs.Prelude.{cond, List, [], ◌∷◌, ℕ, zero, suc, ◌+◌, ◌-◌, ◌*◌, ◌/◌, ltb, get_or}
use Rattle.frame_coder.specs.declared.Coder.{Coder}

-- ac_enc_init
abbrev pub send_start : Coder
send_start = record { low = 0; range = 16777215; at = 3; taken = 0 }

-- ac_shift: a digit more
abbrev pub shifted : Coder → Coder
shifted c = record { low = c.low * 256; range = c.range * 256; at = c.at + 1; taken = c.taken }

-- a shift while the range is below 2^16. Two are enough: a range is at least 2^6 here
unfoldable pub widened : ℕ → Coder → Coder
widened zero c = c
widened (suc n) c = cond (ltb c.range 65536) (widened n (shifted c)) c

-- the stream behind symbol v, before the shifts: t scales the row, which starts at entry `row`
abbrev pub placed : List ℕ → ℕ → ℕ → ℕ → Coder → Coder
placed cum row t v c =
    record {
      low = c.low + t * get_or cum (row + v) 0;
      range = t * (get_or cum (row + (v + 1)) 0 - get_or cum (row + v) 0);
      at = c.at;
      taken = c.taken + 1;
    }

-- ac_encode
unfoldable pub coded : List ℕ → ℕ → ℕ → Coder → Coder
coded cum row v c = widened 2 (placed cum row (c.range / 1024) v c)

-- a symbol of a row of a table, whose symbols are 0 .. last
pub record Item : Type 0 where
  pub cum : List ℕ
  pub row : ℕ
  pub last : ℕ
  pub symbol : ℕ

abbrev pub item : List ℕ → ℕ → ℕ → ℕ → Item
item cum row last symbol = record { cum = cum; row = row; last = last; symbol = symbol }

-- symbol after symbol
unfoldable pub coded_all : List Item → Coder → Coder
coded_all [] c = c
coded_all (i ∷ l) c = coded_all l (coded i.cum i.row i.symbol c)

-- the first n bytes as a number, the first the highest
unfoldable pub front_of : List ℕ → ℕ → ℕ
front_of s zero = 0
front_of s (suc n) = front_of s n * 256 + get_or s n 0

-- the definition's stream from the code's, whose low has 24 bits: the bytes put out stand above them
abbrev pub whole_of : List ℕ → Coder → Coder
whole_of front c =
    record { low = front_of front (c.at - 3) * 16777216 + c.low; range = c.range; at = c.at; taken = c.taken }
