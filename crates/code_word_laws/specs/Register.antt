-- The packed shift register, of which the contracts of `code_word_encoder` and the table of Checks.antt speak; proofs/Register.antt shows
-- that what it leaves is the code word. A number holds n coefficients as digits to the base 16, the highest power in the lowest digit, so
-- that a step of the division is a shift down and two sums.
-- Assumes nothing.
use Rattle.std.specs.Prelude.{List, [], ◌∷◌, ℕ, zero, suc, ◌+◌, ◌*◌, ◌/◌, ◌%◌, take, get_or}
use Rattle.std.specs.Int.Bits.{bit_xor}
use Rattle.code_word_laws.specs.Polynomial.{scaled, rooted}

-- the coefficients cs behind those that a holds
unfoldable pub gathered : ℕ → List ℕ → ℕ
gathered a [] = a
gathered a (c ∷ cs) = gathered (c + 16 * a) cs

-- f times the generating polynomial of degree n, without its power n
unfoldable pub row : ℕ → ℕ → ℕ
row n f = gathered 0 (take n (scaled f (rooted n)))

-- the rows of k field elements, from f on
unfoldable pub rows_from : ℕ → ℕ → ℕ → List ℕ
rows_from n f zero = []
rows_from n f (suc k) = row n f ∷ rows_from n (suc f) k

-- the rows of all field elements
unfoldable pub feedback : ℕ → List ℕ
feedback n = rows_from n 0 16

-- the register after one semi-octet more: what leaves it and the new one are fed back
abbrev pub fed : List ℕ → ℕ → ℕ → ℕ
fed rows r c = bit_xor (bit_xor (r / 16) (get_or rows c 0)) (get_or rows (r % 16) 0)

-- the register after the data, from the last semi-octet down
unfoldable pub register : List ℕ → List ℕ → ℕ
register rows [] = 0
register rows (c ∷ cs) = fed rows (register rows cs) c

-- the n coefficients that r holds, in front of the data
unfoldable pub with_checks : ℕ → ℕ → List ℕ → List ℕ
with_checks zero r message = message
with_checks (suc n) r message = with_checks n (r / 16) (r % 16 ∷ message)
