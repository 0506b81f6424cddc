-- Data words, the mode signature and the interleaving (A.38, A.46 to A.52).
-- The words of a slot are a function: word i is the list w i of its semi-octets.
-- Assumes nothing.
use Rattle.std.specs.Prelude.{Bool, true, false, cond, List, [], ◌∷◌, ℕ, ◌-◌, ◌*◌, ◌/◌, ◌%◌, eqb, ltb, take, drop, get_or}
use Rattle.laws.specs.Tab.{tab, total}
use Rattle.gf16.specs.Field.{sum}
use Rattle.slot_laws.specs.Sizes.{words, word_length, data_length}
use Rattle.slot_laws.specs.Semi.{semi, pack}

-- the next f i of s, after f 0 + .. + f (i - 1)
unfoldable pub piece : (ℕ → ℕ) → List ℕ → ℕ → List ℕ
piece f s i = take (f i) (drop (total f i) s)

-- data word i takes the next data_length of the data, word 0 first (A.38)
unfoldable pub data_word : ℕ → ℕ → List ℕ → ℕ → List ℕ
data_word size mode s i = piece (data_length size mode) s i

abbrev pub row : Bool → List ℕ → List ℕ → List ℕ
row true a b = a
row false a b = b

-- what a mode's signature adds to the semi-octets of a word (A.46 to A.50)
unfoldable pub signature_row : ℕ → List ℕ
signature_row mode =
    row (eqb mode 2) (7 ∷ 15 ∷ 5 ∷ 6 ∷ 14 ∷ 9 ∷ 1 ∷ 3 ∷ 12 ∷ 10 ∷ 13 ∷ 3 ∷ 2 ∷ 0 ∷ 0 ∷ [])
    (row (eqb mode 3) (7 ∷ 11 ∷ 14 ∷ 1 ∷ 2 ∷ 3 ∷ 12 ∷ 11 ∷ 6 ∷ 15 ∷ 7 ∷ 6 ∷ 12 ∷ 0 ∷ 0 ∷ [])
    (row (eqb mode 4) (6 ∷ 15 ∷ 12 ∷ 2 ∷ 9 ∷ 15 ∷ 2 ∷ 8 ∷ 12 ∷ 3 ∷ 10 ∷ 5 ∷ 4 ∷ 0 ∷ 0 ∷ []) []))

-- .. to semi-octet k of word i: the words 0 to 5 carry it
unfoldable pub signature : ℕ → ℕ → ℕ → ℕ
signature mode i k = cond (ltb i 6) (get_or (signature_row mode) k 0) 0

-- the place in the slot of semi-octet k of word i (A.51)
unfoldable pub place_of : ℕ → ℕ → ℕ → ℕ
place_of size i k = 2 * size - words size * k - i - 1

-- the word, and the semi-octet of it, that has the place p
unfoldable pub word_of : ℕ → ℕ → ℕ
word_of size p = (2 * size - 1 - p) % words size

unfoldable pub number_in : ℕ → ℕ → ℕ
number_in size p = (2 * size - 1 - p) / words size

-- the words w with the signature g added, interleaved, as bytes (A.51, A.52)
unfoldable pub slot_from : ℕ → (ℕ → ℕ → ℕ) → (ℕ → List ℕ) → List ℕ
slot_from size g w =
    pack (λ p. sum (get_or (w (word_of size p)) (number_in size p) 0) (g (word_of size p) (number_in size p))) size

-- word i as received: the interleaving and the signature undone (A.53 to A.55)
unfoldable pub received : ℕ → (ℕ → ℕ → ℕ) → List ℕ → ℕ → List ℕ
received size g slot i = tab (λ k. sum (semi slot (place_of size i k)) (g i k)) (word_length size i)
