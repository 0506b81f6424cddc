-- What the functions ask of and promise one another: no part of what is right of a slot.
-- Assumes nothing.
use Rattle.std.specs.Prelude.{◌≡◌, List, [], ℕ, ◌+◌, ◌-◌, ◌*◌, ◌≤◌, ◌<◌, length, get_or}
use Rattle.gf16.specs.Field.{sum}
use Rattle.code_word_laws.specs.Word.{distance}
use Rattle.code_word_laws.specs.Make.{coded}
use Rattle.code_word_laws.specs.Register.{with_checks}
use Rattle.code_word_laws.specs.Checks.{check_rows}
use Rattle.slot_laws.specs.Sizes.{InRange, words, word_length, data_length}
use Rattle.slot_laws.specs.Order.{Data}
use Rattle.slot_laws.specs.Words.{signature, place_of, word_of, number_in}

-- ---- asked

-- semi-octet k is one of word i, and word i one of count
pub record HasPlace (size count i k : ℕ) : Type 0 where
  pub size_from : 40 ≤ size
  pub size_to : size ≤ 400
  pub count_is : count ≡ words size
  pub word_below : i < words size
  pub in_word : k < word_length size i

-- a word of a slot, its row of the signature, and n places
pub record AtWord (size mode i n : ℕ) (row places : List ℕ) : Type 0 where
  pub range : InRange size mode
  pub word_below : i < words size
  pub row_long : length row ≡ 15
  pub row_is : (k : ℕ) → get_or row k 0 ≡ signature mode i k
  pub places_long : length places ≡ n

-- a word of a slot, room for its data, the rows of what data add to the check semi-octets, and n places
pub record WithRows (size mode i n : ℕ) (message rows places : List ℕ) : Type 0 where
  pub range : InRange size mode
  pub word_below : i < words size
  pub message_long : length message ≡ data_length size mode i
  pub rows_are : rows ≡ check_rows (distance mode - 1)
  pub places_long : length places ≡ n

-- two semi-octets for each byte
pub record InPairs (slot places : List ℕ) : Type 0 where
  pub many : 2 * length slot ≤ length places
  pub few : length slot ≤ 400
  pub below : (p : ℕ) → p < 2 * length slot → get_or places p 0 < 16

-- ---- promised

-- the semi-octets lo .. hi - 1 of word i, f k for each, stand at their places with the signature g, and nothing else was changed
pub record Spanned (size : ℕ) (g : ℕ → ℕ → ℕ) (i : ℕ) (f : ℕ → ℕ) (lo hi : ℕ) (old new : List ℕ) : Type 0 where
  pub long : length new ≡ length old
  pub mine : (k : ℕ) → lo ≤ k → k < hi → get_or new (place_of size i k) 0 ≡ sum (f k) (g i k)
  pub rest : (k : ℕ) → k < word_length size i → (lo ≤ k → k < hi → ⊥) → get_or new (place_of size i k) 0 ≡ get_or old (place_of size i k) 0
  pub others : (p : ℕ) → p < 2 * size → (word_of size p ≡ i → ⊥) → get_or new p 0 ≡ get_or old p 0

-- the first n data of word i do
abbrev pub DataSpanned : ℕ → ℕ → ℕ → List ℕ → ℕ → List ℕ → List ℕ → Type 0
DataSpanned size mode i message n old new =
    Spanned size (signature mode) i (λ k. get_or message (k - (distance mode - 1)) 0) (distance mode - 1) (distance mode - 1 + n) old new

-- the check semi-octets of word i from place k on do, packed in r
abbrev pub ChecksSpanned : ℕ → ℕ → ℕ → ℕ → ℕ → List ℕ → List ℕ → Type 0
ChecksSpanned size mode i r k old new =
    Spanned size (signature mode) i (λ j. get_or (with_checks (distance mode - 1) r []) j 0) k (distance mode - 1) old new

-- the word w, with the signature g, stands at the places of word i, and nothing else was changed
pub record Scattered (size : ℕ) (g : ℕ → ℕ → ℕ) (i : ℕ) (w old new : List ℕ) : Type 0 where
  pub long : length new ≡ length old
  pub mine : (k : ℕ) → k < length w → get_or new (place_of size i k) 0 ≡ sum (get_or w k 0) (g i k)
  pub others : (p : ℕ) → p < 2 * size → (word_of size p ≡ i → ⊥) → get_or new p 0 ≡ get_or old p 0

-- the code word over the data does
abbrev pub WordScattered : ℕ → ℕ → ℕ → List ℕ → List ℕ → List ℕ → Type 0
WordScattered size mode i message old new = Scattered size (signature mode) i (coded (distance mode) message) old new

-- the first n words stand at their places
pub record Placed (size : ℕ) (g : ℕ → ℕ → ℕ) (w : ℕ → List ℕ) (n : ℕ) (places : List ℕ) : Type 0 where
  pub long : length places ≡ 800
  pub stands : (p : ℕ) → p < 2 * size → word_of size p < n
      → get_or places p 0 ≡ sum (get_or (w (word_of size p)) (number_in size p) 0) (g (word_of size p) (number_in size p))

-- a slot and its data semi-octets, or room for them
pub record SlotAndData (size mode : ℕ) (slot message : List ℕ) : Type 0 where
  pub range : InRange size mode
  pub long : length slot ≡ size
  pub given : Data size mode message
