-- What the functions ask of and promise one another: no part of what is right of a slot.
-- Assumes nothing.
use Rattle.std.specs.Prelude.{◌≡◌, List, ℕ, ◌-◌, ◌*◌, ◌≤◌, ◌<◌, length, get_or, drop, Option, Some, None}
use Rattle.laws.specs.Tab.{total, Below}
use Rattle.code_word_laws.specs.Word.{distance}
use Rattle.slot_laws.specs.Sizes.{words, word_length}
use Rattle.slot_laws.specs.Words.{piece, data_word}
use Rattle.slot_laws.specs.Order.{Data}
use Rattle.slot_gathering.specs.declared.Outcome.{Outcome}
use Rattle.slot_clean.specs.Inner.{word_from}

-- every word as received, one after the other
pub record AllArrived (size mode : ℕ) (places all : List ℕ) : Type 0 where
  pub long : length all ≡ 2 * size
  pub below : Below 16 all
  pub each : (i : ℕ) → i < words size → piece (word_length size) all i ≡ word_from size mode places i

-- room for both counts of each word, and for the data
pub record Rooms (size mode : ℕ) (counts bits message : List ℕ) : Type 0 where
  pub many : length counts ≡ words size
  pub many_bits : length bits ≡ words size
  pub given : Data size mode message

-- the first n words have counts, the sums of them are the counts, and the data of these words stand where they belong
pub record GatheredTo (size mode : ℕ) (all counts bits message : List ℕ) (n count bit-count : ℕ) : Type 0 where
  pub given : Data size mode message
  pub each : (j : ℕ) → j < n → data_word size mode message j ≡ drop (distance mode - 1) (piece (word_length size) all j)
  pub few : (j : ℕ) → j < n → get_or counts j 0 < mode
  pub counted : count ≡ total (λ j. get_or counts j 0) n
  pub bits_counted : bit-count ≡ total (λ j. get_or bits j 0) n

-- some word has no count
pub record SomeNone (size mode : ℕ) (counts : List ℕ) : Type 0 where
  pub word : ℕ
  pub inside : word < words size
  pub none : mode ≤ get_or counts word 0

abbrev pub IsGathered : ℕ → ℕ → List ℕ → List ℕ → List ℕ → List ℕ → Option Outcome → Type 0
IsGathered size mode all counts bits message (Some r) = GatheredTo size mode all counts bits message (words size) r.count r.bits
IsGathered size mode all counts bits message None = SomeNone size mode counts
