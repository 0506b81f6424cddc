-- A received slot with every word corrected, and a word that is beyond repair. Assumes nothing.
use Rattle.std.specs.Prelude.{List, ℕ, ◌<◌}
use Rattle.code_word_laws.specs.Correct.{Near}
use Rattle.slot_laws.specs.Sizes.{words}
use Rattle.slot_laws.specs.Semi.{Bytes}
use Rattle.slot_laws.specs.Slot.{word_in}

-- c is the slot with every word of the received one corrected: to a valid word of its own length within m - 1 places
pub record Corrected (size mode : ℕ) (slot c : List ℕ) : Type 0 where
  pub bytes : Bytes size c
  pub near : (i : ℕ) → i < words size → Near mode (word_in size mode slot i) (word_in size mode c i)

-- some word has no valid word of its own length within m - 1 semi-octets
pub record SomeBeyond (size mode : ℕ) (slot : List ℕ) : Type 0 where
  pub word : ℕ
  pub inside : word < words size
  pub none : (w : List ℕ) → Near mode (word_in size mode slot word) w → ⊥
