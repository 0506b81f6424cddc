-- What the functions ask of and promise one another: no part of what is right of a slot.
-- Assumes nothing.
use Rattle.std.specs.Prelude.{◌≡◌, List, ℕ, ◌<◌, length, Option, Some, None}
use Rattle.laws.specs.Tab.{total}
use Rattle.code_word_laws.specs.Word.{semi_octet_changed, bits_changed, changes_by}
use Rattle.code_word_laws.specs.Correct.{Near}
use Rattle.slot_laws.specs.Sizes.{words}
use Rattle.slot_laws.specs.Order.{Data}
use Rattle.slot_laws.specs.Slot.{code_word, word_in}
use Rattle.slot_laws.specs.Corrected.{SomeBeyond}
use Rattle.slot_gathering.specs.declared.Outcome.{Outcome}
use Rattle.slot_clean.specs.Inner.{unpacked}

-- what f counts of the changes in the first n words, as received and over the data
abbrev pub changes_to : (ℕ → ℕ → ℕ) → ℕ → ℕ → List ℕ → List ℕ → ℕ → ℕ
changes_to f size mode slot message n = total (λ j. changes_by f (word_in size mode slot j) (code_word size mode message j)) n

-- the first n words were corrected, and the data hold them
pub record MendedTo (size mode : ℕ) (slot message : List ℕ) (n count bits : ℕ) : Type 0 where
  pub given : Data size mode message
  pub near : (j : ℕ) → j < n → Near mode (word_in size mode slot j) (code_word size mode message j)
  pub counted : count ≡ changes_to semi_octet_changed size mode slot message n
  pub bits_counted : bits ≡ changes_to bits_changed size mode slot message n

abbrev pub IsRepair : ℕ → ℕ → List ℕ → List ℕ → Option Outcome → Type 0
IsRepair size mode slot message (Some r) = MendedTo size mode slot message (words size) r.count r.bits
IsRepair size mode slot message None = SomeBeyond size mode slot

-- the answer for the slot of these semi-octets
abbrev pub IsRepairFrom : ℕ → ℕ → List ℕ → List ℕ → Option Outcome → Type 0
IsRepairFrom size mode places message r = (slot : List ℕ) → length slot ≡ size → places ≡ unpacked slot → IsRepair size mode slot message r
