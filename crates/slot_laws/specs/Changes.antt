-- Changed semi-octets and bits (document 01, demand 3; document 02 §1): places of the slot in which two slots differ, each in the one word
-- that the interleaving put there. Assumes nothing.
use Rattle.std.specs.Prelude.{cond, List, ℕ, ◌*◌, ◌≤◌, ◌<◌, eqb}
use Rattle.laws.specs.Tab.{total}
use Rattle.code_word_laws.specs.Word.{semi_octet_changed, bits_changed}
use Rattle.slot_laws.specs.Sizes.{words}
use Rattle.slot_laws.specs.Semi.{semi}
use Rattle.slot_laws.specs.Words.{word_of}

-- what changed at place p, where f counts the changes of a semi-octet
unfoldable pub changed : (ℕ → ℕ → ℕ) → List ℕ → List ℕ → ℕ → ℕ
changed f s r p = f (semi s p) (semi r p)

-- .. in the whole slot
unfoldable pub slot_changes : (ℕ → ℕ → ℕ) → ℕ → List ℕ → List ℕ → ℕ
slot_changes f size s r = total (changed f s r) (2 * size)

-- the changed semi-octets of the slot, and its changed bits
abbrev pub changes : ℕ → List ℕ → List ℕ → ℕ
changes size s r = slot_changes semi_octet_changed size s r

abbrev pub bit_changes : ℕ → List ℕ → List ℕ → ℕ
bit_changes size s r = slot_changes bits_changed size s r

-- the changed places that belong to word i
unfoldable pub changes_in : ℕ → List ℕ → List ℕ → ℕ → ℕ
changes_in size s r i = total (λ p. cond (eqb (word_of size p) i) (changed semi_octet_changed s r p) 0) (2 * size)

-- no word has more than k changed places
abbrev pub AtMost : ℕ → ℕ → List ℕ → List ℕ → Type 0
AtMost k size s r = (i : ℕ) → i < words size → changes_in size s r i ≤ k
