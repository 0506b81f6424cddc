-- What the code of correcting a slot asks: the answer from all words, corrected or clean.
-- Assumes nothing.
use mathlib.Core.Path.{◌≡◌, sym, ap, ◌∙◌}
use mathlib.Core.List.{List}
use Prim.Native.Nat.{ℕ, ◌<◌}
use native.Mathlib.Omega.{arith}
use lib.ListN.{length}
use Rattle.laws.proofs.Spread.{total-nil}
use Rattle.laws.proofs.Tab.{total-same}
use Rattle.code_word_laws.specs.Word.{semi_octet_changed, bits_changed, changes_by}
use Rattle.code_word_laws.proofs.Changes.{changes-self, semi-octet-same, bits-same}
use Rattle.slot_laws.specs.Sizes.{InRange, words}
use Rattle.slot_laws.specs.Words.{signature}
use Rattle.slot_laws.specs.Order.{Data}
use Rattle.slot_laws.specs.Slot.{code_word, slot_with, word_in}
use Rattle.slot_laws.specs.Changes.{slot_changes, changes, bit_changes}
use Rattle.slot_laws.specs.Corrected.{Corrected}
use Rattle.slot_clean.specs.Inner.{unpacked, AllClean}
use Rattle.slot_repair.specs.Inner.{changes_to, MendedTo}
use Rattle.slot_laws.proofs.Places.{Shifted, semi-octets-shifted, bits-shifted, changes-words}
use Rattle.slot_laws.proofs.Slot.{word-slot, bytes-with, code-word}
use Rattle.slot_clean.proofs.Unpacking.{word-from}

-- ---- all words corrected

-- the slot with the data that were corrected is the corrected one, and the counts are those of its changes
module _ (size mode : ℕ) (slot message : List ℕ) (count bits : ℕ) (range : InRange size mode)
    (corrected : MendedTo size mode slot message (words size) count bits) where
  pub corrected-slot : Corrected size mode slot (slot_with size mode message)
  corrected-slot = record {
    bytes = bytes-with size mode message range corrected.given;
    near = λ i l. rw (word-slot size mode message range corrected.given i l) (corrected.near i l);
  }

  -- what is counted over the words is counted over the slot
  over-slot : (f : ℕ → ℕ → ℕ) → Shifted f
      → changes_to f size mode slot message (words size) ≡ slot_changes f size slot (slot_with size mode message)
  unfolding word_in
  over-slot f shifted =
      total-same _ (λ j. changes_by f (word_in size mode slot j) (word_in size mode (slot_with size mode message) j)) (words size)
      (λ j l. ap (changes_by f (word_in size mode slot j)) (sym (word-slot size mode message range corrected.given j l)))
      ∙ sym (changes-words f shifted size (signature mode) slot (slot_with size mode message) range.size_from)

  pub count-changes : count ≡ changes size slot (slot_with size mode message)
  count-changes = corrected.counted ∙ over-slot semi_octet_changed semi-octets-shifted

  pub bits-changes : bits ≡ bit_changes size slot (slot_with size mode message)
  bits-changes = corrected.bits_counted ∙ over-slot bits_changed bits-shifted

-- ---- the slot's answer

same-words : (f : ℕ → ℕ → ℕ) → ((x : ℕ) → f x x ≡ 0) → (v w : List ℕ) → v ≡ w → changes_by f v w ≡ 0
same-words f z v w e = ap (λ (x : List ℕ). changes_by f x w) e ∙ changes-self f z w

-- a slot of clean words is its own correction
pub clean-slot : (size mode : ℕ) (slot places message : List ℕ) → InRange size mode → length slot ≡ size → places ≡ unpacked slot
    → Data size mode message
    → AllClean size mode places message (words size) → MendedTo size mode slot message (words size) 0 0
clean-slot size mode slot places message r l p d a = record {
  given = d;
  near = λ j h.
      let e = same j h in
      let c = code-word size mode message r d j in
      record {
        semi_octets = c.semi_octets;
        long = ap (λ (x : List ℕ). length x) (sym e);
        valid = c.valid;
        near = omega (arith, r.mode_from, same-words semi_octet_changed semi-octet-same _ _ e);
      };
  counted = none-to semi_octet_changed semi-octet-same;
  bits_counted = none-to bits_changed bits-same;
}
  where
    same : (j : ℕ) → j < words size → word_in size mode slot j ≡ code_word size mode message j
    same j h = sym (word-from size mode slot places j r.size_from l p) ∙ sym (a j h)

    none-to : (f : ℕ → ℕ → ℕ) → ((x : ℕ) → f x x ≡ 0) → 0 ≡ changes_to f size mode slot message (words size)
    none-to f z =
        sym (total-nil (λ j. changes_by f (word_in size mode slot j) (code_word size mode message j)) (words size)
        (λ j h. same-words f z (word_in size mode slot j) (code_word size mode message j) (same j h)))
