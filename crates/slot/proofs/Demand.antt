-- Demand 3, both halves, from the definitions that the two public contracts name. Assumes nothing.
use mathlib.Core.Path.{◌≡◌, refl, sym, ap, ◌∙◌}
use mathlib.Core.Bool.{Bool, true, false}
use mathlib.Core.List.{List}
use Prim.Native.Nat.{ℕ, zero, suc, ◌*◌, ◌-◌, ◌<◌}
use native.Mathlib.Omega.{arith}
use lib.Dec.{eqb}
use borrow.Author.Tests.{eqb-true}
use Rattle.laws.specs.Tab.{Below}
use Rattle.laws.proofs.Tab.{total-zero}
use Rattle.laws.proofs.Spread.{total-nil}
use Rattle.code_word_laws.specs.Word.{unequal, semi_octet_changed, apart, distance}
use Rattle.code_word_laws.proofs.Changes.{semi-octet-same}
use Rattle.code_word_laws.proofs.Division.{unique}
use Rattle.slot_laws.specs.Sizes.{InRange, words}
use Rattle.slot_laws.specs.Semi.{Bytes, semi}
use Rattle.slot_laws.specs.Words.{signature, received}
use Rattle.slot_laws.specs.Slot.{Sent, slot_of, word_in}
use Rattle.slot_laws.specs.Changes.{changed, slot_changes, changes, bit_changes, changes_in, AtMost}
use Rattle.slot_protection.specs.Protect.{Lengths, Protects}
use Rattle.slot_laws.specs.Corrected.{Corrected}
use Rattle.slot_answers.specs.Answers.{Told, accepted_with}
use Rattle.slot.specs.Unprotect.{Taken, IsAccepted, Promised, Unprotects}
use Rattle.slot.specs.Demand.{DemandThree}
use Rattle.slot_laws.proofs.Semi.{semi_same}
use Rattle.slot_laws.proofs.Places.{semi-octets-shifted, changes-words, changes-word}
use Rattle.slot_laws.proofs.Slot.{words-in, AllValid, bytes-slot-of, valid-slot}
use Rattle.slot.proofs.Rule.{is-accepted, same-words, word_fits, word-semi-octets, SameAnswer, verdict-only}

-- ---- changed places

same_at : (a b : ℕ) → unequal (eqb a b) ≡ 0 → a ≡ b
same_at a b e = go (eqb a b) refl e
  where
    go : (t : Bool) → eqb a b ≡ t → unequal t ≡ 0 → a ≡ b
    go true x y = eqb-true a b x
    go false x y = absurd (omega arith)

-- no changed place: the same slot
pub no-changes : (size : ℕ) (s r : List ℕ) → Bytes size s → Bytes size r → changes size s r ≡ 0 → s ≡ r
unfolding slot_changes changed
no-changes size s r a b e =
    semi_same s r size a b (λ p l. same_at (semi s p) (semi r p) (total-zero (changed semi_octet_changed s r) (2 * size) e p l))

pub changes-self : (size : ℕ) (s : List ℕ) → changes size s s ≡ 0
unfolding slot_changes changed
changes-self size s = total-nil (changed semi_octet_changed s s) (2 * size) (λ p l. semi-octet-same (semi s p))

-- the changed places of word i, as places of the word
word-changes : (size mode : ℕ) (s r : List ℕ) → InRange size mode → (i : ℕ) → i < words size
    → changes_in size s r i ≡ apart (word_in size mode s i) (word_in size mode r i)
unfolding word_in
word-changes size mode s r g i l = changes-word size (signature mode) s r i g.size_from l

-- ---- one slot sent and one received

module _ (size mode q : ℕ) (frame slot old : List ℕ) (taken : Taken size mode slot old) (sent : Sent size mode q frame) where
  -- what was sent, with the true counts
  abbrev counted-with : Told
  counted-with = let made = slot_of size mode q frame in accepted_with q (changes size slot made) (bit_changes size slot made)

  -- with at most m - 1 changes in each word, what was sent is the corrected slot
  repaired : AtMost (mode - 1) size slot (slot_of size mode q frame) → Corrected size mode slot (slot_of size mode q frame)
  repaired few =
      let r = taken.range in
      let made = slot_of size mode q frame in
      record {
        bytes = bytes-slot-of size mode q frame r;
        near = λ i l. record {
          semi_octets = word-semi-octets size mode made r i l;
          long = (words-in size mode made r).long i l ∙ sym ((words-in size mode slot r).long i l);
          valid = valid-slot size mode q frame r i l;
          near = let c = word-changes size mode slot made r i l in let f = few i l in let m = r.mode_from in omega arith;
        };
      }

  accepted : AtMost (mode - 1) size slot (slot_of size mode q frame)
      → Unprotects size mode slot old frame counted-with
  accepted few = record { taken = taken; sent = sent; corrected = repaired few; counted = refl; bits_counted = refl }

  -- nothing changed is at most m - 1
  none-changed : changes size slot (slot_of size mode q frame) ≡ 0 → AtMost (mode - 1) size slot (slot_of size mode q frame)
  none-changed e i l =
      let r = taken.range in
      let made = slot_of size mode q frame in
      let t = sym (changes-words semi_octet_changed semi-octets-shifted size (signature mode) slot made r.size_from) ∙ e in
      let z = total-zero (λ i. apart (received size (signature mode) slot i) (received size (signature mode) made i)) (words size) t i l in
      let c = changes-word size (signature mode) slot made i r.size_from l in
      omega arith

  slot-bytes : Bytes size slot
  slot-bytes = record { long = taken.lengths.slot_long; below = taken.bytes }

  -- a slot of valid words with at most 2m - 2 changes in each word is the one sent
  unchanged : AllValid size mode slot → AtMost (2 * mode - 2) size slot (slot_of size mode q frame) → slot ≡ slot_of size mode q frame
  unchanged v few =
      let r = taken.range in
      let made = slot_of size mode q frame in
      same-words size mode slot made r slot-bytes (bytes-slot-of size mode q frame r)
      (λ i l.
      unique (distance mode) (word_in size mode slot i) (word_in size mode made i)
      ((words-in size mode slot r).long i l ∙ sym ((words-in size mode made r).long i l))
      (word_fits size mode slot r i l) (word-semi-octets size mode slot r i l) (word-semi-octets size mode made r i l)
      (v i l) (valid-slot size mode q frame r i l)
      (let c = word-changes size mode slot made r i l in let f = few i l in let m = r.mode_from in omega arith))

  -- a slot that is called clean is of valid words
  clean-valid : (new : List ℕ) (answer : Told) → IsAccepted size mode slot old new answer → answer.count ≡ 0 → AllValid size mode slot
  clean-valid new answer a z =
      let r = taken.range in
      let q = answer.request in
      let e = no-changes size slot (slot_of size mode q new) slot-bytes (bytes-slot-of size mode q new r) (sym a.counted ∙ z) in
      rw e (valid-slot size mode q new r)

  -- with at most m - 1 changes in each word, the answer is what was sent
  same_back : (new : List ℕ) (answer : Told) → Unprotects size mode slot old new answer
      → AtMost (mode - 1) size slot (slot_of size mode q frame)
      → SameAnswer new frame answer counted-with
  same_back new answer u few = verdict-only size mode slot old new frame answer counted-with u (accepted few)

  demand : (new : List ℕ) (answer : Told) → Unprotects size mode slot old new answer
      → DemandThree size mode q frame (slot_of size mode q frame) slot new answer
  demand new answer u = record {
    repairs = λ few.
        let s = same_back new answer u few in
        record { answer_back = s.answer_same; frame_back = s.frame_same };
    clean = λ few. (
      λ c.
          let a = is-accepted answer.number size mode slot old new answer c.0 u in
          rw (sym (unchanged (clean-valid new answer a c.1) few)) (changes-self size slot),
      λ e.
          let s = same_back new answer u (none-changed e) in
          (ap (λ (t : Told). t.number) s.answer_same, ap (λ (t : Told). t.count) s.answer_same ∙ e),
    );
  }

-- whatever the answer, the slot that was lent is a list of bytes
lent-bytes : (number size mode : ℕ) (slot old new : List ℕ) (answer : Told) → InRange size mode → Lengths size mode old slot
    → Promised number size mode slot old new answer → Below 256 slot
lent-bytes zero size mode slot old new answer i l u = u.taken.bytes
lent-bytes (suc zero) size mode slot old new answer i l u = absurd (u.unfit i)
lent-bytes (suc (suc zero)) size mode slot old new answer i l u = absurd (u.unfit l)
lent-bytes (suc (suc (suc zero))) size mode slot old new answer i l u = u.taken.bytes
lent-bytes (suc (suc (suc (suc zero)))) size mode slot old new answer i l u = u.taken.bytes
lent-bytes (suc (suc (suc (suc (suc m))))) size mode slot old new answer i l u = absurd u

-- demand 3: for every slot that protecting made, and every slot of that size that unprotecting is lent with a frame buffer of its length
pub demand-three : (size mode q : ℕ) (frame lent sent slot old new : List ℕ) (answer : Told)
    → Protects size mode q frame lent sent 0
    → Lengths size mode old slot → Unprotects size mode slot old new answer
    → DemandThree size mode q frame sent slot new answer
demand-three size mode q frame lent sent slot old new answer p l u =
    let i = p.settings.range in
    let t : Taken size mode slot old = record
    { range = i; lengths = l; bytes = lent-bytes answer.number size mode slot old new answer i l u } in
    let s : Sent size mode q frame = record
    { request = p.settings.request; frame_bytes = record { long = p.lengths.frame_long; below = p.bytes } } in
    rw p.made (demand size mode q frame slot old t s new answer u)
