-- Document 01's rule for unprotecting leaves no choice (`verdict-only`), and the comparison of the hashes decides between 0 and 4
-- (`accepts`, `refuses`). Assumes nothing.
use mathlib.Core.Path.{◌≡◌, refl, sym, ap, ap₂, ◌∙◌}
use mathlib.Core.List.{List}
use Prim.Native.Nat.{ℕ, zero, suc, ◌≤◌, ◌<◌}
use native.Mathlib.Omega.{arith}
use lib.ListN.{length}
use Rattle.code_word_laws.specs.Word.{SemiOctets}
use Rattle.code_word_laws.proofs.Division.{nearest}
use Rattle.slot_laws.specs.Sizes.{InRange, words}
use Rattle.slot_laws.specs.Semi.{Bytes}
use Rattle.slot_laws.specs.Words.{signature, received}
use Rattle.slot_laws.specs.Slot.{slot_of, word_in}
use Rattle.slot_laws.specs.Changes.{changes, bit_changes}
use Rattle.slot_laws.specs.Corrected.{Corrected, SomeBeyond}
use Rattle.slot_answers.specs.Answers.{Told, accepted_with, refused_with}
use Rattle.slot.specs.Unprotect.{Taken, IsAccepted, Refused, IsForeign, Promised, Unprotects}
use Rattle.slot_laws.proofs.Sizes.{length_high}
use Rattle.slot_laws.proofs.Semi.{semi-octets-of}
use Rattle.slot_laws.proofs.Places.{slot-received, slot_same}
use Rattle.slot_laws.proofs.Slot.{signature-lt, words-in, AllValid, request_from, frame_from, HashesMatch}
use Rattle.slot_laws.proofs.Slot.{sent-from, slot_read, request-slot, frame-slot, matches-slot}

-- ---- the corrected slot is the only one

-- slots with the same words are the same
pub same-words : (size mode : ℕ) (s t : List ℕ) → InRange size mode → Bytes size s → Bytes size t
    → ((i : ℕ) → i < words size → word_in size mode s i ≡ word_in size mode t i) → s ≡ t
unfolding word_in
same-words size mode s t r a b e =
    sym (slot-received size (signature mode) r.size_from (signature-lt mode) s a)
    ∙ slot_same size (signature mode) (received size (signature mode) s) (received size (signature mode) t) r.size_from e
    ∙ slot-received size (signature mode) r.size_from (signature-lt mode) t b

pub word_fits : (size mode : ℕ) (slot : List ℕ) → InRange size mode → (i : ℕ) → i < words size → length (word_in size mode slot i) ≤ 15
word_fits size mode slot r i l =
    let a = (words-in size mode slot r).long i l in
    let h = length_high size i r.size_from in
    omega arith

pub word-semi-octets : (size mode : ℕ) (slot : List ℕ) → InRange size mode → (i : ℕ) → i < words size
    → SemiOctets (word_in size mode slot i)
word-semi-octets size mode slot r i l = semi-octets-of (word_in size mode slot i) ((words-in size mode slot r).below i l)

pub corrected-only : (size mode : ℕ) (slot c e : List ℕ) → InRange size mode → Corrected size mode slot c → Corrected size mode slot e
    → c ≡ e
corrected-only size mode slot c e r a b =
    same-words size mode c e r a.bytes b.bytes
    (λ i l.
    nearest mode (word_in size mode slot i) (word_in size mode c i) (word_in size mode e i) (word_fits size mode slot r i l)
    (a.near i l) (b.near i l))

corrected-beyond : (size mode : ℕ) (slot c : List ℕ) → SomeBeyond size mode slot → Corrected size mode slot c → ⊥
corrected-beyond size mode slot c b a = b.none (word_in size mode c b.word) (a.near b.word b.inside)

-- ---- the answer is the only one

-- what is answered with 0 is accepted
pub is-accepted : (number size mode : ℕ) (slot old new : List ℕ) (answer : Told) → number ≡ 0
    → Promised number size mode slot old new answer → IsAccepted size mode slot old new answer
is-accepted number size mode slot old new answer e u = rw e at u

-- two answers tell the same when every part is the same
pub told_same : (a b : Told) → a.number ≡ b.number → a.request ≡ b.request → a.count ≡ b.count → a.bits ≡ b.bits → a ≡ b
told_same a b e f g h =
    ap₂ (λ (k q : ℕ). told k q a.count a.bits) e f ∙ ap₂ (told b.number b.request) g h
  where
    told : ℕ → ℕ → ℕ → ℕ → Told
    told k q n b = record { number = k; request = q; count = n; bits = b }

-- two calls answer the same, and leave the same frame
pub record SameAnswer (new new' : List ℕ) (a b : Told) : Type 0 where
  pub answer_same : a ≡ b
  pub frame_same : new ≡ new'

accepted-foreign : (size mode : ℕ) (slot old new new' : List ℕ) (a b : Told)
    → IsAccepted size mode slot old new a → IsForeign size mode slot old new' b → ⊥
accepted-foreign size mode slot old new new' a b u v =
    v.foreign a.request new u.sent
    (corrected-only size mode slot (slot_of size mode a.request new) v.slot_is u.taken.range u.corrected v.corrected)

module _ (size mode : ℕ) (slot old new new' : List ℕ) (a b : Told) where
  refused-same : a.number ≡ b.number → Refused old new a → Refused old new' b → SameAnswer new new' a b
  refused-same e u v = record {
    answer_same = u.nothing_else ∙ ap refused_with e ∙ sym v.nothing_else;
    frame_same = u.kept ∙ sym v.kept;
  }

  accepted-same : a.number ≡ b.number → IsAccepted size mode slot old new a → IsAccepted size mode slot old new' b
      → SameAnswer new new' a b
  accepted-same f u v =
      let r = u.taken.range in
      let q = a.request in
      let p = b.request in
      let e = corrected-only size mode slot (slot_of size mode q new) (slot_of size mode p new') r u.corrected v.corrected in
      record {
        answer_same = told_same a b f
            (sym (request-slot size mode q new r u.sent) ∙ ap (request_from size mode) e ∙ request-slot size mode p new' r v.sent)
            (u.counted ∙ ap (changes size slot) e ∙ sym v.counted)
            (u.bits_counted ∙ ap (bit_changes size slot) e ∙ sym v.bits_counted);
        frame_same = sym (frame-slot size mode q new r u.sent) ∙ ap (frame_from size mode) e ∙ frame-slot size mode p new' r v.sent;
      }

  only : (k l : ℕ) → a.number ≡ k → b.number ≡ l
      → Promised k size mode slot old new a → Promised l size mode slot old new' b → SameAnswer new new' a b
  only zero zero e f u v = accepted-same (e ∙ sym f) u v
  only zero (suc zero) e f u v = absurd (v.unfit u.taken.range)
  only zero (suc (suc zero)) e f u v = absurd (v.unfit u.taken.lengths)
  only zero (suc (suc (suc zero))) e f u v = absurd (corrected-beyond size mode slot _ v.beyond u.corrected)
  only zero (suc (suc (suc (suc zero)))) e f u v = absurd (accepted-foreign size mode slot old new new' a b u v)
  only zero (suc (suc (suc (suc (suc m))))) e f u v = absurd v
  only (suc zero) zero e f u v = absurd (u.unfit v.taken.range)
  only (suc zero) (suc zero) e f u v = refused-same (e ∙ sym f) u.refused v.refused
  only (suc zero) (suc (suc zero)) e f u v = absurd (u.unfit v.range)
  only (suc zero) (suc (suc (suc zero))) e f u v = absurd (u.unfit v.taken.range)
  only (suc zero) (suc (suc (suc (suc zero)))) e f u v = absurd (u.unfit v.taken.range)
  only (suc zero) (suc (suc (suc (suc (suc m))))) e f u v = absurd v
  only (suc (suc zero)) zero e f u v = absurd (u.unfit v.taken.lengths)
  only (suc (suc zero)) (suc zero) e f u v = absurd (v.unfit u.range)
  only (suc (suc zero)) (suc (suc zero)) e f u v = refused-same (e ∙ sym f) u.refused v.refused
  only (suc (suc zero)) (suc (suc (suc zero))) e f u v = absurd (u.unfit v.taken.lengths)
  only (suc (suc zero)) (suc (suc (suc (suc zero)))) e f u v = absurd (u.unfit v.taken.lengths)
  only (suc (suc zero)) (suc (suc (suc (suc (suc m))))) e f u v = absurd v
  only (suc (suc (suc zero))) zero e f u v = absurd (corrected-beyond size mode slot _ u.beyond v.corrected)
  only (suc (suc (suc zero))) (suc zero) e f u v = absurd (v.unfit u.taken.range)
  only (suc (suc (suc zero))) (suc (suc zero)) e f u v = absurd (v.unfit u.taken.lengths)
  only (suc (suc (suc zero))) (suc (suc (suc zero))) e f u v = refused-same (e ∙ sym f) u.refused v.refused
  only (suc (suc (suc zero))) (suc (suc (suc (suc zero)))) e f u v = absurd (corrected-beyond size mode slot _ u.beyond v.corrected)
  only (suc (suc (suc zero))) (suc (suc (suc (suc (suc m))))) e f u v = absurd v
  only (suc (suc (suc (suc zero)))) zero e f u v = absurd (accepted-foreign size mode slot old new' new b a v u)
  only (suc (suc (suc (suc zero)))) (suc zero) e f u v = absurd (v.unfit u.taken.range)
  only (suc (suc (suc (suc zero)))) (suc (suc zero)) e f u v = absurd (v.unfit u.taken.lengths)
  only (suc (suc (suc (suc zero)))) (suc (suc (suc zero))) e f u v = absurd (corrected-beyond size mode slot _ v.beyond u.corrected)
  only (suc (suc (suc (suc zero)))) (suc (suc (suc (suc zero)))) e f u v = refused-same (e ∙ sym f) u.refused v.refused
  only (suc (suc (suc (suc zero)))) (suc (suc (suc (suc (suc m))))) e f u v = absurd v
  only (suc (suc (suc (suc (suc m))))) l e f u v = absurd u

-- the rule determines the answer
pub verdict-only : (size mode : ℕ) (slot old new new' : List ℕ) (a b : Told)
    → Unprotects size mode slot old new a → Unprotects size mode slot old new' b → SameAnswer new new' a b
verdict-only size mode slot old new new' a b u v = only size mode slot old new new' a b a.number b.number refl refl u v

-- ---- the comparison of the hashes decides

-- every word of a corrected slot is valid
pub valid-corrected : (size mode : ℕ) (slot c : List ℕ) → Corrected size mode slot c → AllValid size mode c
valid-corrected size mode slot c a i l = (a.near i l).valid

pub accepts : (size mode : ℕ) (slot old c : List ℕ) → Taken size mode slot old → Corrected size mode slot c → HashesMatch size mode c
    → Unprotects size mode slot old (frame_from size mode c)
    (accepted_with (request_from size mode c) (changes size slot c) (bit_changes size slot c))
accepts size mode slot old c t a m =
    let e = slot_read size mode c t.range a.bytes (valid-corrected size mode slot c a) m in
    record {
      taken = t;
      sent = sent-from size mode c t.range;
      corrected = rw e a;
      counted = ap (changes size slot) (sym e);
      bits_counted = ap (bit_changes size slot) (sym e);
    }

pub refuses : (size mode : ℕ) (slot old c : List ℕ) → Taken size mode slot old → Corrected size mode slot c → (HashesMatch size mode c → ⊥)
    → Unprotects size mode slot old old (refused_with 4)
refuses size mode slot old c t a n = record {
  taken = t;
  slot_is = c;
  corrected = a;
  foreign = λ r frame s e. n (rw e at (matches-slot size mode r frame t.range s));
  refused = record { kept = refl; nothing_else = refl };
}
