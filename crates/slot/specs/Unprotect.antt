-- What each number that unprotecting answers promises.
-- Assumes nothing.
use Rattle.std.specs.Prelude.{◌≡◌, ◌↔◌, List, ℕ, zero, suc, ◌*◌, ◌≤◌, length}
use Rattle.laws.specs.Tab.{Below}
use Rattle.slot_laws.specs.Sizes.{InRange}
use Rattle.slot_laws.specs.Slot.{Sent, slot_of}
use Rattle.slot_laws.specs.Changes.{changes, bit_changes}
use Rattle.slot_protection.specs.Protect.{Lengths}
use Rattle.slot_answers.specs.Answers.{Told, refused_with}
use Rattle.slot_laws.specs.Corrected.{Corrected, SomeBeyond}

-- a call that gets neither 1 nor 2
pub record Taken (size mode : ℕ) (slot old : List ℕ) : Type 0 where
  pub range : InRange size mode
  pub lengths : Lengths size mode old slot
  pub bytes : Below 256 slot

-- the corrected slot is what protecting makes of this frame and request; the counts are those of the semi-octets and of the bits in which
-- the two slots differ
pub record IsAccepted (size mode : ℕ) (slot old new : List ℕ) (answer : Told) : Type 0 where
  pub taken : Taken size mode slot old
  pub sent : Sent size mode answer.request new
  pub corrected : Corrected size mode slot (slot_of size mode answer.request new)
  pub counted : answer.count ≡ changes size slot (slot_of size mode answer.request new)
  pub bits_counted : answer.bits ≡ bit_changes size slot (slot_of size mode answer.request new)

-- a refusal: every other field is zero, and the frame buffer is as lent
pub record Refused (old new : List ℕ) (answer : Told) : Type 0 where
  pub kept : new ≡ old
  pub nothing_else : answer ≡ refused_with answer.number

-- a setting is out of range
pub record BadSetting (size mode : ℕ) (old new : List ℕ) (answer : Told) : Type 0 where
  pub unfit : InRange size mode → ⊥
  pub refused : Refused old new answer

-- the settings are in range, and a buffer hasn't its length
pub record BadLength (size mode : ℕ) (slot old new : List ℕ) (answer : Told) : Type 0 where
  pub range : InRange size mode
  pub unfit : Lengths size mode old slot → ⊥
  pub refused : Refused old new answer

pub record IsBeyond (size mode : ℕ) (slot old new : List ℕ) (answer : Told) : Type 0 where
  pub taken : Taken size mode slot old
  pub beyond : SomeBeyond size mode slot
  pub refused : Refused old new answer

-- every word can be corrected, and the corrected slot is not what protecting makes of any frame and request
pub record IsForeign (size mode : ℕ) (slot old new : List ℕ) (answer : Told) : Type 0 where
  pub taken : Taken size mode slot old
  pub slot_is : List ℕ
  pub corrected : Corrected size mode slot slot_is
  pub foreign : (r : ℕ) (frame : List ℕ) → Sent size mode r frame → slot_of size mode r frame ≡ slot_is → ⊥
  pub refused : Refused old new answer

-- what an answer with this number promises
abbrev pub Promised : ℕ → ℕ → ℕ → List ℕ → List ℕ → List ℕ → Told → Type 0
Promised zero size mode slot old new answer = IsAccepted size mode slot old new answer
Promised (suc zero) size mode slot old new answer = BadSetting size mode old new answer
Promised (suc (suc zero)) size mode slot old new answer = BadLength size mode slot old new answer
Promised (suc (suc (suc zero))) size mode slot old new answer = IsBeyond size mode slot old new answer
Promised (suc (suc (suc (suc zero)))) size mode slot old new answer = IsForeign size mode slot old new answer
Promised (suc (suc (suc (suc (suc m))))) size mode slot old new answer = ⊥

-- the promise: the slot, the frame buffer lent, the one left, and the answer
abbrev pub Unprotects : ℕ → ℕ → List ℕ → List ℕ → List ℕ → Told → Type 0
Unprotects size mode slot old new answer = Promised answer.number size mode slot old new answer

-- the bounds of an accepted answer, which a record can hold: the request, at most 54 words x 3 semi-octets, one to four bits for each of
-- them, so that either count is 0 where the other is, and the shortest and the longest frame
pub record InRecord (answer : Told) (new : List ℕ) : Type 0 where
  pub request_to : answer.request ≤ 3
  pub count_to : answer.count ≤ 162
  pub bits_from : answer.count ≤ answer.bits
  pub bits_within : answer.bits ≤ 4 * answer.count
  pub bits_to : answer.bits ≤ 648
  pub same_clean : (answer.bits ≡ 0) ↔ (answer.count ≡ 0)
  pub frame_from : 20 ≤ length new
  pub frame_to : length new ≤ 343

-- what unprotecting accepts a record can hold
abbrev pub Recordable : Told → List ℕ → Type 0
Recordable answer new = answer.number ≡ 0 → InRecord answer new

-- accepted with count 0
abbrev pub Clean : Told → Type 0
Clean answer = (answer.number ≡ 0) × (answer.count ≡ 0)
