-- Demand 3: what unprotecting answers about a slot that protecting made and that was changed on the way.
-- Assumes nothing.
use Rattle.std.specs.Prelude.{◌≡◌, ◌↔◌, List, ℕ, ◌-◌, ◌*◌}
use Rattle.slot_laws.specs.Changes.{changes, bit_changes, AtMost}
use Rattle.slot_laws.specs.Sizes.{Settings}
use Rattle.slot_protection.specs.Protect.{Lengths, Protects}
use Rattle.slot_answers.specs.Answers.{Told, accepted_with}
use Rattle.slot.specs.Unprotect.{Clean}

-- the sender's request and frame come back, and the counts are those of all changed semi-octets and of all changed bits
pub record ComesBack (size q : ℕ) (frame sent slot new : List ℕ) (answer : Told) : Type 0 where
  pub answer_back : answer ≡ accepted_with q (changes size slot sent) (bit_changes size slot sent)
  pub frame_back : new ≡ frame

-- protecting made `sent` of the frame and the request q; unprotecting was lent `slot`, left the frame `new` and answered
pub record DemandThree (size mode q : ℕ) (frame sent slot new : List ℕ) (answer : Told) : Type 0 where
  -- with at most m - 1 changed semi-octets in each word: what was sent comes back
  pub repairs : AtMost (mode - 1) size slot sent → ComesBack size q frame sent slot new answer
  -- with at most 2m - 2 in each word: called clean exactly when nothing was changed
  pub clean : AtMost (2 * mode - 2) size slot sent → Clean answer ↔ (changes size slot sent ≡ 0)

-- what stands in the slot's buffer is what protecting leaves there, with some number
pub record Sends (size mode q : ℕ) (frame lent sent : List ℕ) : Type 0 where
  pub number : ℕ
  pub protects : Protects size mode q frame lent sent number

-- a call of protecting and one of unprotecting, of one size and mode, of which neither gets 1 or 2
abbrev pub Carried : ℕ → ℕ → ℕ → List ℕ → List ℕ → List ℕ → List ℕ → List ℕ → List ℕ → Told → Type 0
Carried size mode q frame lent sent slot old new answer =
    Settings size mode q → Lengths size mode frame lent → Lengths size mode old slot → DemandThree size mode q frame sent slot new answer
