-- What the functions of this crate ask and promise one another and those over them: no part of what is right of a slot.
-- Assumes nothing.
use Rattle.std.specs.Prelude.{◌≡◌, Bool, true, false, List, ℕ, ◌*◌, ◌≤◌, length, Result, Ok, Err}
use Rattle.laws.specs.Tab.{Below}
use Rattle.refusals.specs.declared.Refusal.{Refusal}
use Rattle.refusals.specs.declared.Refusal.TheVariants as refusal
use Rattle.slot_laws.specs.Sizes.{InRange, frame_size}
use Rattle.slot_laws.specs.Order.{request_swapped, Data}
use Rattle.slot_laws.specs.Back.{rolled, request_in, rest_in, Matches}
use Rattle.slot_answers.specs.declared.Reception.{Reception}

-- the data of a slot in order, and the request that they carry
pub record Carries (size mode q : ℕ) (message : List ℕ) : Type 0 where
  pub range : InRange size mode
  pub request : q ≡ request_in size message
  pub given : Data size mode message

-- the frame's semi-octets, and room for the frame
pub record FrameRoom (a frame : List ℕ) : Type 0 where
  pub long : length a ≡ 2 * length frame
  pub most : length frame ≤ 400
  pub below : Below 16 a

-- the heading matches, and the frame is written
pub record IsWritten (size mode : ℕ) (message new : List ℕ) : Type 0 where
  pub matching : Matches size mode message
  pub frame_is : new ≡ rolled (frame_size size mode) (rest_in size mode message)

-- the heading does not match, and the frame buffer is as lent
pub record IsKept (size mode : ℕ) (message old new : List ℕ) : Type 0 where
  pub foreign : Matches size mode message → ⊥
  pub kept : new ≡ old

abbrev pub IsDelivered : ℕ → ℕ → List ℕ → List ℕ → List ℕ → Bool → Type 0
IsDelivered size mode message old new true = IsWritten size mode message new
IsDelivered size mode message old new false = IsKept size mode message old new

-- accepted with the counts and with the request that the data in order carry, and the frame is written
pub record AcceptedFrom (size mode : ℕ) (order : List ℕ) (count bits : ℕ) (new : List ℕ) (q n b : ℕ) : Type 0 where
  pub request : q ≡ request_in size order
  pub counted : n ≡ count
  pub bits_counted : b ≡ bits
  pub written : IsWritten size mode order new

-- the answer for data with these counts, from the data in order
abbrev pub IsAnswered : ℕ → ℕ → List ℕ → ℕ → ℕ → List ℕ → List ℕ → Result Reception Refusal → Type 0
IsAnswered size mode message count bits old new (Ok r) =
    AcceptedFrom size mode (request_swapped size mode message) count bits new r.request r.count r.bits
IsAnswered size mode message count bits old new (Err refusal.Setting) = ⊥
IsAnswered size mode message count bits old new (Err refusal.Length) = ⊥
IsAnswered size mode message count bits old new (Err refusal.Beyond) = ⊥
IsAnswered size mode message count bits old new (Err refusal.Foreign) = IsKept size mode (request_swapped size mode message) old new
IsAnswered size mode message count bits old new (Err (refusal.BitError why)) = ⊥
IsAnswered size mode message count bits old new (Err refusal.NoRoom) = ⊥
IsAnswered size mode message count bits old new (Err refusal.NotRecord) = ⊥
IsAnswered size mode message count bits old new (Err refusal.TooSmall) = ⊥
