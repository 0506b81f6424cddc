-- What each number promises that unprotecting many slots answers: of every slot what `Unprotects`, the definition for one slot in specs/ of
-- `slot`, says.
-- Assumes nothing.
use Rattle.std.specs.Prelude.{◌≡◌, List, ℕ, zero, suc, ◌*◌, ◌<◌, length, take, drop, get_or}
use Rattle.slot_laws.specs.Sizes.{InRange, frame_size}
use Rattle.slot_answers.specs.Answers.{Told}
use Rattle.slot.specs.Unprotect.{Unprotects}

-- the five buffers of answers: "one buffer each, one entry per slot", and "the frames end to end"
pub record Five : Type 0 where
  pub numbers : List ℕ
  pub requests : List ℕ
  pub counts : List ℕ
  pub bits : List ℕ
  pub frames : List ℕ

abbrev pub five : List ℕ → List ℕ → List ℕ → List ℕ → List ℕ → Five
five n r s b f = record { numbers = n; requests = r; counts = s; bits = b; frames = f }

-- number j of the slots, or of the frames' places, that stand end to end with n bytes each
unfoldable pub place_at : ℕ → ℕ → List ℕ → List ℕ
place_at n j s = take n (drop (j * n) s)

-- what the four entries of slot j tell
abbrev pub told_at : Five → ℕ → Told
told_at b j = record {
  number = get_or b.numbers j 0;
  request = get_or b.requests j 0;
  count = get_or b.counts j 0;
  bits = get_or b.bits j 0;
}

-- the six lengths fit: whole slots, as many as there are entries in each buffer and frames' places
pub record Fitting (size mode slots numbers requests counts bits frames : ℕ) : Type 0 where
  pub slots_fit : slots ≡ numbers * size
  pub requests_fit : requests ≡ numbers
  pub counts_fit : counts ≡ numbers
  pub bits_fit : bits ≡ numbers
  pub frames_fit : frames ≡ numbers * frame_size size mode

abbrev pub Fits : ℕ → ℕ → List ℕ → Five → Type 0
Fits size mode slots b =
    Fitting size mode (length slots) (length b.numbers) (length b.requests) (length b.counts) (length b.bits)
    (length b.frames)

-- the entries and the frame's place of slot j hold what the call with this slot alone gives
abbrev pub UnprotectsAt : ℕ → ℕ → List ℕ → Five → Five → ℕ → Type 0
UnprotectsAt size mode slots old new j =
    Unprotects size mode (place_at size j slots) (place_at (frame_size size mode) j old.frames)
    (place_at (frame_size size mode) j new.frames) (told_at new j)

-- every slot has its answer
pub record IsGiven (size mode : ℕ) (slots : List ℕ) (old new : Five) : Type 0 where
  pub range : InRange size mode
  pub lent : Fits size mode slots old
  pub left : Fits size mode slots new
  pub as_many : length new.numbers ≡ length old.numbers
  pub each : (j : ℕ) → j < length old.numbers → UnprotectsAt size mode slots old new j

-- a setting is out of range: "nothing is done"
pub record OutOfRange (size mode : ℕ) (old new : Five) : Type 0 where
  pub unfit : InRange size mode → ⊥
  pub kept : new ≡ old

-- the settings are in range, and a length doesn't fit: "nothing is done"
pub record DoesNotFit (size mode : ℕ) (slots : List ℕ) (old new : Five) : Type 0 where
  pub range : InRange size mode
  pub unfit : Fits size mode slots old → ⊥
  pub kept : new ≡ old

-- the promise: the slots, the five buffers lent, the five left, and the number
abbrev pub UnprotectsEach : ℕ → ℕ → List ℕ → Five → Five → ℕ → Type 0
UnprotectsEach size mode slots old new zero = IsGiven size mode slots old new
UnprotectsEach size mode slots old new (suc zero) = OutOfRange size mode old new
UnprotectsEach size mode slots old new (suc (suc zero)) = DoesNotFit size mode slots old new
UnprotectsEach size mode slots old new (suc (suc (suc n))) = ⊥
