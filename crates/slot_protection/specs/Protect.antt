-- What each number that protecting answers promises.
-- Assumes nothing.
use Rattle.std.specs.Prelude.{◌≡◌, List, ℕ, zero, suc, length}
use Rattle.laws.specs.Tab.{Below}
use Rattle.slot_laws.specs.Sizes.{Settings, frame_size}
use Rattle.slot_laws.specs.Slot.{slot_of}

-- the lent buffers: the frame and the slot
pub record Lengths (size mode : ℕ) (frame slot : List ℕ) : Type 0 where
  pub frame_long : length frame ≡ frame_size size mode
  pub slot_long : length slot ≡ size

-- the slot left is the one that Annex A makes
pub record IsProtected (size mode q : ℕ) (frame old new : List ℕ) : Type 0 where
  pub settings : Settings size mode q
  pub lengths : Lengths size mode frame old
  pub bytes : Below 256 frame
  pub made : new ≡ slot_of size mode q frame

-- a setting is out of range
pub record BadSetting (size mode q : ℕ) (old new : List ℕ) : Type 0 where
  pub unfit : Settings size mode q → ⊥
  pub kept : new ≡ old

-- the settings are in range, and a buffer hasn't its length
pub record BadLength (size mode q : ℕ) (frame old new : List ℕ) : Type 0 where
  pub settings : Settings size mode q
  pub unfit : Lengths size mode frame old → ⊥
  pub kept : new ≡ old

-- the promise: the slot lent, the slot left, and the number
abbrev pub Protects : ℕ → ℕ → ℕ → List ℕ → List ℕ → List ℕ → ℕ → Type 0
Protects size mode q frame old new zero = IsProtected size mode q frame old new
Protects size mode q frame old new (suc zero) = BadSetting size mode q old new
Protects size mode q frame old new (suc (suc zero)) = BadLength size mode q frame old new
Protects size mode q frame old new (suc (suc (suc n))) = ⊥
