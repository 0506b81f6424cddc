-- What the loop over the slots promises: no part of what is right of many slots.
-- Assumes nothing.
use Rattle.std.specs.Prelude.{◌≡◌, List, ℕ, ◌*◌, ◌<◌, length, drop}
use Rattle.slot_laws.specs.Sizes.{frame_size}
use Rattle.slot_each.specs.Each.{Five, Fits, UnprotectsAt}

-- the first n slots have their answers, and behind their places the frames are as lent
pub record EachTo (size mode n : ℕ) (slots : List ℕ) (old new : Five) : Type 0 where
  pub left : Fits size mode slots new
  pub as_many : length new.numbers ≡ length old.numbers
  pub each : (j : ℕ) → j < n → UnprotectsAt size mode slots old new j
  pub rest : drop (n * frame_size size mode) new.frames ≡ drop (n * frame_size size mode) old.frames
