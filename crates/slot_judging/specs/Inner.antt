-- What the functions ask of those over them: no part of what is right of a slot.
-- Assumes nothing.
use Rattle.std.specs.Prelude.{◌≡◌, List, ℕ, ◌*◌, length}
use Rattle.slot_laws.specs.Sizes.{InRange}
use Rattle.slot_gathering.specs.Inner.{Rooms}

-- the room that a slot is unprotected in
pub record Lent (size mode : ℕ) (places all changes ones message : List ℕ) : Type 0 where
  pub range : InRange size mode
  pub places_long : length places ≡ 2 * size
  pub all_long : length all ≡ 2 * size
  pub rooms : Rooms size mode changes ones message
