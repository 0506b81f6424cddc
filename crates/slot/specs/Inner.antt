-- What the private functions ask: no part of what is right of a slot.
-- Assumes nothing.
use Rattle.std.specs.Prelude.{List, ℕ}
use Rattle.slot_laws.specs.Sizes.{InRange}
use Rattle.slot_laws.specs.Order.{Data}
use Rattle.slot_protection.specs.Protect.{Lengths}

-- the settings, the lent buffers and room for the data
pub record Judgeable (size mode : ℕ) (slot message frame : List ℕ) : Type 0 where
  pub range : InRange size mode
  pub lengths : Lengths size mode frame slot
  pub room : Data size mode message
