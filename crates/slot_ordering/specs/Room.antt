-- What the functions of this crate ask of the buffers that they are lent: no part of what is right of a slot.
-- Assumes nothing.
use Rattle.std.specs.Prelude.{◌≡◌, List, ℕ, ◌*◌, ◌<◌, length}
use Rattle.laws.specs.Tab.{Below}
use Rattle.slot_laws.specs.Sizes.{frame_size, heading_size, data_size}

-- the frame's semi-octets, and room for the heading
pub record HeadingRoom (size mode : ℕ) (a out : List ℕ) : Type 0 where
  pub frame_long : length a ≡ 2 * frame_size size mode
  pub room : length out ≡ heading_size size mode

-- the frame, and room for the data
pub record DataRoom (size mode : ℕ) (frame out : List ℕ) : Type 0 where
  pub frame_long : length frame ≡ frame_size size mode
  pub room : length out ≡ data_size size mode

-- semi-octets, and two places among them
pub record TwoPlaces (s : List ℕ) (i j : ℕ) : Type 0 where
  pub first : i < length s
  pub second : j < length s
  pub below : Below 16 s
