-- What the writer's own steps promise each other of the side stream: the bytes that are full stand in the lent slice, the first bits first,
-- and the bits that fill none yet are held. Assumes nothing.
use Rattle.std.specs.Prelude.{◌≡◌, List, ◌++◌, ℕ, ◌*◌, ◌/◌, ◌%◌, ◌^◌, ◌<◌, ◌≤◌, length, get_or}
use Rattle.writer_laws.specs.SideBits.{number_of}
use Rattle.writer_steps.specs.declared.Cursor.{Cursor}

-- room for 512 bytes, and fewer than eight bits held
pub record Open (side : List ℕ) (c : Cursor) : Type 0 where
  pub room : length side ≡ 512
  pub held : c.held < 2 ^ (c.at % 8)

-- the bits of l were written, and no others
pub record Kept (l side : List ℕ) (c : Cursor) : Type 0 where
  pub at : c.at ≡ length l
  pub bits : number_of l < 2 ^ length l
  pub held : c.held ≡ number_of l / 2 ^ (8 * (c.at / 8))
  pub full : (j : ℕ) → j < c.at / 8 → get_or side j 0 ≡ number_of l / 2 ^ (8 * j) % 256
  pub fresh : (j : ℕ) → c.at / 8 ≤ j → get_or side j 0 ≡ 0

-- all bytes of the number of l
abbrev pub Closed : List ℕ → List ℕ → Type 0
Closed l side = (j : ℕ) → get_or side j 0 ≡ number_of l / 2 ^ (8 * j) % 256

-- some bits were written behind those that were there
abbrev pub Puts : List ℕ → List ℕ → List ℕ → Cursor → Cursor → Type 0
Puts bits side side' c c' = (l : List ℕ) → Kept l side c → Kept (l ++ bits) side' c'

-- whatever was written stands in the bytes whole
abbrev pub Closes : List ℕ → List ℕ → Cursor → Type 0
Closes side side' c = (l : List ℕ) → Kept l side c → Closed l side'

-- the first n entries are bits
abbrev pub Binary : ℕ → List ℕ → Type 0
Binary n l = (i : ℕ) → i < n → get_or l i 0 < 2
