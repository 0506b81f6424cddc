-- What the writer's own steps promise each other beside their definitions: bounds, and room for what comes. Assumes nothing.
use Rattle.std.specs.Prelude.{◌≡◌, List, ℕ, ◌+◌, ◌-◌, ◌*◌, ◌^◌, ◌<◌, ◌≤◌, length, get_or}
use Rattle.frame_coder.specs.declared.Coder.{Coder}
use Rattle.writer_laws.specs.Stream.{front_of, whole_of}

-- what a symbol is written with: its part of the row
pub record Part (cum : List ℕ) (row v : ℕ) : Type 0 where
  pub inside : row + (v + 1) < length cum
  pub rises : get_or cum (row + v) 0 < get_or cum (row + (v + 1)) 0
  pub most : get_or cum (row + (v + 1)) 0 ≤ 1024

-- the number stays below 1: 8 (at - 3) bits, and 24 of which the first range lacks one unit
abbrev pub Below1 : Coder → Type 0
Below1 c = c.low + c.range ≤ 2 ^ (8 * (c.at - 3)) * 16777215

-- a stream whose range is not below `least`: 512 bytes of room, zeros from the place of the next one on
pub record Streams (least : ℕ) (front : List ℕ) (c : Coder) : Type 0 where
  pub room : length front ≡ 512
  pub low : c.low < 16777216
  pub wide : least ≤ c.range
  pub range : c.range < 16777216
  pub at : 3 ≤ c.at
  pub below : Below1 (whole_of front c)
  pub fresh : (i : ℕ) → c.at - 3 ≤ i → get_or front i 0 ≡ 0

-- between two symbols
abbrev pub Flows : List ℕ → Coder → Type 0
Flows front c = Streams 65536 front c

-- what one symbol takes of both counts
pub record OneMore (c d : Coder) : Type 0 where
  pub at : d.at ≤ c.at + 2
  pub taken : d.taken ≡ c.taken + 1

-- one more in the first n bytes; the others stay
pub record Carried (n : ℕ) (front front' : List ℕ) : Type 0 where
  pub number : front_of front' n ≡ front_of front n + 1
  pub room : length front' ≡ length front
  pub rest : (i : ℕ) → n ≤ i → get_or front' i 0 ≡ get_or front i 0

-- the first n coefficients are symbols of their rows
abbrev pub Sendable : ℕ → List ℕ → Type 0
Sendable n l = (k : ℕ) → k < n → get_or l k 0 ≤ 16

-- what n symbols take of both counts at most
pub record Within (n : ℕ) (c d : Coder) : Type 0 where
  pub at : d.at ≤ c.at + 2 * n
  pub taken : d.taken ≤ c.taken + n
