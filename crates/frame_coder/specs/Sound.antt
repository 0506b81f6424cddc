-- What the reader's own steps promise each other beside their definitions: bounds of what is read, and cursors that stay inside.
-- No public promise but `Bounded` of `frame` rests on a line of this. Assumes nothing.
use Rattle.std.specs.Prelude.{◌≡◌, Result, Ok, Err, List, ℕ, ◌+◌, ◌*◌, ◌<◌, ◌≤◌, length, get_or}
use Rattle.coder_tables.specs.Rows.{Row}
use Rattle.frame_settings.specs.Settings.{Sized}
use Rattle.frame_coder.specs.declared.Coder.{Coder}
use Rattle.frame_coder.specs.declared.Found.{Found}
use Rattle.frame_bits.specs.declared.Step.{Step}
use Rattle.refusals.specs.declared.Cause.{Cause}
use Rattle.refusals.specs.Numbers.{cause_number}

-- a cursor inside the frame whose range is not below `least`
pub record Within (least : ℕ) (s : List ℕ) (c : Coder) : Type 0 where
  pub low : c.low < 16777216
  pub wide : least ≤ c.range
  pub range : c.range < 16777216
  pub at : 3 ≤ c.at
  pub end : c.at ≤ length s

-- between two symbols
abbrev pub Sound : List ℕ → Coder → Type 0
Sound s c = Within 65536 s c

-- behind a symbol, before bytes are taken
abbrev pub Narrow : List ℕ → Coder → Type 0
Narrow s c = Within 64 s c

-- what a symbol is read from: a frame, and a cursor behind fewer than `most` symbols
pub record Ready (s : List ℕ) (c : Coder) (most : ℕ) : Type 0 where
  pub sized : Sized s
  pub sound : Sound s c
  pub taken : c.taken < most

-- what it is read with: a row for the symbols 0 .. last
pub record SymbolRow (cum : List ℕ) (at last : ℕ) : Type 0 where
  pub row : Row cum at last
  pub place : at < 65536
  pub short : last ≤ 16

-- a symbol of a row with its cumulative frequencies below and above it, both scaled by t
pub record Scaled (cum : List ℕ) (row t low last : ℕ) (f : Found) : Type 0 where
  pub symbol : f.symbol ≤ last
  pub below : f.below ≡ t * get_or cum (row + f.symbol) 0
  pub above : f.above ≡ t * get_or cum (row + (f.symbol + 1)) 0
  pub under : f.below ≤ low

abbrev pub Refilled : List ℕ → ℕ → Coder → Result (Step ℕ Coder) Cause → Type 0
Refilled s v c (Ok symbol) = (symbol.value ≡ v) × (symbol.next.taken ≡ c.taken) × Sound s symbol.next
Refilled s v c (Err why) = cause_number why ≡ 6

-- a symbol 0 .. last, which counts one
abbrev pub GoodSymbol : List ℕ → ℕ → Coder → Result (Step ℕ Coder) Cause → Type 0
GoodSymbol s last c (Ok symbol) = (symbol.value ≤ last) × (symbol.next.taken ≡ c.taken + 1) × Sound s symbol.next
GoodSymbol s last c (Err why) = (4 ≤ cause_number why) × (cause_number why ≤ 6)
