-- What the reader's own steps promise each other beside their definitions: bounds of what is read, and cursors that stay inside.
-- No public promise but `Bounded` of `frame` rests on a line of this. Assumes nothing.
use Rattle.std.specs.Prelude.{◌≡◌, Result, Ok, Err, List, ℕ, ◌+◌, ◌*◌, ◌/◌, ◌≤◌, ◌<◌, length, get_or, ℤ, pos, nat_abs}
use Rattle.frame_coder.specs.declared.Coder.{Coder}
use Rattle.frame_pairs.specs.declared.PairSetting.{PairSetting}
use Rattle.frame_coder.specs.Sound.{Sound, Ready}
use Rattle.frame_pair.specs.Sound.{Room}
use Rattle.frame_pair.specs.declared.Streams.{Streams}
use Rattle.refusals.specs.declared.Cause.{Cause}
use Rattle.refusals.specs.Numbers.{cause_number}

-- every line has room for what may still come
abbrev pub Roomy : ℕ → List ℤ → List ℕ → Type 0
Roomy lsb lines levels = (i : ℕ) → Room lsb (get_or levels (i / 2) 0) (nat_abs (get_or lines i (pos 0)))

-- "Values lie in -32,767 to 32,767"
abbrev pub Small : List ℤ → Type 0
Small lines = (i : ℕ) → nat_abs (get_or lines i (pos 0)) ≤ 32767

-- what the pairs are read with: the frame, what the rate gives, the number of pairs, and both cursors
pub record PairsFrom (s : List ℕ) (o : PairSetting) (n : ℕ) (c : Coder) (p : ℕ) : Type 0 where
  pub ready : Ready s c 19
  pub mode : o.lsb < 2
  pub offset : o.offset ≤ 512
  pub pairs : n ≤ 200
  pub side : p ≤ 8 * length s

-- the working spectrum: the lines of 200 pairs and their levels
pub record Working (lsb : ℕ) (x : List ℤ) (l : List ℕ) : Type 0 where
  pub lines : length x ≡ 400
  pub levels : length l ≡ 200
  pub room : Roomy lsb x l

abbrev pub GoodPairs : List ℕ → ℕ → ℕ → Coder → Result Streams Cause → List ℤ → List ℕ → Type 0
GoodPairs s lsb n c (Ok at) lines levels =
    (at.coder.taken ≤ c.taken + 14 * n) × (at.side ≤ 8 * length s + 23) × Sound s at.coder × Roomy lsb lines levels
GoodPairs s lsb n c (Err why) lines levels = (4 ≤ cause_number why) × (cause_number why ≤ 6)
