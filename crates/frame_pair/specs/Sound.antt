-- What the reader's own steps promise each other beside their definitions: bounds of what is read, and cursors that stay inside.
-- No public promise but `Bounded` of `frame` rests on a line of this. Assumes nothing.
use Rattle.std.specs.Prelude.{◌≡◌, Result, Ok, Err, List, ℕ, ◌+◌, ◌*◌, ◌^◌, ◌<◌, ◌≤◌, length}
use Rattle.frame_bits.specs.declared.Step.{Step}
use Rattle.frame_coder.specs.declared.Coder.{Coder}
use Rattle.frame_pair.specs.declared.Last.{Last}
use Rattle.frame_pair.specs.declared.Pair.{Pair}
use Rattle.frame_pair.specs.declared.Streams.{Streams}
use Rattle.frame_pair.specs.declared.Values.{Values}
use Rattle.refusals.specs.declared.Cause.{Cause}
use Rattle.refusals.specs.Numbers.{cause_number}
use Rattle.frame_coder.specs.Sound.{Sound}

abbrev pub GoodSign : Result (Step ℕ ℕ) Cause → Type 0
GoodSign (Ok sign) = sign.value < 2
GoodSign (Err why) = cause_number why ≡ 6

-- a value that `level` escapes have built: in LSB mode 1 its lowest bit is still to come
abbrev pub Built : ℕ → ℕ → ℕ → Type 0
Built lsb level x = (x < 2 ^ level) × (1 ≤ level → x + 1 + lsb ≤ 2 ^ level)

-- the values of a pair behind `level` escapes
pub record Escaped (lsb level x y : ℕ) : Type 0 where
  pub mode : lsb < 2
  pub few : level ≤ 13
  pub first : Built lsb level x
  pub second : Built lsb level y

abbrev pub GoodPlane : ℕ → ℕ → Result (Step Values ℕ) Cause → Type 0
GoodPlane lsb level (Ok plane) = Built lsb (level + 1) plane.value.x × Built lsb (level + 1) plane.value.y
GoodPlane lsb level (Err why) = cause_number why ≡ 6

-- behind the escapes: the last symbol l, and the coder d
abbrev pub LastAt : List ℕ → ℕ → Coder → Last → Coder → Type 0
LastAt s lsb c l d =
    (l.symbol < 16) × (l.level ≤ 13) × Built lsb l.level l.x × Built lsb l.level l.y × (d.taken ≤ c.taken + 14) × Sound s d

abbrev pub GoodLast : List ℕ → ℕ → Coder → Result (Step Last Streams) Cause → Type 0
GoodLast s lsb c (Ok last) = LastAt s lsb c last.value last.next.coder
GoodLast s lsb c (Err why) = (4 ≤ cause_number why) × (cause_number why ≤ 6)

-- a magnitude, which a late low bit may still raise in LSB mode 1 where there was an escape
abbrev pub Room : ℕ → ℕ → ℕ → Type 0
Room lsb level m = (m ≤ 32767) × (1 ≤ level → m + lsb ≤ 32767)

-- behind the pair q: the coder d and the side cursor p
abbrev pub PairAt : List ℕ → ℕ → Coder → Pair → Coder → ℕ → Type 0
PairAt s lsb c q d p =
    Room lsb q.level q.x × Room lsb q.level q.y × (q.level ≤ 13) × (q.context < 256) × (d.taken ≤ c.taken + 14)
    × (p ≤ 8 * length s + 23) × Sound s d

abbrev pub GoodPair : List ℕ → ℕ → Coder → Result (Step Pair Streams) Cause → Type 0
GoodPair s lsb c (Ok pair) = PairAt s lsb c pair.value pair.next.coder pair.next.side
GoodPair s lsb c (Err why) = (4 ≤ cause_number why) × (cause_number why ≤ 6)
