-- The spectral data (5.4.2.7): pairs of lines one after the other, from line 0 up. Assumes nothing.
use Rattle.std.specs.Prelude.{cond, Result, Ok, Err, List, ℕ, zero, suc, ◌+◌, ◌*◌, ltb, eqb, set, ℤ, pos, neg_ℤ}
use Rattle.frame_bits.specs.Read.{Read, value, cause, and_then}
use Rattle.frame_coder.specs.declared.Coder.{Coder}
use Rattle.frame_pair.specs.declared.Pair.{Pair}
use Rattle.frame_pairs.specs.declared.PairSetting.{PairSetting}
use Rattle.refusals.specs.declared.Cause.{Cause}
use Rattle.refusals.specs.Numbers.{cause_number}
use Rattle.frame_pair.specs.Pair.{pair_of}
use Rattle.frame_pair.specs.declared.Streams.{Streams}

-- "256 more past line NE/2": the context of line k with its offsets
abbrev pub base_of : ℕ → ℕ → ℕ → ℕ → ℕ
base_of context offset half k = context + offset + cond (ltb half k) 256 0

-- a magnitude with its sign bit
abbrev pub line_of : ℕ → ℕ → ℤ
line_of m sign = cond (eqb sign 0) (pos m) (neg_ℤ (pos m))

-- lines 2k and 2k + 1
abbrev pub store_of : List ℤ → ℕ → Pair → List ℤ
store_of lines k q = set (set lines (2 * k) (line_of q.x q.xsign)) (2 * k + 1) (line_of q.y q.ysign)

-- the lines, and each pair's level
pub record Spectrum : Type 0 where
  pub lines : List ℤ
  pub levels : List ℕ

abbrev pub spectrum_given : List ℤ → List ℕ → Spectrum
spectrum_given lines levels = record { lines = lines; levels = levels }

-- n pairs from pair k on; o has the offset of the rate, NE / 2 and the LSB mode
unfoldable pub pairs_of : List ℕ → List ℕ → List ℕ → PairSetting → ℕ → ℕ → ℕ → Coder → ℕ → List ℤ → List ℕ → Read Streams Spectrum
pairs_of s look cum o zero k context c p lines levels =
    value (record { lines = lines; levels = levels }) (record { coder = c; side = p })
pairs_of s look cum o (suc n) k context c p lines levels =
    and_then (pair_of s look cum o.lsb (base_of context o.offset o.half (2 * k)) context c p) (λ q d.
    pairs_of s look cum o n (suc k) q.context d.coder d.side (store_of lines k q) (set levels k q.level))

-- the answer, with the lines and levels in the lists lent
abbrev pub pairs_given : Result Streams Cause → List ℤ → List ℕ → Read Streams Spectrum
pairs_given (Ok at) lines levels = value (spectrum_given lines levels) at
pairs_given (Err why) lines levels = cause (cause_number why)
