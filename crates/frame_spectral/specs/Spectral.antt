-- The spectral data and what follows them (5.4.2.7, 5.4.2.8), in the order of reading. Assumes nothing.
use Rattle.std.specs.Prelude.{◌≡◌, Result, Ok, Err, List, ℕ, ◌/◌, length, take, replicate, ℤ, pos}
use Rattle.coder_tables.specs.Tables.{look_table, spectrum_table}
use Rattle.frame_bits.specs.Read.{Read, value, cause, and_then}
use Rattle.frame_settings.specs.Settings.{rate_offset, half_of}
use Rattle.frame_pairs.specs.Pairs.{Spectrum, pairs_of}
use Rattle.frame_residual.specs.Residual.{Residual, left_of}
use Rattle.frame_settings.specs.declared.Setting.{Setting}
use Rattle.frame_coder.specs.declared.Coder.{Coder}
use Rattle.frame_side.specs.declared.Head.{Head}
use Rattle.frame_pairs.specs.declared.PairSetting.{PairSetting}
use Rattle.frame_spectral.specs.declared.SpectralRead.{SpectralRead}
use Rattle.refusals.specs.declared.Cause.{Cause}
use Rattle.refusals.specs.Numbers.{cause_number}
use Rattle.frame_finish.specs.Finish.{finished_of, sent_bits}

-- what follows the TNS data: the number of symbols taken, the lines and the residual bits, NE entries each
pub record Spectral : Type 0 where
  pub symbols : ℕ
  pub lines : List ℤ
  pub residual : Residual

-- what the pairs are read with
abbrev pub pair_setting : Setting → ℕ → ℕ → PairSetting
pair_setting r bytes lsb = record { lsb = lsb; offset = rate_offset r.index bytes; half = half_of r }

abbrev pub spectral_of : List ℕ → Setting → Head → Spectrum → ℕ → ℕ → ℕ → Spectral
spectral_of s r h x symbols p left =
    record {
      symbols = symbols;
      lines = take r.lines (finished_of s h.lsb_mode h.last_line x p left);
      residual = sent_bits s h.lsb_mode r.lines x p left;
    }

-- the pairs and what follows them, from both cursors; the working spectrum starts as 400 zeros
unfoldable pub spectral_from : List ℕ → Setting → Head → Coder → ℕ → Read ℕ Spectral
spectral_from s r h c p =
    and_then (pairs_of s look_table spectrum_table (pair_setting r (length s) h.lsb_mode) (h.last_line / 2) 0 0 c p
    (replicate 400 (pos 0)) (replicate 200 0)) (λ x k.
    and_then (left_of (length s) k.side k.coder) (λ left p. value (spectral_of s r h x k.coder.taken p left) p))

-- the answer of the pairs and what follows them, with the lines and the residual bits in the buffers lent; on a cause both are as lent
abbrev pub spectral_given : Result SpectralRead Cause → List ℤ → List ℕ → Read ℕ Spectral
spectral_given (Ok x) lines bits =
    value (record { symbols = x.symbols; lines = lines; residual = record { number = x.residual_bits; bits = bits } }) x.next
spectral_given (Err why) lines bits = cause (cause_number why)

abbrev pub KeptOnCause : Result SpectralRead Cause → List ℤ → List ℤ → List ℕ → List ℕ → Type 0
KeptOnCause (Ok x) lines lines' bits bits' = Unit {0}
KeptOnCause (Err why) lines lines' bits bits' = (lines' ≡ lines) × (bits' ≡ bits)
