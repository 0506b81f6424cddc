-- What can be written (request 02 §5): the fields in their ranges, and lines and residual bits that go with them. Assumes nothing.
use Rattle.std.specs.Prelude.{Bool, true, cond, ◌&&◌, List, ℕ, zero, suc, ◌+◌, ◌*◌, ltb, leb, eqb, length, get_or, ℤ, pos, nat_abs}
use Rattle.frame_bits.specs.Fields.{list_fits}
use Rattle.frame_settings.specs.Settings.{order_of}
use Rattle.frame_settings.specs.declared.Setting.{Setting}
use Rattle.frame_side.specs.Side.{last_pair, side_fields}
use Rattle.frame_side.specs.declared.Side.{Side}
use Rattle.frame_residual.specs.Residual.{is_zero}
use Rattle.frame_answers.specs.declared.Fields.{Fields}
use Rattle.writer_laws.specs.SideBits.{side_values}

-- of m entries from place k on, those before place n are at most `most`, and the others are 0
unfoldable pub fits_from : ℕ → ℕ → (ℕ → ℕ) → ℕ → ℕ → Bool
fits_from most n entry zero k = true
fits_from most n entry (suc m) k = leb (entry k) (cond (ltb k n) most 0) && fits_from most n entry m (suc k)

-- all entries of a list
abbrev pub entries_fit : ℕ → ℕ → List ℕ → Bool
entries_fit most n l = fits_from most n (λ k. get_or l k 0) (length l) 0

-- of lines by their magnitudes, and all of them
abbrev pub magnitudes_from : ℕ → ℕ → List ℤ → ℕ → ℕ → Bool
magnitudes_from most n xs m k = fits_from most n (λ i. nat_abs (get_or xs i (pos 0))) m k

abbrev pub magnitudes_fit : ℕ → ℕ → List ℤ → Bool
magnitudes_fit most n xs = magnitudes_from most n xs (length xs) 0

-- a filter's order: 0 where its flag is, else 1 to the highest; its coefficients "0 .. 16 below the order; 0 from the order on"
abbrev pub filter_fits : ℕ → ℕ → ℕ → List ℕ → Bool
filter_fits q flag order l = cond (eqb flag 0) (eqb order 0) (leb 1 order && leb order (order_of q)) && entries_fit 16 order l

-- the side information: each field in its width and rule, a last line that is even and not 0, and LSB mode 0
abbrev pub side_fits : Setting → Side → Bool
side_fits r v =
    list_fits (side_fields r) (side_values v)
    && (eqb v.head.last_line (2 * (last_pair v.head.last_line + 1)) && eqb v.head.lsb_mode 0)

-- the first refusal 1: a field outside its range, or not 0 where it is not sent
unfoldable pub fields_fit : Setting → Fields → List ℕ → List ℕ → Bool
fields_fit r f first second =
    side_fits r f.side
    && (filter_fits r.duration f.side.flags.tns_0 f.tns_order_0 first
    && filter_fits r.duration f.side.flags.tns_1 f.tns_order_1 second)

-- the lines that are not 0, among m from k on
unfoldable pub non_zero_from : List ℤ → ℕ → ℕ → ℕ
non_zero_from xs zero k = 0
non_zero_from xs (suc m) k = cond (is_zero (get_or xs k (pos 0))) 0 1 + non_zero_from xs m (suc k)

abbrev pub non_zero : List ℤ → ℕ
non_zero xs = non_zero_from xs (length xs) 0

-- the second refusal 1: lines -32,767 .. 32,767, 0 from the last line on; one residual bit for each that is not 0, and 0 after them
unfoldable pub lines_fit : Fields → List ℤ → List ℕ → Bool
lines_fit f xs bits =
    magnitudes_fit 32767 f.side.head.last_line xs
    && (eqb f.residual_bits (non_zero xs) && entries_fit 1 f.residual_bits bits)
