-- The spectral data and what follows them read back: the lines given, and of the residual bits those that were sent. Assumes nothing.
use mathlib.Core.Path.{◌≡◌, refl, sym, ap, ap₂, ◌∙◌}
use mathlib.Core.Bool.{Bool, true, false, cond}
use mathlib.Core.List.{List}
use Prim.Native.Nat.{ℕ, ◌+◌, ◌-◌, ◌*◌, ◌/◌, ◌≤◌, ◌<◌}
use native.Mathlib.Nat.{zero-add, sub-zero}
use native.Mathlib.Omega.{arith}
use lib.Dec.{ltb, eqb}
use lib.ListN.{length, get_or, take, replicate, length-replicate, get_or-replicate}
use lib.IntN.{ℤ, pos}
use borrow.Author.Tests.{le-ltb, ltb-true, ltb-false, eq-eqb}
use Rattle.coder_tables.specs.Tables.{look_table, spectrum_table}
use Rattle.coder_tables.proofs.Rules.{spectrum-tables}
use Rattle.frame_bits.specs.Read.{Read, value, and_then}
use Rattle.frame_bits.specs.Bits.{bit_of}
use Rattle.frame_coder.specs.declared.Coder.{Coder}
use Rattle.frame_settings.specs.Settings.{Known, rate_offset}
use Rattle.frame_settings.specs.declared.Setting.{Setting}
use Rattle.frame_side.specs.declared.Head.{Head}
use Rattle.frame_pair.specs.declared.Streams.{Streams}
use Rattle.frame_pairs.specs.Pairs.{Spectrum, spectrum_given}
use Rattle.frame_pairs.specs.Sound.{Small}
use Rattle.frame_pairs.specs.declared.PairSetting.{PairSetting}
use Rattle.frame_residual.specs.Residual.{Residual, residual_given, residual_of, used_bits, left_of}
use Rattle.frame_finish.specs.Finish.{finished_of, sent_bits}
use Rattle.frame_spectral.specs.Spectral.{Spectral, pair_setting, spectral_of, spectral_from}
use Rattle.writer_laws.specs.Stream.{coded_all}
use Rattle.writer_laws.specs.Pairs.{pairs_items, pairs_bits}
use Rattle.writer_laws.specs.Fits.{non_zero_from}
use Rattle.writer_laws.proofs.Ends.{log2-most}
use Rattle.writer_back.specs.Back.{kept_bits}
use Rattle.writer_back.proofs.Inside.{Bytes, Inside, seen}
use Rattle.writer_back.proofs.PairsBack.{Carries, stored_of, levels_of, pairs-back, length-stored, stored-line, stored_other}
use Rattle.writer_back.proofs.LinesBack.{least, lines-back, residual-back}

pub offset-most : (index bytes : ℕ) → rate_offset index bytes ≤ 512
offset-most index bytes = go (ltb (160 + 160 * index) (8 * bytes))
  where
    go : (t : Bool) → cond t 512 0 ≤ 512
    go true = omega arith
    go false = omega arith

-- the stored lines are those given, where these are 0 from the last line on
pub stored-agrees :
    (xs : List ℤ) (last n : ℕ) → last ≡ 2 * (last / 2) → n ≤ 400 → ((i : ℕ) → last ≤ i → get_or xs i (pos 0) ≡ pos 0) → (i : ℕ) → i < n
    → get_or (stored_of xs (last / 2) 0 (replicate 400 (pos 0))) i (pos 0) ≡ get_or xs i (pos 0)
stored-agrees xs last n even most none i h = go (ltb i last) refl
  where
    go : (t : Bool) → ltb i last ≡ t → get_or (stored_of xs (last / 2) 0 (replicate 400 (pos 0))) i (pos 0) ≡ get_or xs i (pos 0)
    go true e =
        let q = ltb-true i last e in
        let l = length-replicate 400 (pos 0) in
        stored-line xs (last / 2) 0 (replicate 400 (pos 0)) i (omega arith) (omega arith) (rw l (omega arith))
    go false e =
        let q = ltb-false i last e in
        stored_other xs (last / 2) 0 (replicate 400 (pos 0)) i (λ a b. omega arith)
        ∙ get_or-replicate 400 i (pos 0) (pos 0) (omega arith) ∙ sym (none i q)

-- bits enough: no cause 7
pub left_back : (bytes p : ℕ) (c : Coder) → used_bits p c ≤ 8 * bytes → left_of bytes p c ≡ value (8 * bytes - used_bits p c) p
unfolding left_of
left_back bytes p c h = rw (le-ltb (8 * bytes) (used_bits p c) h)

module _ (s : List ℕ) (r : Setting) (h : Head) (xs : List ℤ) (given : List ℕ) (c : Coder) (p : ℕ) where
  -- both streams behind the last pair, and the bits left
  abbrev pub behind : Coder
  behind = coded_all (pairs_items look_table spectrum_table (pair_setting r (length s) h.lsb_mode) xs (h.last_line / 2) 0 0) c

  abbrev pub side_end : ℕ
  side_end = p + length (pairs_bits xs (h.last_line / 2) 0)

  abbrev pub sent_number : ℕ
  sent_number = least (8 * length s - used_bits side_end behind) (non_zero_from xs r.lines 0)

  module _ (known : Known r) (lsb : h.lsb_mode ≡ 0) (even : h.last_line ≡ 2 * (h.last_line / 2)) (spectrum : length xs ≡ r.lines)
      (residual : length given ≡ r.lines) (none : (i : ℕ) → h.last_line ≤ i → get_or xs i (pos 0) ≡ pos 0)
      (all : non_zero_from xs r.lines 0 ≤ length given)
      (sent : (i : ℕ) → i < sent_number → bit_of s (side_end + i) ≡ get_or given i 0) where
    stored : List ℤ
    stored = stored_of xs (h.last_line / 2) 0 (replicate 400 (pos 0))

    agrees : (i : ℕ) → i < r.lines → get_or stored i (pos 0) ≡ get_or xs i (pos 0)
    unfolding stored
    agrees = stored-agrees xs h.last_line r.lines even known.lines none

    lines_are : take r.lines stored ≡ xs
    unfolding stored
    lines_are =
        let l = length-stored xs (h.last_line / 2) 0 (replicate 400 (pos 0)) in
        let k = length-replicate 400 (pos 0) in
        let m = known.lines in
        lines-back r.lines stored xs spectrum (omega arith) agrees

    bits_are : residual_of s stored side_end (8 * length s - used_bits side_end behind) r.lines 0 0 (replicate r.lines 0)
        ≡ residual_given sent_number (kept_bits sent_number given)
    bits_are =
        let left : ℕ = 8 * length s - used_bits side_end behind in
        let e : length given - 0 ≡ r.lines = sub-zero (length given) ∙ residual in
        let f = residual-back s stored xs side_end left (non_zero_from xs r.lines 0) given r.lines 0 0
        (sym (zero-add (non_zero_from xs r.lines 0))) (omega arith) all (λ i u. agrees i (omega arith)) sent in
        ap (λ (k : ℕ). residual_of s stored side_end left r.lines 0 0 (replicate k 0)) (sym e) ∙ f

    -- in LSB mode 0 both are what the frame gives
    finished : (levels : List ℕ) (symbols : ℕ)
        → spectral_of s r h (spectrum_given stored levels) symbols side_end (8 * length s - used_bits side_end behind)
        ≡ record { symbols = symbols; lines = xs; residual = residual_given sent_number (kept_bits sent_number given) }
    finished levels symbols =
        let left : ℕ = 8 * length s - used_bits side_end behind in
        let x : Spectrum = spectrum_given stored levels in
        let t : eqb h.lsb_mode 0 ≡ true = eq-eqb h.lsb_mode 0 lsb in
        let a : take r.lines (finished_of s h.lsb_mode h.last_line x side_end left) ≡ xs = rw t lines_are in
        let b : sent_bits s h.lsb_mode r.lines x side_end left ≡ residual_given sent_number (kept_bits sent_number given) =
        rw t bits_are in
        ap₂ (λ (l : List ℤ) (m : Residual). record { symbols = symbols; lines = l; residual = m }) a b

    pub spectral-back :
        Bytes s → Small xs → Carries s p (pairs_bits xs (h.last_line / 2) 0) → Inside s behind → behind.at ≤ length s
        → used_bits side_end behind ≤ 8 * length s
        → spectral_from s r h (seen s c) p
        ≡ value (record { symbols = behind.taken; lines = xs; residual = residual_given sent_number (kept_bits sent_number given) })
        side_end
    unfolding spectral_from stored
    spectral-back bytes small carries inside at room =
        let o : PairSetting = pair_setting r (length s) h.lsb_mode in
        let m = log2-most behind.range 23 in
        let x : Spectrum = spectrum_given stored (levels_of xs (h.last_line / 2) 0 (replicate 200 0)) in
        let left : ℕ = 8 * length s - used_bits side_end behind in
        let pairs = pairs-back look_table spectrum_table spectrum-tables o (offset-most r.index (length s)) xs small s bytes lsb
        (h.last_line / 2) 0 0 c p (replicate 400 (pos 0)) (replicate 200 0) (omega arith) carries inside at (omega arith) in
        let last : ℕ → ℕ → Read ℕ Spectral = λ left p. value (spectral_of s r h x behind.taken p left) p in
        let next : Spectrum → Streams → Read ℕ Spectral = λ x k. and_then (left_of (length s) k.side k.coder)
        (λ left p. value (spectral_of s r h x k.coder.taken p left) p) in
        ap (λ z. and_then z next) pairs
        ∙ (ap (λ z. and_then z last) (left_back (length s) side_end (seen s behind) room)
        ∙ ap (λ z. value z side_end) (finished (levels_of xs (h.last_line / 2) 0 (replicate 200 0)) behind.taken))
