-- The pairs and what follows them (5.4.2.7, 5.4.2.8): what each return of `read_spectral` says, from what was found up to it.
-- Assumes nothing.
use mathlib.Core.Path.{◌≡◌, refl, sym, ap, ◌∙◌}
use mathlib.Core.List.{List}
use Prim.Native.Nat.{ℕ, zero, suc, ◌/◌}
use native.Mathlib.Omega.{arith}
use lib.ListN.{length, take, get_or, replicate}
use lib.IntN.{ℤ, pos}
use Rattle.coder_tables.specs.Tables.{look_table, spectrum_table}
use Rattle.frame_bits.specs.Read.{Read, value, cause}
use Rattle.frame_settings.specs.Settings.{rate_offset}
use Rattle.frame_pair.specs.declared.Streams.{Streams}
use Rattle.frame_pairs.specs.Pairs.{Spectrum, pairs_of}
use Rattle.frame_residual.specs.Residual.{Residual, left_of}
use Rattle.frame_spectral.specs.Spectral.{Spectral, pair_setting, spectral_of, spectral_from}
use Rattle.frame_finish.specs.Finish.{finished_of, sent_bits}
use Rattle.frame_pairs.specs.Sound.{Roomy}
use Rattle.frame_settings.specs.declared.Setting.{Setting}
use Rattle.frame_side.specs.declared.Head.{Head}
use Rattle.frame_coder.specs.declared.Coder.{Coder}

-- ---- the working spectrum starts as zeros

zero-line : (n i : ℕ) → get_or (replicate n (pos 0)) i (pos 0) ≡ pos 0
zero-line zero i = refl
zero-line (suc n) zero = refl
zero-line (suc n) (suc i) = zero-line n i

zero-level : (n i : ℕ) → get_or {A = ℕ} (replicate n 0) i 0 ≡ 0
zero-level zero i = refl
zero-level (suc n) zero = refl
zero-level (suc n) (suc i) = zero-level n i

pub roomy-zeros : (lsb n m : ℕ) → Roomy lsb (replicate n (pos 0)) (replicate m 0)
roomy-zeros lsb n m i =
    let e = zero-line n i in
    let f = zero-level m (i / 2) in
    (rw e (omega arith), λ h. absurd (omega (arith, f)))

-- ---- the pairs and what follows them

-- the pairs of a frame
unfoldable pub pairs_at : List ℕ → Setting → Head → Coder → ℕ → Read Streams Spectrum
pairs_at s r h c p =
    pairs_of s look_table spectrum_table (pair_setting r (length s) h.lsb_mode) (h.last_line / 2) 0 0 c p
    (replicate 400 (pos 0)) (replicate 200 0)

pub pairs-at : (s : List ℕ) (r : Setting) (h : Head) (c : Coder) (p lsb offset n : ℕ) (x : Read Streams Spectrum)
    → lsb ≡ h.lsb_mode → offset ≡ rate_offset r.index (length s) → n ≡ h.last_line / 2
    → x ≡ pairs_of s look_table spectrum_table (record { lsb = lsb; offset = offset; half = r.lines / 2 }) n 0 0 c p
    (replicate 400 (pos 0)) (replicate 200 0)
    → pairs_at s r h c p ≡ x
unfolding pairs_at
pairs-at s r h c p lsb offset n x l o m q = sym (rw (l, o, m) at q)

pub spectral-pairs : (s : List ℕ) (r : Setting) (h : Head) (c : Coder) (p k : ℕ) → pairs_at s r h c p ≡ cause k
    → spectral_from s r h c p ≡ cause k
unfolding spectral_from pairs_at
spectral-pairs s r h c p k e = rw e

pub spectral-left : (s : List ℕ) (r : Setting) (h : Head) (c d : Coder) (p q k : ℕ) (x : Spectrum)
    → pairs_at s r h c p ≡ value x (record { coder = d; side = q }) → left_of (length s) q d ≡ cause k → spectral_from s r h c p ≡ cause k
unfolding spectral_from pairs_at
spectral-left s r h c d p q k x e f = rw (e, f)

pub spectral-value : (s : List ℕ) (r : Setting) (h : Head) (c d : Coder) (p q left : ℕ) (x : Spectrum)
    → pairs_at s r h c p ≡ value x (record { coder = d; side = q }) → left_of (length s) q d ≡ value left q
    → spectral_from s r h c p ≡ value (spectral_of s r h x d.taken q left) q
unfolding spectral_from pairs_at
spectral-value s r h c d p q left x e f = rw (e, f)

pub spectral-is : (s : List ℕ) (r : Setting) (h : Head) (x : Spectrum) (lsb last n taken q left number : ℕ) (out : List ℤ) (bits : List ℕ)
    → lsb ≡ h.lsb_mode → last ≡ h.last_line → n ≡ r.lines
    → ◌≡◌ {A = Residual} (record { number = number; bits = bits }) (sent_bits s lsb n x q left)
    → out ≡ take n (finished_of s lsb last x q left)
    → ◌≡◌ {A = Read ℕ Spectral} (value (record { symbols = taken; lines = out; residual = record { number = number; bits = bits } }) q)
    (value (spectral_of s r h x taken q left) q)
spectral-is s r h x lsb last n taken q left number out bits i j m b o =
    let c : ◌≡◌ {A = Residual} (record { number = number; bits = bits }) (sent_bits s h.lsb_mode r.lines x q left) = rw (i, m) at b
    in
    let d : out ≡ take r.lines (finished_of s h.lsb_mode h.last_line x q left) = rw (i, j, m) at o in
    ap (λ (t : Residual). value (record { symbols = taken; lines = out; residual = t }) q) c
    ∙ ap (λ (l : List ℤ). value (record { symbols = taken; lines = l; residual = sent_bits s h.lsb_mode r.lines x q left }) q) d
