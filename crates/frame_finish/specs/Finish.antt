-- Finalization (5.4.2.8): the late low bits of all lines in LSB mode 1, and what a frame's lines and residual bits are at the end.
-- Assumes nothing.
use Rattle.std.specs.Prelude.{cond, List, ℕ, zero, suc, ◌/◌, eqb, get_or, set, replicate, ℤ, pos}
use Rattle.frame_pairs.specs.Pairs.{Spectrum}
use Rattle.frame_residual.specs.Residual.{Residual, residual_of, Late, line, stop, late_of}

-- what follows a line's late low bits; everything ends with `stopped` where no bit was left
abbrev pub after_late : Late → List ℤ → (ℤ → ℕ → ℕ → List ℤ) → List ℤ
after_late (line v p n) stopped k = k v p n
after_late stop stopped k = stopped

-- the lines of pairs whose level was above 0, n lines from line k on
unfoldable pub lates_of : List ℕ → List ℕ → ℕ → ℕ → List ℤ → ℕ → ℕ → List ℤ
lates_of s levels zero k lines p left = lines
lates_of s levels (suc n) k lines p left =
    cond (eqb (get_or levels (k / 2) 0) 0) (lates_of s levels n (suc k) lines p left)
    (after_late (late_of s (get_or lines k (pos 0)) p left) lines (λ v p m. lates_of s levels n (suc k) (set lines k v) p m))

-- 5.4.2.8: in LSB mode 1 the late low bits go into the lines
abbrev pub finished_of : List ℕ → ℕ → ℕ → Spectrum → ℕ → ℕ → List ℤ
finished_of s lsb last x p left = cond (eqb lsb 0) x.lines (lates_of s x.levels last 0 x.lines p left)

-- 5.4.2.8: residual bits only in LSB mode 0; unused entries are 0
abbrev pub sent_bits : List ℕ → ℕ → ℕ → Spectrum → ℕ → ℕ → Residual
sent_bits s lsb lines x p left =
    cond (eqb lsb 0) (residual_of s x.lines p left lines 0 0 (replicate lines 0)) (record { number = 0; bits = replicate lines 0 })
