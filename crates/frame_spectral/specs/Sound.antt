-- What the reader's own steps promise each other beside their definitions: bounds of what is read, and cursors that stay inside.
-- No public promise but `Bounded` of `frame` rests on a line of this. Assumes nothing.
use Rattle.std.specs.Prelude.{◌≡◌, Result, Ok, Err, List, ℕ, ◌+◌, ◌*◌, ◌≤◌, length, ℤ}
use Rattle.frame_settings.specs.declared.Setting.{Setting}
use Rattle.frame_spectral.specs.declared.SpectralRead.{SpectralRead}
use Rattle.refusals.specs.declared.Cause.{Cause}
use Rattle.refusals.specs.Numbers.{cause_number}
use Rattle.frame_pairs.specs.Sound.{Small}

-- both lent buffers have NE entries
pub record Buffers (r : Setting) (x : List ℤ) (b : List ℕ) : Type 0 where
  pub spectrum : length x ≡ r.lines
  pub residual : length b ≡ r.lines

-- the pairs and what follows them: "never above 18 + 7 x last line" symbols, values in range
abbrev pub GoodSpectral : ℕ → Result SpectralRead Cause → List ℤ → Type 0
GoodSpectral last (Ok x) lines = (x.symbols ≤ 18 + 7 * last) × Small lines
GoodSpectral last (Err why) lines = (1 ≤ cause_number why) × (cause_number why ≤ 7)
