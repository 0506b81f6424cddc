-- What arithmetic decoding asks of its tables: a row rises from 0 to exactly 1,024, and a lookup names a row.
-- Assumes nothing.
use Rattle.std.specs.Prelude.{◌≡◌, List, ℕ, ◌+◌, ◌*◌, ◌≤◌, ◌<◌, length, get_or}

-- 5.4.2.9, cum_freq of ac_decode: the cumulative frequencies of one row that starts at entry `at` of the table, for the symbols 0 .. last:
-- 0 first, rising, 1,024 at the end
pub record Row (t : List ℕ) (at last : ℕ) : Type 0 where
  pub inside : at + (last + 2) ≤ length t
  pub first : get_or t at 0 ≡ 0
  pub rises : (v : ℕ) → v ≤ last → get_or t (at + v) 0 < get_or t (at + (v + 1)) 0
  pub full : get_or t (at + (last + 1)) 0 ≡ 1024

-- 5.4.2.7: what the spectrum's two tables have to be: every lookup names one of 64 rows of 17 symbols
pub record SpectrumTables (look cum : List ℕ) : Type 0 where
  pub looks : length look ≡ 4096
  pub below : (i : ℕ) → i < 4096 → get_or look i 0 < 64
  pub row : (r : ℕ) → r < 64 → Row cum (r * 18) 16
