-- What the reader's own steps promise each other beside their definitions: bounds of what is read, and cursors that stay inside.
-- No public promise but `Bounded` of `frame` rests on a line of this. Assumes nothing.
use Rattle.std.specs.Prelude.{◌≡◌, Option, Some, None, Result, Ok, Err, ℕ, ◌+◌, ◌*◌, ◌≤◌, List, length, nat_abs}
use Rattle.frame_settings.specs.Settings.{Sized}
use Rattle.frame_residual.specs.declared.LateRead.{LateRead}
use Rattle.refusals.specs.declared.Cause.{Cause}
use Rattle.refusals.specs.Numbers.{cause_number}

abbrev pub GoodLeft : ℕ → ℕ → Result ℕ Cause → Type 0
GoodLeft bytes p (Ok n) = p + n + 2 ≤ 8 * bytes
GoodLeft bytes p (Err why) = cause_number why ≡ 7

-- what late and residual bits are read from: a frame with the bits left inside it
pub record LeftIn (s : List ℕ) (p left : ℕ) : Type 0 where
  pub sized : Sized s
  pub inside : p + left ≤ 8 * length s

-- a line of magnitude m grows by 1 at most; `end` is the cursor and the bits left together
abbrev pub GoodLate : ℕ → ℕ → Option LateRead → Type 0
GoodLate m end (Some l) = (nat_abs l.value ≤ m + 1) × (l.next + l.left ≤ end)
GoodLate m end None = Unit {0}
