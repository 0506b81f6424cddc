-- The bounds of what the reader answers, which `frame` promises. Assumes nothing.
use Rattle.std.specs.Prelude.{◌≡◌, List, ℕ, ◌+◌, ◌*◌, ◌≤◌, ℤ}
use Rattle.frame_pairs.specs.Sound.{Small}
use Rattle.frame_answers.specs.Answers.{Given}

-- an accepted frame: "never above 18 + 7 x last line" symbols, values in range; a bit error: a cause from 1 to the highest that can arise
pub record Bounded (most : ℕ) (g : Given) (lines : List ℤ) : Type 0 where
  pub symbols : g.number ≡ 0 → g.fields.symbols ≤ 18 + 7 * g.fields.side.head.last_line
  pub values : g.number ≡ 0 → Small lines
  pub cause_from : g.number ≡ 5 → 1 ≤ g.cause
  pub cause_to : g.cause ≤ most
