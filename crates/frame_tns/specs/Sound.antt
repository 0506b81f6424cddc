-- What the reader's own steps promise each other beside their definitions: bounds of what is read, and cursors that stay inside.
-- No public promise but `Bounded` of `frame` rests on a line of this. Assumes nothing.
use Rattle.std.specs.Prelude.{◌≡◌, Result, Ok, Err, List, ℕ, ◌+◌, ◌*◌, ◌<◌, ◌≤◌}
use Rattle.coder_tables.specs.Rows.{Row}
use Rattle.frame_coder.specs.declared.Coder.{Coder}
use Rattle.frame_bits.specs.declared.Step.{Step}
use Rattle.refusals.specs.declared.Cause.{Cause}
use Rattle.refusals.specs.Numbers.{cause_number}
use Rattle.frame_coder.specs.Sound.{Sound}
use Rattle.frame_settings.specs.Settings.{order_of, last_cause}

-- what the TNS tables have to be: two rows of orders, eight rows of coefficients
abbrev pub CoefficientRows : List ℕ → Type 0
CoefficientRows rows = (k : ℕ) → k < 8 → Row rows (k * 18) 16

pub record TnsTables (orders rows : List ℕ) : Type 0 where
  pub order : (w : ℕ) → w < 2 → Row orders (w * 9) 7
  pub coefficient : CoefficientRows rows

abbrev pub GoodCoefficients : List ℕ → ℕ → Coder → Result Coder Cause → Type 0
GoodCoefficients s n c (Ok d) = (d.taken ≡ c.taken + n) × Sound s d
GoodCoefficients s n c (Err why) = (4 ≤ cause_number why) × (cause_number why ≤ 6)

abbrev pub GoodFilter : List ℕ → ℕ → Coder → Result (Step ℕ Coder) Cause → Type 0
GoodFilter s q c (Ok order) = (order.value ≤ 8) × (order.next.taken ≤ c.taken + 9) × Sound s order.next
GoodFilter s q c (Err why) = (4 ≤ cause_number why) × (cause_number why ≤ last_cause (order_of q))
