-- What the reader's own steps promise each other beside their definitions: bounds of what is read, and cursors that stay inside.
-- No public promise but `Bounded` of `frame` rests on a line of this. Assumes nothing.
use Rattle.std.specs.Prelude.{◌≡◌, Result, Ok, Err, ℕ, ◌+◌, ◌≤◌}
use Rattle.frame_bits.specs.declared.Step.{Step}
use Rattle.frame_shape.specs.declared.Shape.{Shape}
use Rattle.refusals.specs.declared.Cause.{Cause}
use Rattle.refusals.specs.Numbers.{cause_number}

abbrev pub GoodShape : ℕ → Result (Step Shape ℕ) Cause → Type 0
GoodShape p (Ok shape) = shape.next ≤ p + 38
GoodShape p (Err why) = cause_number why ≡ 3
