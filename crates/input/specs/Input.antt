-- What was read fits the buffer. Assumes nothing.
use Rattle.std.specs.Prelude.{ℕ, ◌≤◌, Result, Ok, Err}

abbrev pub InputFits : {E : Type 0} → Result ℕ E → ℕ → Type 0
InputFits (Ok n) most = n ≤ most
InputFits (Err e) most = Unit {0}
