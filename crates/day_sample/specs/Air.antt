-- The size of a slot that is chosen. Assumes nothing.
use Rattle.std.specs.Prelude.{◌≤◌, Option, Some, None}
use Rattle.day_sample.specs.declared.air.Fit.{Fit}

-- a slot that is chosen has at most 400 bytes
abbrev pub Fitting : Option Fit → Type 0
Fitting (Some fit) = fit.size ≤ 400
Fitting None = Unit {0}
