-- Where a frame of the sample stands. Assumes nothing.
use Rattle.std.specs.Prelude.{ℕ, ◌+◌, ◌≤◌, ◌<◌, Result, Ok, Err}
use Rattle.day_sample.specs.declared.sample.Piece.{Piece}
use Rattle.day_sample.specs.declared.sample.SampleError.{SampleError}

-- a frame that is found past `at` has at most 400 bytes, all of them inside the sample
abbrev pub Follows : Result Piece SampleError → ℕ → ℕ → Type 0
Follows (Ok p) at long = (at < p.start) × (p.start ≤ p.end) × (p.end ≤ p.start + 400) × (p.end ≤ long)
Follows (Err why) at long = Unit {0}
