-- A reading step of clause 5.4: a value with the next cursor, or the cause of a bit error; and how steps follow each other.
-- Assumes nothing.
use Rattle.std.specs.Prelude.{ℕ, Result, Ok, Err}
use Rattle.refusals.specs.declared.Cause.{Cause}
use Rattle.refusals.specs.Numbers.{cause_number}
use Rattle.frame_bits.specs.declared.Step.{Step}

-- C is the cursor that the next step starts from
pub data Read (C A : Type 0) : Type 0 where
  value : A → C → Read C A
  cause : ℕ → Read C A

-- the next step, where there is a value; a cause ends the reading, so the first in reading order stands
abbrev pub and_then : {C A D B : Type 0} → Read C A → (A → C → Read D B) → Read D B
and_then (value a c) k = k a c
and_then (cause n) k = cause n

-- what the code's step says
abbrev pub given : {V C : Type 0} → Result (Step V C) Cause → Read C V
given (Ok s) = value s.value s.next
given (Err why) = cause (cause_number why)
