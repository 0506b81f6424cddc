-- What the session record answers as document 01's number with the values beside it: 0 and the value, or the refusal's number and zeros.
-- Assumes nothing.
use Rattle.std.specs.Prelude.{ℕ, Result, Ok, Err}
use Rattle.refusals.specs.declared.Refusal.{Refusal}
use Rattle.refusals.specs.Numbers.{refusal_number}
use Rattle.record_bytes.specs.declared.Located.{Located}
use Rattle.record_bytes.specs.Located.{nowhere}

-- a number of document 01, and the one value that goes with it
pub record Answer : Type 0 where
  pub number : ℕ
  pub value : ℕ

abbrev pub accepted : ℕ → Answer
accepted v = record { number = 0; value = v }

abbrev pub refused : ℕ → Answer
refused n = record { number = n; value = 0 }

-- the value is a number of entries, or a used length
abbrev pub value_answer : Result ℕ Refusal → Answer
value_answer (Ok v) = accepted v
value_answer (Err why) = refused (refusal_number why)

-- a number of document 01, and an entry's start, length, request, count and bits
pub record EntryAnswer : Type 0 where
  pub number : ℕ
  pub entry : Located

abbrev pub unfound : ℕ → EntryAnswer
unfound n = record { number = n; entry = nowhere }

abbrev pub found_answer : Result Located Refusal → EntryAnswer
found_answer (Ok e) = record { number = 0; entry = e }
found_answer (Err why) = unfound (refusal_number why)
