-- What unprotecting answers: document 01's number and values for each answer. Assumes nothing.
use Rattle.std.specs.Prelude.{ℕ, Result, Ok, Err}
use Rattle.refusals.specs.declared.Refusal.{Refusal}
use Rattle.refusals.specs.Numbers.{refusal_number}
use Rattle.slot_answers.specs.declared.Reception.{Reception}

-- what an answer tells beside the frame: document 01's number, the request, the count of changed semi-octets and that of changed bits
pub record Told : Type 0 where
  pub number : ℕ
  pub request : ℕ
  pub count : ℕ
  pub bits : ℕ

-- an accepted slot's answer
abbrev pub accepted_with : ℕ → ℕ → ℕ → Told
accepted_with q n b = record { number = 0; request = q; count = n; bits = b }

-- a refusal: its number, and zero in every other field
abbrev pub refused_with : ℕ → Told
refused_with number = record { number = number; request = 0; count = 0; bits = 0 }

-- 0: accepted; 1: a setting is out of range; 2: a buffer hasn't its length; 3: a word beyond repair; 4: no frame and request make it
abbrev pub told_of : Result Reception Refusal → Told
told_of (Ok r) = accepted_with r.request r.count r.bits
told_of (Err why) = refused_with (refusal_number why)
