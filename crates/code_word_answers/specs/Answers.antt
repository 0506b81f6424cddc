-- The counts of each answer to correcting a word. Assumes nothing.
use Rattle.std.specs.Prelude.{ℕ, Result, Ok, Err}
use Rattle.refusals.specs.declared.Refusal.{Refusal}
use Rattle.code_word_answers.specs.declared.Correction.{Correction}

-- the count of changed semi-octets; 0 where nothing was corrected
abbrev pub corrected_count : Result Correction Refusal → ℕ
corrected_count (Ok found) = found.count
corrected_count (Err why) = 0

-- .. and of changed bits
abbrev pub corrected_bits : Result Correction Refusal → ℕ
corrected_bits (Ok found) = found.bits
corrected_bits (Err why) = 0
