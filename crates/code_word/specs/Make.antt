-- What each number that making a word answers promises. Assumes nothing.
use Rattle.std.specs.Prelude.{List, ℕ, zero, suc}
use Rattle.code_word_laws.specs.Make.{IsMade, NotMade}

-- the promise: the word lent, the word left, and the number
abbrev pub Makes : ℕ → List ℕ → List ℕ → ℕ → Type 0
Makes mode old new zero = IsMade mode old new
Makes mode old new (suc zero) = NotMade mode old new
Makes mode old new (suc (suc n)) = ⊥
