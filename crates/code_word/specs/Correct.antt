-- What each number that correcting a word, or many, answers promises. Assumes nothing.
use Rattle.std.specs.Prelude.{List, ℕ, zero, suc}
use Rattle.code_word_laws.specs.Correct.{IsCorrected, IsNone, NotCorrected, AllCorrected, NoneCorrected}

-- the promise: the word lent, the word left, the number and the counts
abbrev pub Corrects : ℕ → List ℕ → List ℕ → ℕ → ℕ → ℕ → Type 0
Corrects mode old new zero count bits = IsCorrected mode old new count bits
Corrects mode old new (suc zero) count bits = NotCorrected mode old new count bits
Corrects mode old new (suc (suc zero)) count bits = ⊥
Corrects mode old new (suc (suc (suc zero))) count bits = IsNone mode old new count bits
Corrects mode old new (suc (suc (suc (suc n)))) count bits = ⊥

-- the promise: the words and counts lent, those left, and the number
abbrev pub CorrectsEach : ℕ → List ℕ → List ℕ → List ℕ → List ℕ → List ℕ → List ℕ → ℕ → Type 0
CorrectsEach mode words counts bits words' counts' bits' zero = AllCorrected mode words counts bits words' counts' bits'
CorrectsEach mode words counts bits words' counts' bits' (suc zero) = NoneCorrected mode words counts bits words' counts' bits'
CorrectsEach mode words counts bits words' counts' bits' (suc (suc n)) = ⊥
