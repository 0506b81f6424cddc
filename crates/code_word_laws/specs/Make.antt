-- The code word over given data, by division (A.43 to A.45), and what it is to make a word. Assumes nothing.
use Rattle.std.specs.Prelude.{◌≡◌, List, [], ◌∷◌, ◌++◌, ℕ, ◌+◌, ◌-◌, length, get_or, take, drop, replicate}
use Rattle.code_word_laws.specs.Polynomial.{scaled, added, generator}
use Rattle.code_word_laws.specs.Word.{SemiOctets, Valid, distance, Fits}

-- p, of degree at most n, reduced by g, of degree n with the leading coefficient 1: g times p's coefficient at power n takes that power off
unfoldable pub lessened : ℕ → List ℕ → List ℕ → List ℕ
lessened n g p = take n (added p (scaled (get_or p n 0) g))

-- the remainder of a polynomial by such a g, a step a coefficient: c + x w leaves what c + x r does, where r is what w leaves
unfoldable pub remainder : ℕ → List ℕ → List ℕ → List ℕ
remainder n g [] = replicate n 0
remainder n g (c ∷ cs) = lessened n g (c ∷ remainder n g cs)

-- the code word over the data (A.43 to A.45): the remainder of x^(d-1) times the data, in front of the data
unfoldable pub coded : ℕ → List ℕ → List ℕ
coded d message = remainder (d - 1) (generator d) (replicate (d - 1) 0 ++ message) ++ message

-- w is a code word over the data: valid, and the data stand behind its d - 1 check semi-octets
pub record CodeWord (d : ℕ) (message w : List ℕ) : Type 0 where
  pub semi_octets : SemiOctets w
  pub long : length w ≡ d - 1 + length message
  pub holds : drop (d - 1) w ≡ message
  pub valid : Valid d w

-- what may be asked: the settings fit, and the data are semi-octets; what stands where the check semi-octets go is not looked at
pub record Makeable (mode : ℕ) (old : List ℕ) : Type 0 where
  pub fits : Fits mode (length old)
  pub semi_octets : SemiOctets (drop (distance mode - 1) old)

pub record IsMade (mode : ℕ) (old new : List ℕ) : Type 0 where
  pub makeable : Makeable mode old
  pub made : CodeWord (distance mode) (drop (distance mode - 1) old) new
  pub only : (w : List ℕ) → CodeWord (distance mode) (drop (distance mode - 1) old) w → w ≡ new

pub record NotMade (mode : ℕ) (old new : List ℕ) : Type 0 where
  pub unfit : Makeable mode old → ⊥
  pub kept : new ≡ old
