-- Polynomials over the field of 16: the list of the coefficients, lowest power first. Their product, division, and the generating
-- polynomial.
-- Assumes nothing.
use Rattle.std.specs.Prelude.{◌≡◌, List, [], ◌∷◌, ℕ, zero, suc, ◌-◌, get_or}
use Rattle.gf16.specs.Field.{sum, product, power}

-- the value at x
abbrev pub value : List ℕ → ℕ → ℕ
value [] x = 0
value (c ∷ cs) x = sum c (product x (value cs x))

-- c times a polynomial
unfoldable pub scaled : ℕ → List ℕ → List ℕ
scaled c [] = []
scaled c (d ∷ ds) = product c d ∷ scaled c ds

-- the sum of two polynomials
unfoldable pub added : List ℕ → List ℕ → List ℕ
added [] ys = ys
added (x ∷ xs) [] = x ∷ xs
added (x ∷ xs) (y ∷ ys) = sum x y ∷ added xs ys

-- the product of two polynomials
unfoldable pub multiplied : List ℕ → List ℕ → List ℕ
multiplied [] g = []
multiplied (c ∷ cs) g = added (scaled c g) (0 ∷ multiplied cs g)

-- g divides w: some polynomial times g has the coefficients of w, at every power
pub record Divides (g w : List ℕ) : Type 0 where
  pub quotient : List ℕ
  pub same : (k : ℕ) → get_or (multiplied quotient g) k 0 ≡ get_or w k 0

-- the product of x + 2^i for i = 1 .. n
unfoldable pub rooted : ℕ → List ℕ
rooted zero = 1 ∷ []
rooted (suc n) = multiplied (power 2 (suc n) ∷ 1 ∷ []) (rooted n)

-- the generating polynomial for the distance d, with the roots 2^1 .. 2^(d-1) (A.40 to A.42)
unfoldable pub generator : ℕ → List ℕ
generator d = rooted (d - 1)
