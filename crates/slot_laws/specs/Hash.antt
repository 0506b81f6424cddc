-- The hashes (A.20 to A.25): remainders of polynomials over the field of two elements. Such a polynomial is the number that has
-- the coefficient of x^i as its bit i; bits are taken lowest power first, and the sum of two polynomials is the exclusive or.
-- Assumes nothing.
use Rattle.std.specs.Prelude.{◌≡◌, List, [], ◌∷◌, ℕ, suc, ◌+◌, ◌*◌, ◌/◌, ◌%◌, ◌^◌, ◌≤◌, ◌<◌}
use Rattle.gf16.specs.Field.{sum}

-- each element is a bit
abbrev pub Bits : List ℕ → Type 0
Bits [] = Unit {0}
Bits (b ∷ bs) = (b < 2) × Bits bs

-- the bits of semi-octets, bit 0 first (A.20)
unfoldable pub bits_of : List ℕ → List ℕ
bits_of [] = []
bits_of (c ∷ cs) = c % 2 ∷ c / 2 % 2 ∷ c / 4 % 2 ∷ c / 8 % 2 ∷ bits_of cs

-- the polynomial with these coefficients
unfoldable pub poly : List ℕ → ℕ
poly [] = 0
poly (b ∷ bs) = b + 2 * poly bs

-- the polynomial p times the one with the coefficients cs
unfoldable pub multiple : List ℕ → ℕ → ℕ
multiple [] p = 0
multiple (c ∷ cs) p = sum (c * p) (2 * multiple cs p)

-- p divides v
pub record Divides (p v : ℕ) : Type 0 where
  pub quotient : List ℕ
  pub bits : Bits quotient
  pub product_is : multiple quotient p ≡ v

-- p is a polynomial of degree n
pub record Degree (p n : ℕ) : Type 0 where
  pub from : 2 ^ n ≤ p
  pub to : p < 2 ^ suc n

-- r is the hash of degree n of the bits: below x^n, and r + bits x^n is divisible by p (A.24)
pub record IsHash (p n : ℕ) (bs : List ℕ) (r : ℕ) : Type 0 where
  pub short : r < 2 ^ n
  pub divides : Divides p (r + poly bs * 2 ^ n)

-- the remainder r, one power higher and with the bit b at power n, reduced by p
unfoldable pub pushed : ℕ → ℕ → ℕ → ℕ → ℕ
pushed p n b r = let v = sum (2 * r) (b * 2 ^ n) in sum v (v / 2 ^ n * p)

-- the hash computed, from the highest power down; proofs/Hash.antt has `hash-is` and `hash-only`: it is the one that `IsHash` says
unfoldable pub hash : ℕ → ℕ → List ℕ → ℕ
hash p n [] = 0
hash p n (b ∷ bs) = pushed p n b (hash p n bs)

-- the sum of x^e for the exponents e
unfoldable pub powers : List ℕ → ℕ
powers [] = 0
powers (e ∷ es) = 2 ^ e + powers es

-- 1 + x^2 + x^6 + x^9 + x^10 + x^14 (A.21)
unfoldable pub poly14 : ℕ
poly14 = powers (0 ∷ 2 ∷ 6 ∷ 9 ∷ 10 ∷ 14 ∷ [])

-- 1 + x^3 + x^5 + x^8 + x^9 + x^10 + x^11 + x^16 + x^19 + x^22 (A.22)
unfoldable pub poly22 : ℕ
poly22 = powers (0 ∷ 3 ∷ 5 ∷ 8 ∷ 9 ∷ 10 ∷ 11 ∷ 16 ∷ 19 ∷ 22 ∷ [])

-- 1 + x + x^3 + x^5 + x^6 + x^7 + x^9 + x^13 + x^15 + x^16 (A.23)
unfoldable pub poly16 : ℕ
poly16 = powers (0 ∷ 1 ∷ 3 ∷ 5 ∷ 6 ∷ 7 ∷ 9 ∷ 13 ∷ 15 ∷ 16 ∷ [])
