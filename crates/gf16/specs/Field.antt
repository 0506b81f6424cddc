-- The field of 16 (Annex A, A.39): a semi-octet with bits b0 .. b3 is the polynomial b0 + b1 x + b2 x^2 + b3 x^3 over {0, 1}, with x^4 + x
-- + 1 = 0. A number stands for the polynomial of its bits, so x is 2. Every function is total: a product looks at the low four bits of its
-- arguments.
-- Assumes nothing.
use Rattle.std.specs.Prelude.{cond, ℕ, zero, suc, ◌+◌, ◌*◌, ◌/◌, ◌%◌, ◌^◌, eqb}
use Rattle.std.specs.Int.Bits.{bit_xor}

-- the sum of two polynomials over {0, 1}: exclusive or
unfoldable pub sum : ℕ → ℕ → ℕ
sum a b = bit_xor a b

-- the product of a polynomial a and one of degree at most 3, b, before it is reduced: a x^k for each power x^k of b, added up
unfoldable pub expanded : ℕ → ℕ → ℕ
expanded a b = bit_xor (bit_xor (b % 2 * a) (b / 2 % 2 * (a * 2))) (bit_xor (b / 4 % 2 * (a * 4)) (b / 8 % 2 * (a * 8)))

-- the term of power 4 + k, the highest that v may have, taken off by adding x^k (x^4 + x + 1), which is 0; 19 is x^4 + x + 1
unfoldable pub lowered : ℕ → ℕ → ℕ
lowered k v = bit_xor v (v / 2 ^ (4 + k) * (19 * 2 ^ k))

-- a polynomial of degree at most 6, reduced
unfoldable pub reduced : ℕ → ℕ
reduced v = lowered 0 (lowered 1 (lowered 2 v))

-- the field's product
unfoldable pub product : ℕ → ℕ → ℕ
product a b = reduced (expanded (a % 16) (b % 16))

-- a multiplied n times
unfoldable pub power : ℕ → ℕ → ℕ
power a zero = 1
power a (suc n) = product a (power a n)

-- a^14: since a^15 = 1 for each a but 0, the inverse of each a but 0; of 0 it is 0
unfoldable pub inverse : ℕ → ℕ
inverse a = power a 14

-- the n below m with x^n = a; 15 where there is none
unfoldable pub logarithm_below : ℕ → ℕ → ℕ
logarithm_below zero a = 15
logarithm_below (suc n) a = cond (eqb (power 2 n) a) n (logarithm_below n a)

-- the logarithm of a to the base x: the n below 15 with x^n = a. Zero is no power of x, and has 15, which is no logarithm
unfoldable pub logarithm : ℕ → ℕ
logarithm a = logarithm_below 15 (a % 16)
