-- The field's product by logarithms, as the code makes it: from the digits of two numbers, zero by rule. `looked-is` compares all 256
-- products with the field's own, so that nothing rests on the two numbers; and a test over many products is computed on numbers and not on
-- bits.
-- Assumes nothing.
use mathlib.Core.Path.{◌≡◌, sym}
use mathlib.Core.Bool.{Bool, true, false, cond}
use Prim.Native.Nat.{ℕ, ◌+◌, ◌*◌, ◌/◌, ◌%◌, ◌^◌, ◌<◌}
use native.Mathlib.Omega.{arith}
use lib.Dec.{eqb, eqb→eq}
use Rattle.laws.proofs.Every.{at2}
use Rattle.gf16.specs.Field.{expanded, lowered, reduced, product}

-- digit a is the logarithm of a, the lowest that of zero, which has none
abbrev pub logarithms : ℕ
logarithms = 0xcbd679e3a582410f

-- digit n is the power n of x; the fifteenth is 1 again
abbrev pub powers : ℕ
powers = 0x19dfe7a5bc638421

-- digit i of a table
abbrev pub digit_of : ℕ → ℕ → ℕ
digit_of table i = table / 2 ^ (4 * i) % 16

-- the power n of x, for n up to 30: sixteen counts as one
abbrev pub looked_power : ℕ → ℕ
looked_power n = digit_of powers ((n + n / 16) % 16)

unfoldable pub looked : ℕ → ℕ → ℕ
looked a b = cond (eqb a 0) 0 (cond (eqb b 0) 0 (looked_power (digit_of logarithms a + digit_of logarithms b)))

looked-test : ℕ → ℕ → Bool
looked-test a b = eqb (looked a b) (reduced (expanded a b))

looked-is : (a b : ℕ) → a < 16 → b < 16 → looked a b ≡ reduced (expanded a b)
unfolding reduced lowered expanded looked looked-test
looked-is a b p q = eqb→eq _ _ (at2 16 16 looked-test tt a b p q)

pub product-looked : (a b : ℕ) → product a b ≡ looked (a % 16) (b % 16)
unfolding product
product-looked a b = sym (looked-is (a % 16) (b % 16) (omega arith) (omega arith))

pub cond-lt : (c : Bool) (x y n : ℕ) → x < n → y < n → cond c x y < n
cond-lt true x y n p q = p
cond-lt false x y n p q = q

pub looked-lt : (a b : ℕ) → looked a b < 16
unfolding looked
looked-lt a b = cond-lt (eqb a 0) 0 _ 16 (omega arith) (cond-lt (eqb b 0) 0 _ 16 (omega arith) (omega arith))
