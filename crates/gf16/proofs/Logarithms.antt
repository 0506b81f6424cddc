-- What the code's steps by logarithms ask, of elements that `is_zero` has told from zero. Assumes nothing.
use mathlib.Core.Path.{◌≡◌, refl, sym, ap, ap₂, ◌∙◌}
use mathlib.Core.Bool.{Bool, true, false, cond}
use Prim.Native.Nat.{ℕ, zero, suc, ◌+◌, ◌-◌, ◌%◌, ◌<◌}
use native.Mathlib.Omega.{arith}
use lib.Dec.{eqb, eqb→eq}
use Rattle.laws.proofs.Every.{at}
use Rattle.gf16.specs.Field.{expanded, lowered, reduced, product, power, inverse, logarithm, logarithm_below}
use Rattle.gf16.proofs.Products.{digit_of, logarithms, looked_power, looked, product-looked}
use Rattle.gf16.proofs.Laws.{mod-product}

logarithm-test : ℕ → Bool
logarithm-test a = eqb (digit_of logarithms a) (logarithm_below 15 a)

pub logarithm-looked : (a : ℕ) → digit_of logarithms (a % 16) ≡ logarithm a
unfolding product reduced lowered expanded power logarithm logarithm_below logarithm-test
logarithm-looked a = eqb→eq _ _ (at 16 logarithm-test tt (a % 16) (omega arith))

power-test : ℕ → Bool
power-test n = eqb (looked_power n) (power 2 n)

pub power-looked : (n : ℕ) → n < 31 → looked_power n ≡ power 2 n
unfolding product reduced lowered expanded power power-test
power-looked n h = eqb→eq _ _ (at 31 power-test tt n h)

cond-true : (c : Bool) (x y : ℕ) → c ≡ true → cond c x y ≡ x
cond-true c x y e = ap (λ (d : Bool). cond d x y) e

cond-false : (c : Bool) (x y : ℕ) → c ≡ false → cond c x y ≡ y
cond-false c x y e = ap (λ (d : Bool). cond d x y) e

-- a product whose first factor is zero, whose second is, and of two others
pub of_zero : (a b : ℕ) → eqb (a % 16) 0 ≡ true → 0 ≡ product a b
unfolding looked
of_zero a b e = sym (product-looked a b ∙ cond-true (eqb (a % 16) 0) 0 _ e)

pub by_zero : (a b : ℕ) → eqb (a % 16) 0 ≡ false → eqb (b % 16) 0 ≡ true → 0 ≡ product a b
unfolding looked
by_zero a b e f = sym (product-looked a b ∙ cond-false (eqb (a % 16) 0) 0 _ e ∙ cond-true (eqb (b % 16) 0) 0 _ f)

pub of_others : (a b : ℕ) → eqb (a % 16) 0 ≡ false → eqb (b % 16) 0 ≡ false → power 2 (logarithm a + logarithm b) ≡ product a b
unfolding looked
of_others a b e f =
    sym
    (product-looked a b
    ∙ cond-false (eqb (a % 16) 0) 0 _ e
    ∙ cond-false (eqb (b % 16) 0) 0 _ f
    ∙ power-looked (digit_of logarithms (a % 16) + digit_of logarithms (b % 16)) (omega arith)
    ∙ ap₂ (λ (m n : ℕ). power 2 (m + n)) (logarithm-looked a) (logarithm-looked b))

-- a power looks at the low four bits of its base
power-mod : (a n : ℕ) → power (a % 16) n ≡ power a n
unfolding power
power-mod a zero = refl
power-mod a (suc n) = mod-product a (power (a % 16) n) ∙ ap (λ (x : ℕ). product a x) (power-mod a n)

inverse-test : ℕ → Bool
inverse-test a = eqb (cond (eqb a 0) 0 (power 2 (15 - logarithm_below 15 a))) (power a 14)

inverse-looked : (a : ℕ) → cond (eqb (a % 16) 0) 0 (power 2 (15 - logarithm a)) ≡ inverse a
unfolding product reduced lowered expanded power inverse logarithm logarithm_below inverse-test
inverse-looked a = eqb→eq _ _ (at 16 inverse-test tt (a % 16) (omega arith)) ∙ power-mod a 14

pub inverse-of-zero : (a : ℕ) → eqb (a % 16) 0 ≡ true → 0 ≡ inverse a
inverse-of-zero a e = sym (cond-true (eqb (a % 16) 0) 0 _ e) ∙ inverse-looked a

pub inverse-of-other : (a : ℕ) → eqb (a % 16) 0 ≡ false → power 2 (15 - logarithm a) ≡ inverse a
inverse-of-other a e = sym (cond-false (eqb (a % 16) 0) 0 _ e) ∙ inverse-looked a
