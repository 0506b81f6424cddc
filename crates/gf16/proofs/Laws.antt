-- The field's laws. Sum and product are total on the numbers, so most laws hold with no side condition; what is concluded to be 0 or 1 asks
-- that an element is below 16. Each law of the product is one test that antt computes at all elements, on the digits of one number
-- (Products).
-- Assumes nothing.
use mathlib.Core.Path.{◌≡◌, refl, sym, ap, ap₂, ◌∙◌, subst}
use mathlib.Core.Bool.{Bool}
use mathlib.Core.Logic.{◌≢◌}
use Prim.Native.Nat.{ℕ, zero, suc, ◌+◌, ◌*◌, ◌/◌, ◌%◌, ◌<◌}
use native.Mathlib.Omega.{arith}
use native.Mathlib.Nat.{mod-eq_of_lt, zero-add, suc-add}
use lib.Arith.{bin_ind}
use lib.Bits.{bit_xor, differ, xor_comm, xor_self, xor_zero_l, xor_zero_r, xor_step, xor_lt, xor_mod, xor_shr}
use lib.Dec.{T, eqb, ltb, eqb→eq, ltb→lt}
use borrow.Author.Tests.{eq-eqb}
use Rattle.laws.proofs.Every.{implies, implies-elim, both, both_left, both_right, at, at2, at3}
use Rattle.gf16.specs.Field.{
  sum,
  expanded,
  lowered,
  reduced,
  product,
  power,
  inverse,
  logarithm,
  logarithm_below,
}
use Rattle.gf16.proofs.Products.{looked, product-looked, looked-lt}

-- ---- the sum

digit-test : ℕ → ℕ → ℕ → Bool
digit-test x y z = eqb (differ (bit_xor x y) z) (differ x (bit_xor y z))

digit_assoc : (a b c : ℕ) → differ (bit_xor (a % 2) (b % 2)) (c % 2) ≡ differ (a % 2) (bit_xor (b % 2) (c % 2))
unfolding digit-test
digit_assoc a b c = eqb→eq _ _ (at3 2 2 2 digit-test tt (a % 2) (b % 2) (c % 2) (omega arith) (omega arith) (omega arith))

xor_assoc : (a b c : ℕ) → bit_xor (bit_xor a b) c ≡ bit_xor a (bit_xor b c)
xor_assoc =
    bin_ind (λ (n : ℕ). (b c : ℕ) → bit_xor (bit_xor n b) c ≡ bit_xor n (bit_xor b c))
    (λ b c. ap (λ (x : ℕ). bit_xor x c) (xor_zero_l b) ∙ sym (xor_zero_l (bit_xor b c)))
    (λ n ih b c.
    xor_step (bit_xor n b) c
    ∙ ap₂ (λ (x y : ℕ). x * 2 + y)
    (ap (λ (x : ℕ). bit_xor x (c / 2)) (xor_shr n b 1) ∙ ih (b / 2) (c / 2) ∙ ap (λ (x : ℕ). bit_xor (n / 2) x) (sym (xor_shr b c 1)))
    (ap (λ (x : ℕ). differ x (c % 2)) (xor_mod n b 1) ∙ digit_assoc n b c ∙ ap (λ (x : ℕ). differ (n % 2) x) (sym (xor_mod b c 1)))
    ∙ sym (xor_step n (bit_xor b c)))

pub sum-assoc : (a b c : ℕ) → sum (sum a b) c ≡ sum a (sum b c)
unfolding sum
sum-assoc a b c = xor_assoc a b c

pub sum_comm : (a b : ℕ) → sum a b ≡ sum b a
unfolding sum
sum_comm a b = xor_comm a b

pub sum_self : (a : ℕ) → sum a a ≡ 0
unfolding sum
sum_self a = xor_self a

pub sum-zero : (a : ℕ) → sum a 0 ≡ a
unfolding sum
sum-zero a = xor_zero_r a

pub zero-sum : (a : ℕ) → sum 0 a ≡ a
unfolding sum
zero-sum a = xor_zero_l a

pub sum-mod : (a b : ℕ) → sum a b % 16 ≡ sum (a % 16) (b % 16)
unfolding sum
sum-mod a b = xor_mod a b 4

pub sum_lt : (a b : ℕ) → a < 16 → b < 16 → sum a b < 16
unfolding sum
sum_lt a b p q = xor_lt 4 a b p q

pub sum_left : (a b c : ℕ) → sum a (sum b c) ≡ sum b (sum a c)
sum_left a b c = sym (sum-assoc a b c) ∙ ap (λ (x : ℕ). sum x c) (sum_comm a b) ∙ sum-assoc b a c

-- what is added twice is gone
pub cancel : (a b : ℕ) → sum a (sum a b) ≡ b
cancel a b = sym (sum-assoc a a b) ∙ ap (λ (x : ℕ). sum x b) (sum_self a) ∙ zero-sum b

pub sum-undone : (a b : ℕ) → sum (sum a b) b ≡ a
sum-undone a b = sum-assoc a b b ∙ ap (λ (x : ℕ). sum a x) (sum_self b) ∙ sum-zero a

-- two elements whose sum is 0 are one
pub sum_same : (a b : ℕ) → sum a b ≡ 0 → a ≡ b
sum_same a b e = sym (sum-zero a) ∙ ap (λ (x : ℕ). sum a x) (sym e) ∙ cancel a b

-- ---- the product

low : (a : ℕ) → a % 16 < 16
low a = omega arith

pub product_lt : (a b : ℕ) → product a b < 16
product_lt a b = subst (λ (x : ℕ). x < 16) (sym (product-looked a b)) (looked-lt (a % 16) (b % 16))

mod-looked : (a b : ℕ) → product a b % 16 ≡ looked (a % 16) (b % 16)
mod-looked a b = mod-eq_of_lt (product_lt a b) ∙ product-looked a b

comm-test : ℕ → ℕ → Bool
comm-test a b = eqb (looked a b) (looked b a)

looked-comm : (a b : ℕ) → a < 16 → b < 16 → looked a b ≡ looked b a
unfolding looked comm-test
looked-comm a b p q = eqb→eq _ _ (at2 16 16 comm-test tt a b p q)

pub product-comm : (a b : ℕ) → product a b ≡ product b a
product-comm a b = product-looked a b ∙ looked-comm (a % 16) (b % 16) (low a) (low b) ∙ sym (product-looked b a)

assoc-test : ℕ → ℕ → ℕ → Bool
assoc-test a b c = eqb (looked (looked a b) c) (looked a (looked b c))

looked-assoc : (a b c : ℕ) → a < 16 → b < 16 → c < 16 → looked (looked a b) c ≡ looked a (looked b c)
unfolding looked assoc-test
looked-assoc a b c p q r = eqb→eq _ _ (at3 16 16 16 assoc-test tt a b c p q r)

pub product-assoc : (a b c : ℕ) → product (product a b) c ≡ product a (product b c)
product-assoc a b c =
    product-looked (product a b) c
    ∙ ap (λ (x : ℕ). looked x (c % 16)) (mod-looked a b)
    ∙ looked-assoc (a % 16) (b % 16) (c % 16) (low a) (low b) (low c)
    ∙ ap (λ (x : ℕ). looked (a % 16) x) (sym (mod-looked b c))
    ∙ sym (product-looked a (product b c))

dist-test : ℕ → ℕ → ℕ → Bool
dist-test a b c = eqb (looked a (bit_xor b c)) (bit_xor (looked a b) (looked a c))

looked-sum : (a b c : ℕ) → a < 16 → b < 16 → c < 16 → looked a (sum b c) ≡ sum (looked a b) (looked a c)
unfolding sum looked dist-test
looked-sum a b c p q r = eqb→eq _ _ (at3 16 16 16 dist-test tt a b c p q r)

pub product-sum : (a b c : ℕ) → product a (sum b c) ≡ sum (product a b) (product a c)
product-sum a b c =
    product-looked a (sum b c)
    ∙ ap (λ (x : ℕ). looked (a % 16) x) (sum-mod b c)
    ∙ looked-sum (a % 16) (b % 16) (c % 16) (low a) (low b) (low c)
    ∙ ap₂ sum (sym (product-looked a b)) (sym (product-looked a c))

pub sum-product : (a b c : ℕ) → product (sum a b) c ≡ sum (product a c) (product b c)
sum-product a b c = product-comm (sum a b) c ∙ product-sum c a b ∙ ap₂ sum (product-comm c a) (product-comm c b)

pub product-left : (a b c : ℕ) → product a (product b c) ≡ product b (product a c)
product-left a b c = sym (product-assoc a b c) ∙ ap (λ (x : ℕ). product x c) (product-comm a b) ∙ product-assoc b a c

pub product-mod : (a b : ℕ) → product a b % 16 ≡ product a b
product-mod a b = mod-eq_of_lt (product_lt a b)

-- the product looks at the low four bits of its arguments
pub mod-product : (a b : ℕ) → product (a % 16) b ≡ product a b
unfolding product
mod-product a b = ap (λ (x : ℕ). reduced (expanded x (b % 16))) (mod-eq_of_lt (low a))

pub product-of-mod : (a b : ℕ) → product a (b % 16) ≡ product a b
product-of-mod a b = product-comm a (b % 16) ∙ mod-product b a ∙ product-comm b a

one-test : ℕ → Bool
one-test a = eqb (reduced (expanded a 1)) a

pub product-one : (a : ℕ) → product a 1 ≡ a % 16
unfolding product reduced lowered expanded one-test
product-one a = eqb→eq _ _ (at 16 one-test tt (a % 16) (low a))

pub one_product : (a : ℕ) → product 1 a ≡ a % 16
one_product a = product-comm 1 a ∙ product-one a

zero_test : ℕ → Bool
zero_test a = eqb (reduced (expanded a 0)) 0

pub product-by-zero : (a : ℕ) → product a 0 ≡ 0
unfolding product reduced lowered expanded zero_test
product-by-zero a = eqb→eq _ _ (at 16 zero_test tt (a % 16) (low a))

pub zero-product : (a : ℕ) → product 0 a ≡ 0
zero-product a = product-comm 0 a ∙ product-by-zero a

-- ---- powers and inverses

exchange : (a b c d : ℕ) → product (product a b) (product c d) ≡ product (product a c) (product b d)
exchange a b c d =
    product-assoc a b (product c d) ∙ ap (λ (x : ℕ). product a x) (product-left b c d) ∙ sym (product-assoc a c (product b d))

pub power-lt : (a n : ℕ) → power a n < 16
unfolding power
power-lt a zero = omega arith
power-lt a (suc n) = product_lt a (power a n)

pub power-add : (a m n : ℕ) → power a (m + n) ≡ product (power a m) (power a n)
unfolding power
power-add a zero n = ap (λ (x : ℕ). power a x) (zero-add n) ∙ sym (one_product (power a n) ∙ mod-eq_of_lt (power-lt a n))
power-add a (suc m) n =
    ap (λ (x : ℕ). power a x) (suc-add m n)
    ∙ ap (λ (x : ℕ). product a x) (power-add a m n)
    ∙ sym (product-assoc a (power a m) (power a n))

pub power-one : (n : ℕ) → power 1 n ≡ 1
unfolding power
power-one zero = refl
power-one (suc n) = ap (λ (x : ℕ). product 1 x) (power-one n) ∙ one_product 1

-- a power of a product is the product of the powers
pub power-product : (a b n : ℕ) → power (product a b) n ≡ product (power a n) (power b n)
unfolding power
power-product a b zero = sym (one_product 1)
power-product a b (suc n) =
    ap (λ (x : ℕ). product (product a b) x) (power-product a b n) ∙ exchange a b (power a n) (power b n)

-- powers of powers may be taken in either order
pub power-power : (a m n : ℕ) → power (power a m) n ≡ power (power a n) m
unfolding power
power-power a zero n = power-one n
power-power a (suc m) n = power-product a (power a m) n ∙ ap (λ (x : ℕ). product (power a n) x) (power-power a m n)

inverse-test : ℕ → Bool
inverse-test a = eqb (product (suc a) (inverse (suc a))) 1

pub product-inverse : (a : ℕ) → a < 16 → a ≢ 0 → product a (inverse a) ≡ 1
unfolding product reduced lowered expanded power inverse inverse-test
product-inverse zero h n = absurd (n refl)
product-inverse (suc a) h n = eqb→eq _ _ (at 15 inverse-test tt a (omega arith))

-- the inverse of zero is zero
pub inverse-zero : inverse 0 ≡ 0
unfolding product reduced lowered expanded power inverse
inverse-zero = refl

pub inverse-lt : (a : ℕ) → inverse a < 16
unfolding inverse
inverse-lt a = power-lt a 14

-- no zero divisors
pub product-zero : (a b : ℕ) → b < 16 → b ≢ 0 → product a b ≡ 0 → a % 16 ≡ 0
product-zero a b h n e =
    sym (product-one a)
    ∙ ap (λ (x : ℕ). product a x) (sym (product-inverse b h n))
    ∙ sym (product-assoc a b (inverse b))
    ∙ ap (λ (x : ℕ). product x (inverse b)) e
    ∙ zero-product (inverse b)

generates-test : ℕ → ℕ → Bool
generates-test i j = implies (eqb (power 2 i) (power 2 j)) (eqb i j)

-- 2 generates: its powers below the fifteenth are different
pub power-injective : (i j : ℕ) → i < 15 → j < 15 → power 2 i ≡ power 2 j → i ≡ j
unfolding product reduced lowered expanded power generates-test
power-injective i j hi hj e =
    eqb→eq i j
    (implies-elim (eqb (power 2 i) (power 2 j)) (eqb i j) (at2 15 15 generates-test tt i j hi hj)
    (subst T (sym (eq-eqb (power 2 i) (power 2 j) e)) tt))

generated-test : ℕ → Bool
generated-test a = both (ltb (logarithm (suc a)) 15) (eqb (power 2 (logarithm (suc a))) (suc a))

-- .. and are all elements but 0, each that of its logarithm
pub generated : (a : ℕ) → a < 16 → a ≢ 0 → (i : ℕ) × (i < 15) × (power 2 i ≡ a)
unfolding product reduced lowered expanded power logarithm logarithm_below generated-test
generated zero h n = absurd (n refl)
generated (suc a) h n = let t = at 15 generated-test tt a (omega arith) in (
  logarithm (suc a),
  ltb→lt (logarithm (suc a)) 15 (both_left (ltb (logarithm (suc a)) 15) (eqb (power 2 (logarithm (suc a))) (suc a)) t),
  eqb→eq (power 2 (logarithm (suc a))) (suc a) (both_right (ltb (logarithm (suc a)) 15) (eqb (power 2 (logarithm (suc a))) (suc a)) t),
)

nonzero-test : ℕ → Bool
nonzero-test k = ltb 0 (power 2 k)

pub power-nonzero : (k : ℕ) → k < 15 → power 2 k ≢ 0
unfolding product reduced lowered expanded power nonzero-test
power-nonzero k h e = let t : 0 < power 2 k = ltb→lt 0 (power 2 k) (at 15 nonzero-test tt k h) in omega arith

-- ---- identities of sums of products: `simp ring` closes them, and `simp ring2` those in which terms cancel

pub ruleset ring = (product-sum, sum-product, product-assoc, product-comm, product-left, sum-assoc, sum_comm, sum_left)

pub ruleset ring2 = (ring, cancel, sum_self, sum-zero, zero-sum)
