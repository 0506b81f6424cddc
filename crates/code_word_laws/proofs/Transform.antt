-- The transform back: from the sums of a word's errors for the powers 1 .. 15 to the errors. The error at place k is the sum over n of the
-- n-th sum times 2^((15 - n) k), since the sum over n of x^n y^(15 - n) is 1 for x = y and 0 for any two different elements that are not 0.
-- Assumes nothing.
use mathlib.Core.Path.{◌≡◌, refl, sym, ap, ap₂, ◌∙◌}
use mathlib.Core.Bool.{Bool, true, false}
use mathlib.Core.Logic.{◌≢◌}
use mathlib.Core.List.{List, [], ◌∷◌}
use Prim.Native.Nat.{ℕ, zero, suc, ◌+◌, ◌-◌, ◌≤◌, ◌<◌}
use native.Mathlib.Omega.{arith}
use native.Mathlib.Nat.{zero-add, add-zero, mod-eq_of_lt}
use lib.Dec.{eqb, eqb→eq}
use lib.ListN.{length, get_or}
use borrow.Author.Tests.{eqb-true, eqb-false, ne_eqb}
use Rattle.laws.proofs.Every.{at}
use Rattle.gf16.specs.Field.{sum, product, power, expanded, lowered, reduced}
use Rattle.gf16.proofs.Laws.{
  ring,
  ring2,
  sum_lt,
  sum_self,
  sum_same,
  sum-zero,
  zero-sum,
  product-comm,
  product_lt,
  product-one,
  product-mod,
  product-zero,
  product-by-zero,
  mod-product,
  zero-product,
  power-lt,
  power-add,
  power-power,
  power-injective,
}
use Rattle.code_word_laws.specs.Word.{SemiOctets}
use Rattle.code_word_laws.specs.Corrector.{back}
use Rattle.code_word_laws.proofs.Places.{place, total, Rising}
use Rattle.code_word_laws.proofs.Distance.{support, support-rising, shift}

-- ---- the sum over n = 1 .. m of x^n y^(15 - n)

abbrev mixed : ℕ → ℕ → ℕ → ℕ
mixed x y zero = 0
mixed x y (suc m) = sum (mixed x y m) (product (power x (suc m)) (power y (15 - suc m)))

mixed-lt : (x y m : ℕ) → mixed x y m < 16
mixed-lt x y zero = omega arith
mixed-lt x y (suc m) = sum_lt (mixed x y m) (product (power x (suc m)) (power y (15 - suc m))) (mixed-lt x y m)
    (product_lt (power x (suc m)) (power y (15 - suc m)))

telescope : (x y a b c s : ℕ) → product (sum x y) s ≡ sum (product a (product y b)) c
    → product (sum x y) (sum s (product a b)) ≡ sum (product (product x a) b) c
telescope x y a b c s e = distribute x y s (product a b) ∙ ap (λ (z : ℕ). sum z (product (sum x y) (product a b))) e ∙ rest x y a b c
  where
    distribute : (x y s t : ℕ) → product (sum x y) (sum s t) ≡ sum (product (sum x y) s) (product (sum x y) t)
    distribute x y s t = simp ring

    rest : (x y a b c : ℕ) → sum (sum (product a (product y b)) c) (product (sum x y) (product a b)) ≡ sum (product (product x a) b) c
    rest x y a b c = simp ring2

-- times x + y it telescopes
telescoped : (x y m : ℕ) → m ≤ 15 → product (sum x y) (mixed x y m) ≡ sum (product (power x (suc m)) (power y (15 - m)))
    (product x (power y 15))
unfolding power
telescoped x y zero h =
    product-by-zero (sum x y)
    ∙ sym (sum_self (product x (power y 15)))
    ∙ ap (λ (z : ℕ). sum z (product x (power y 15)))
    (sym (ap (λ (z : ℕ). product z (power y 15)) (product-one x) ∙ mod-product x (power y 15)))
telescoped x y (suc m) h =
    telescope x y (power x (suc m)) (power y (15 - suc m)) (product x (power y 15)) (mixed x y m)
    (telescoped x y m (omega arith) ∙ ap (λ (z : ℕ). sum (product (power x (suc m)) (power y z)) (product x (power y 15))) up)
  where
    up : 15 - m ≡ suc (15 - suc m)
    up = omega arith

whole-test : ℕ → Bool
whole-test k = eqb (power (power 2 k) 15) 1

-- every place's fifteenth power is 1
whole : (k : ℕ) → k < 15 → power (place k) 15 ≡ 1
unfolding product reduced lowered expanded power whole-test
whole k h = eqb→eq (power (place k) 15) 1 (at 15 whole-test tt k h)

ends : (i k : ℕ) → i < 15 → k < 15 → sum (product (power (place i) 16) (power (place k) 0)) (product (place i) (power (place k) 15)) ≡ 0
unfolding power
ends i k hi hk =
    ap₂ (λ (a b : ℕ). sum (product (product (place i) a) 1) (product (place i) b)) (whole i hi) (whole k hk)
    ∙ ap (λ (a : ℕ). sum a (product (place i) 1)) (product-one (product (place i) 1) ∙ product-mod (place i) 1)
    ∙ sum_self (product (place i) 1)

mixed-other : (i k : ℕ) → i < 15 → k < 15 → i ≢ k → mixed (place i) (place k) 15 ≡ 0
mixed-other i k hi hk n =
    sym (mod-eq_of_lt (mixed-lt (place i) (place k) 15))
    ∙ product-zero (mixed (place i) (place k) 15) (sum (place i) (place k)) (sum_lt (place i) (place k) (power-lt 2 i) (power-lt 2 k))
    (λ e. n (power-injective i k hi hk (sum_same (place i) (place k) e)))
    (product-comm (mixed (place i) (place k) 15) (sum (place i) (place k)) ∙ telescoped (place i) (place k) 15 (omega arith)
    ∙ ends i k hi hk)

-- one for each term, added up
abbrev ones : ℕ → ℕ
ones zero = 0
ones (suc m) = sum (ones m) 1

mixed-own : (k m : ℕ) → k < 15 → m ≤ 15 → mixed (place k) (place k) m ≡ ones m
mixed-own k zero hk h = refl
mixed-own k (suc m) hk h =
    ap₂ sum (mixed-own k m hk (omega arith)) (sym (power-add (place k) (suc m) (15 - suc m)) ∙ ap (λ (z : ℕ). power (place k) z) whole_sum
    ∙ whole k hk)
  where
    whole_sum : suc m + (15 - suc m) ≡ 15
    whole_sum = omega arith

-- ---- the transform of the sums over places

back_sum : (s r : ℕ → ℕ) (k m : ℕ) → back (λ n. sum (s n) (r n)) k m ≡ sum (back s k m) (back r k m)
back_sum s r k zero = sym (sum-zero 0)
back_sum s r k (suc m) =
    ap (λ (x : ℕ). sum x (product (sum (s (suc m)) (r (suc m))) (power (place (15 - suc m)) k))) (back_sum s r k m)
    ∙ apiece (back s k m) (back r k m) (s (suc m)) (r (suc m)) (power (place (15 - suc m)) k)
  where
    apiece : (a b x y p : ℕ) → sum (sum a b) (product (sum x y) p) ≡ sum (sum a (product x p)) (sum b (product y p))
    apiece a b x y p = simp ring

back_one : (c i k m : ℕ) → back (λ n. product c (power (place i) n)) k m ≡ product c (mixed (place i) (place k) m)
back_one c i k zero = sym (product-by-zero c)
back_one c i k (suc m) =
    ap₂ (λ (x y : ℕ). sum x (product (product c (power (place i) (suc m))) y)) (back_one c i k m) (power-power 2 (15 - suc m) k)
    ∙ out c (mixed (place i) (place k) m) (power (place i) (suc m)) (power (place k) (15 - suc m))
  where
    out : (c s x y : ℕ) → sum (product c s) (product (product c x) y) ≡ product c (sum s (product x y))
    out c s x y = simp ring

back_none : (k m : ℕ) → back (λ n. 0) k m ≡ 0
back_none k zero = refl
back_none k (suc m) = ap₂ sum (back_none k m) (zero-product (power (place (15 - suc m)) k)) ∙ sum-zero 0

abbrev one-if : Bool → ℕ
one-if true = 1
one-if false = 0

-- what stands at place k, found among the places ks
abbrev picked : (ℕ → ℕ) → ℕ → List ℕ → ℕ
picked f k [] = 0
picked f k (i ∷ ks) = sum (product (f i) (one-if (eqb i k))) (picked f k ks)

mixed-is : (i k : ℕ) → i < 15 → k < 15 → (b : Bool) → eqb i k ≡ b → mixed (place i) (place k) 15 ≡ one-if b
unfolding sum
mixed-is i k hi hk true e = ap (λ (x : ℕ). mixed (place x) (place k) 15) (eqb-true i k e) ∙ mixed-own k 15 hk (omega arith)
mixed-is i k hi hk false e = mixed-other i k hi hk (eqb-false i k e)

back_total : (f : ℕ → ℕ) (ks : List ℕ) (b k : ℕ) → Rising b ks → k < 15 → back (λ n. total f n ks) k 15 ≡ picked f k ks
back_total f [] b k r h = back_none k 15
back_total f (i ∷ ks) b k r h =
    back_sum (λ n. product (f i) (power (place i) n)) (λ n. total f n ks) k 15
    ∙ ap₂ sum
    (back_one (f i) i k 15 ∙ ap (λ (x : ℕ). product (f i) x) (mixed-is i k r.1 h (eqb i k) refl))
    (back_total f ks (suc i) k r.2 h)

picked-below : (f : ℕ → ℕ) (k b : ℕ) (ks : List ℕ) → k < b → Rising b ks → picked f k ks ≡ 0
picked-below f k b [] h r = refl
picked-below f k b (i ∷ ks) h r =
    ap₂ sum (ap (λ (e : Bool). product (f i) (one-if e)) (ne_eqb i k (λ e. omega arith)) ∙ product-by-zero (f i))
    (picked-below f k (suc i) ks (omega arith) r.2)
    ∙ sum-zero 0

-- the first place of the support is k, or a later one is
first-or-later : (f : ℕ → ℕ) (b k : ℕ) (ks : List ℕ) → Rising (suc b) ks → b ≤ k → f b < 16 → (suc b ≤ k → picked f k ks ≡ f k)
    → (e : Bool) → eqb b k ≡ e → sum (product (f b) (one-if e)) (picked f k ks) ≡ f k
first-or-later f b k ks r h l later true e =
    ap₂ sum (product-one (f b) ∙ mod-eq_of_lt l) (picked-below f k (suc b) ks (omega (arith, eqb-true b k e)) r) ∙ sum-zero (f b)
    ∙ ap f (eqb-true b k e)
first-or-later f b k ks r h l later false e =
    let n : (b ≡ k → ⊥) = eqb-false b k e in
    ap₂ sum (product-by-zero (f b)) (later (omega arith)) ∙ zero-sum (f k)

picked-support : (es : List ℕ) (b k : ℕ) (f : ℕ → ℕ) → SemiOctets es → b + length es ≤ 15 → ((i : ℕ) → f (b + i) ≡ get_or es i 0) → b ≤ k
    → picked f k (support b es) ≡ f k
picked-support [] b k f s l h m = let e : b + (k - b) ≡ k = omega arith in sym (h (k - b)) ∙ ap f e
picked-support (zero ∷ es) b k f s l h m =
    let e : f b ≡ 0 = ap f (sym (add-zero b)) ∙ h 0 in
    sym (ap (λ (x : ℕ). sum x (picked f k (support (suc b) es)))
    (ap (λ (x : ℕ). product x (one-if (eqb b k))) e ∙ zero-product (one-if (eqb b k))) ∙ zero-sum (picked f k (support (suc b) es)))
    ∙ first-or-later f b k (support (suc b) es) (support-rising es (suc b) (omega arith)) m (omega arith)
    (λ n. picked-support es (suc b) k f s.1 (omega arith) (shift f b 0 es h) n) (eqb b k) refl
picked-support (suc c ∷ es) b k f s l h m =
    let e : f b ≡ suc c = ap f (sym (add-zero b)) ∙ h 0 in
    let t = s.0 in
    first-or-later f b k (support (suc b) es) (support-rising es (suc b) (omega arith)) m (omega arith)
    (λ n. picked-support es (suc b) k f s.1 (omega arith) (shift f b (suc c) es h) n) (eqb b k) refl

-- the transform back gives the errors
pub undone : (es : List ℕ) (k : ℕ) → length es ≤ 15 → SemiOctets es → k < 15
    → back (λ n. total (λ i. get_or es i 0) n (support 0 es)) k 15 ≡ get_or es k 0
undone es k l s h =
    back_total (λ i. get_or es i 0) (support 0 es) 0 k (support-rising es 0 (omega arith)) h
    ∙ picked-support es 0 k (λ i. get_or es i 0) s (omega arith) (λ i. ap (λ (x : ℕ). get_or es x 0) (zero-add i)) (omega arith)
