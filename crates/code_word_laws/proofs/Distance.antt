-- The distance of the code, once for every d: two words of one length at most 15 with the roots 2^1 .. 2^(d-1) that differ in fewer than d
-- places are equal. It is the elimination of Places.antt at the places in which they differ. At most one such word lies within m - 1 places
-- of anything.
-- Assumes nothing.
use mathlib.Core.Path.{◌≡◌, refl, sym, ap, ap₂, ◌∙◌}
use mathlib.Core.Bool.{Bool, true, false}
use mathlib.Core.List.{List, [], ◌∷◌}
use Prim.Native.Nat.{ℕ, zero, suc, ◌+◌, ◌≤◌, ◌<◌}
use native.Mathlib.Omega.{arith}
use native.Mathlib.Nat.{add-zero, zero-add, add-suc, suc-add, mod-eq_of_lt}
use lib.Dec.{eqb}
use lib.ListN.{length, get_or}
use borrow.Author.Tests.{eqb-true, eq-eqb}
use Rattle.gf16.specs.Field.{sum, product, power}
use Rattle.gf16.proofs.Laws.{
  ring,
  sum_lt,
  sum_same,
  sum_self,
  sum-zero,
  zero-sum,
  one_product,
  product-by-zero,
  product_lt,
  power-one,
  power-product,
}
use Rattle.code_word_laws.specs.Polynomial.{value, added}
use Rattle.code_word_laws.specs.Word.{SemiOctets, Roots, apart, unequal}
use Rattle.code_word_laws.proofs.Changes.{unequal-le}
use Rattle.code_word_laws.proofs.Places.{place, total, Rising, Zero, vanish}

-- the places from k on at which the coefficients are not 0
abbrev pub support : ℕ → List ℕ → List ℕ
support k [] = []
support k (zero ∷ cs) = support (suc k) cs
support k (suc c ∷ cs) = k ∷ support (suc k) cs

pub value-lt : (cs : List ℕ) (x : ℕ) → SemiOctets cs → value cs x < 16
value-lt [] x s = omega arith
value-lt (c ∷ cs) x s = sum_lt c (product x (value cs x)) s.0 (product_lt x (value cs x))

-- ---- the value at 2^j as a sum over the places that are not 0

gathered : (p x v c : ℕ) → product p (sum c (product x v)) ≡ sum (product c p) (product (product x p) v)
gathered p x v c = simp ring

next_place : (k j : ℕ) → power (place (suc k)) j ≡ product (power 2 j) (power (place k) j)
unfolding power
next_place k j = power-product 2 (place k) j

-- the sums over the places from the next on, with the factor that the first place leaves
later : (k j v : ℕ) → product (power (place k) j) (product (power 2 j) v) ≡ product (power (place (suc k)) j) v
later k j v = regrouped (power (place k) j) (power 2 j) v ∙ ap (λ (x : ℕ). product x v) (sym (next_place k j))
  where
    regrouped : (p x v : ℕ) → product p (product x v) ≡ product (product x p) v
    regrouped p x v = simp ring

pub shift : (f : ℕ → ℕ) (k c : ℕ) (cs : List ℕ) → ((i : ℕ) → f (k + i) ≡ get_or (c ∷ cs) i 0) → (i : ℕ) → f (suc k + i) ≡ get_or cs i 0
shift f k c cs h i = ap f (suc-add k i ∙ sym (add-suc k i)) ∙ h (suc i)

value-from : (cs : List ℕ) (k j : ℕ) (f : ℕ → ℕ) → ((i : ℕ) → f (k + i) ≡ get_or cs i 0)
    → product (power (place k) j) (value cs (power 2 j)) ≡ total f j (support k cs)
value-from [] k j f h = product-by-zero (power (place k) j)
value-from (zero ∷ cs) k j f h =
    ap (λ (x : ℕ). product (power (place k) j) x) (zero-sum (product (power 2 j) (value cs (power 2 j))))
    ∙ later k j (value cs (power 2 j))
    ∙ value-from cs (suc k) j f (shift f k 0 cs h)
value-from (suc c ∷ cs) k j f h =
    gathered (power (place k) j) (power 2 j) (value cs (power 2 j)) (suc c)
    ∙ ap₂ sum
    (ap (λ (x : ℕ). product x (power (place k) j)) (sym (ap f (sym (add-zero k)) ∙ h 0)))
    (ap (λ (x : ℕ). product x (value cs (power 2 j))) (sym (next_place k j)) ∙ value-from cs (suc k) j f (shift f k (suc c) cs h))

pub value-total : (cs : List ℕ) (j : ℕ) → SemiOctets cs → value cs (power 2 j) ≡ total (λ i. get_or cs i 0) j (support 0 cs)
unfolding power
value-total cs j s =
    sym (mod-eq_of_lt (value-lt cs (power 2 j) s))
    ∙ sym (one_product (value cs (power 2 j)))
    ∙ ap (λ (x : ℕ). product x (value cs (power 2 j))) (sym (power-one j))
    ∙ value-from cs 0 j (λ i. get_or cs i 0) (λ i. ap (λ (x : ℕ). get_or cs x 0) (zero-add i))

-- ---- the places of the support

pub support-rising : (cs : List ℕ) (k : ℕ) → k + length cs ≤ 15 → Rising k (support k cs)
support-rising [] k h = tt
support-rising (zero ∷ cs) k h = lower (suc k) k (support (suc k) cs) (omega arith) (support-rising cs (suc k) (omega arith))
  where
    lower : (b c : ℕ) (ks : List ℕ) → c ≤ b → Rising b ks → Rising c ks
    lower b c [] h r = tt
    lower b c (i ∷ ks) h r = (omega arith, r.1, r.2)
support-rising (suc c ∷ cs) k h = (omega arith, omega arith, support-rising cs (suc k) (omega arith))

differ-at : (x y : ℕ) (n : ℕ) (b : Bool) → eqb x y ≡ b → sum x y ≡ suc n → 1 ≤ unequal b
differ-at x y n true e d = let z : 0 ≡ suc n = sym (sum_self y) ∙ ap (λ (a : ℕ). sum a y) (sym (eqb-true x y e)) ∙ d in absurd (omega arith)
differ-at x y n false e d = omega arith

-- no more places in the sum's support than those in which the two differ
-- the sum of two words of one length is their difference too
pub support-few : (xs ys : List ℕ) (k : ℕ) → length xs ≡ length ys → length (support k (added xs ys)) ≤ apart xs ys
unfolding added
support-few [] [] k l = omega arith
support-few [] (y ∷ ys) k l = absurd (omega arith)
support-few (x ∷ xs) [] k l = absurd (omega arith)
support-few (x ∷ xs) (y ∷ ys) k l = go (sum x y) refl (support-few xs ys (suc k) (omega arith))
  where
    go : (n : ℕ) → sum x y ≡ n → length (support (suc k) (added xs ys)) ≤ apart xs ys
        → length (support k (n ∷ added xs ys)) ≤ unequal (eqb x y) + apart xs ys
    go zero e h = omega arith
    go (suc n) e h = let d = differ-at x y n (eqb x y) refl e in omega arith

-- ---- equal words

abbrev Zeros : List ℕ → Type 0
Zeros [] = Unit {0}
Zeros (c ∷ cs) = (c ≡ 0) × Zeros cs

all-zero : (cs : List ℕ) (k : ℕ) (f : ℕ → ℕ) → SemiOctets cs → ((i : ℕ) → f (k + i) ≡ get_or cs i 0) → Zero f (support k cs) → Zeros cs
all-zero [] k f s h z = tt
all-zero (zero ∷ cs) k f s h z = (refl, all-zero cs (suc k) f s.1 (shift f k 0 cs h) z)
all-zero (suc c ∷ cs) k f s h z = let e : f k ≡ suc c = ap f (sym (add-zero k)) ∙ h 0 in let b = s.0 in let m = z.0 in
    absurd (omega arith)

same : (xs ys : List ℕ) → length xs ≡ length ys → Zeros (added xs ys) → xs ≡ ys
unfolding added
same [] [] e z = refl
same [] (y ∷ ys) e z = absurd (omega arith)
same (x ∷ xs) [] e z = absurd (omega arith)
same (x ∷ xs) (y ∷ ys) e z = ap₂ (λ (a : ℕ) (l : List ℕ). a ∷ l) (sum_same x y z.0) (same xs ys (omega arith) z.1)

pub added-semi-octets : (xs ys : List ℕ) → SemiOctets xs → SemiOctets ys → SemiOctets (added xs ys)
unfolding added
added-semi-octets [] ys s t = t
added-semi-octets (x ∷ xs) [] s t = s
added-semi-octets (x ∷ xs) (y ∷ ys) s t = (sum_lt x y s.0 t.0, added-semi-octets xs ys s.1 t.1)

pub added-length : (xs ys : List ℕ) → length xs ≡ length ys → length (added xs ys) ≡ length xs
unfolding added
added-length [] [] e = refl
added-length [] (y ∷ ys) e = absurd (omega arith)
added-length (x ∷ xs) [] e = absurd (omega arith)
added-length (x ∷ xs) (y ∷ ys) e = ap suc (added-length xs ys (omega arith))

add_step : (a b v w x : ℕ) → sum (sum a b) (product x (sum v w)) ≡ sum (sum a (product x v)) (sum b (product x w))
add_step a b v w x = simp ring

pub value-added : (xs ys : List ℕ) (x : ℕ) → value (added xs ys) x ≡ sum (value xs x) (value ys x)
unfolding added
value-added [] ys x = sym (zero-sum (value ys x))
value-added (a ∷ xs) [] x = sym (sum-zero (value (a ∷ xs) x))
value-added (a ∷ xs) (b ∷ ys) x =
    ap (λ (v : ℕ). sum (sum a b) (product x v)) (value-added xs ys x) ∙ add_step a b (value xs x) (value ys x) x

-- the distance argument, for words of the same values at 2^1 .. 2^(d-1)
pub unique-values : (d : ℕ) (xs ys : List ℕ) → length xs ≡ length ys → length xs ≤ 15 → SemiOctets xs → SemiOctets ys
    → ((j : ℕ) → 0 < j → j < d → value xs (power 2 j) ≡ value ys (power 2 j)) → apart xs ys < d → xs ≡ ys
unique-values d xs ys e l s t p h =
    let few = support-few xs ys 0 e in
    let semi = added-semi-octets xs ys s t in
    same xs ys e
    (all-zero (added xs ys) 0 (λ i. get_or (added xs ys) i 0) semi (λ i. ap (λ (x : ℕ). get_or (added xs ys) x 0) (zero-add i))
    (vanish (support 0 (added xs ys)) 0 (λ i. get_or (added xs ys) i 0)
    (support-rising (added xs ys) 0 (omega (arith, added-length xs ys e)))
    (λ j a b.
    sym (value-total (added xs ys) j semi)
    ∙ value-added xs ys (power 2 j)
    ∙ ap (λ (v : ℕ). sum v (value ys (power 2 j))) (p j a (omega arith))
    ∙ sum_self (value ys (power 2 j)))))

-- .. for words given by their roots
pub unique-roots : (d : ℕ) (xs ys : List ℕ) → length xs ≡ length ys → length xs ≤ 15 → SemiOctets xs → SemiOctets ys
    → Roots d xs → Roots d ys → apart xs ys < d → xs ≡ ys
unique-roots d xs ys e l s t p q h = unique-values d xs ys e l s t (λ j a b. p j a b ∙ sym (q j a b)) h

-- two words near a third are near each other
pub triangle : (rs xs ys : List ℕ) → length rs ≡ length xs → length rs ≡ length ys → apart xs ys ≤ apart rs xs + apart rs ys
triangle [] [] ys e d = omega arith
triangle [] (x ∷ xs) ys e d = absurd (omega arith)
triangle (r ∷ rs) [] ys e d = absurd (omega arith)
triangle (r ∷ rs) (x ∷ xs) [] e d = absurd (omega arith)
triangle (r ∷ rs) (x ∷ xs) (y ∷ ys) e d =
    let t = triangle rs xs ys (omega arith) (omega arith) in
    let h = one (eqb r x) refl (eqb r y) refl in
    omega arith
  where
    one : (a : Bool) → eqb r x ≡ a → (b : Bool) → eqb r y ≡ b → unequal (eqb x y) ≤ unequal a + unequal b
    one true e true d = let s : eqb x y ≡ true = eq-eqb x y (sym (eqb-true r x e) ∙ eqb-true r y d) in rw s (omega arith)
    one true e false d = let h = unequal-le (eqb x y) in omega arith
    one false e b d = let h = unequal-le (eqb x y) in omega arith
