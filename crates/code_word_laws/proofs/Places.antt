-- Sums over places of a word, and the elimination of one place after the other: where a sum of coefficients times powers of different
-- places is 0 for as many powers as there are places, every coefficient is 0. The coefficients are a function of the place and the places a
-- list, so that taking one out changes the function and drops the list's head. The argument is general in the number of places.
-- Assumes nothing.
use mathlib.Core.Path.{◌≡◌, refl, sym, ap, ap₂, ◌∙◌}
use mathlib.Core.Logic.{◌≢◌}
use mathlib.Core.List.{List, [], ◌∷◌}
use Prim.Native.Nat.{ℕ, suc, ◌%◌, ◌≤◌, ◌<◌}
use native.Mathlib.Omega.{arith}
use native.Mathlib.Nat.{mod-eq_of_lt}
use lib.ListN.{length}
use Rattle.gf16.specs.Field.{sum, product, power}
use Rattle.gf16.proofs.Laws.{
  ring,
  sum_lt,
  sum_same,
  sum_self,
  sum-zero,
  zero-sum,
  product-one,
  product-by-zero,
  product-zero,
  product-mod,
  zero-product,
  mod-product,
  power-lt,
  power-nonzero,
  power-injective,
}
use Rattle.code_word_laws.specs.Polynomial.{value}

-- the field element of place k
abbrev pub place : ℕ → ℕ
place k = power 2 k

-- the sum of f k times the j-th power of place k, over the places ks
abbrev pub total : (ℕ → ℕ) → ℕ → List ℕ → ℕ
total f j [] = 0
total f j (k ∷ ks) = sum (product (f k) (power (place k) j)) (total f j ks)

-- the sum of l_i times s (j + i)
abbrev pub dot : List ℕ → (ℕ → ℕ) → ℕ → ℕ
dot [] s j = 0
dot (l ∷ ls) s j = sum (product l (s j)) (dot ls s (suc j))

-- places that rise, from b up, all below 15: so they are different
abbrev pub Rising : ℕ → List ℕ → Type 0
Rising b [] = Unit {0}
Rising b (k ∷ ks) = (b ≤ k) × (k < 15) × Rising (suc k) ks

-- f is 0 at each place
abbrev pub Zero : (ℕ → ℕ) → List ℕ → Type 0
Zero f [] = Unit {0}
Zero f (k ∷ ks) = (f k % 16 ≡ 0) × Zero f ks

nothing : (x p : ℕ) → product (product x 0) p ≡ 0
nothing x p = simp (product-by-zero, zero-product)

total-nothing : (f : ℕ → ℕ) (j : ℕ) (ks : List ℕ) → total (λ k. product (f k) 0) j ks ≡ 0
total-nothing f j [] = refl
total-nothing f j (k ∷ ks) = ap₂ sum (nothing (f k) (power (place k) j)) (total-nothing f j ks) ∙ sum-zero 0

dot-head : (l x p q v t u : ℕ)
    → sum (product l (sum (product x q) t)) (sum (product (product x v) (product p q)) u)
    ≡ sum (product (product x (sum l (product p v))) q) (sum (product l t) u)
dot-head l x p q v t u = simp ring

dot-step : (l : ℕ) (f v : ℕ → ℕ) (j : ℕ) (ks : List ℕ)
    → sum (product l (total f j ks)) (total (λ k. product (f k) (v k)) (suc j) ks)
    ≡ total (λ k. product (f k) (sum l (product (place k) (v k)))) j ks
unfolding power
dot-step l f v j [] = ap (λ (x : ℕ). sum x 0) (product-by-zero l) ∙ sum-zero 0
dot-step l f v j (k ∷ ks) =
    dot-head l (f k) (place k) (power (place k) j) (v k) (total f j ks) (total (λ i. product (f i) (v i)) (suc j) ks)
    ∙ ap (λ (x : ℕ). sum (product (product (f k) (sum l (product (place k) (v k)))) (power (place k) j)) x) (dot-step l f v j ks)

-- sums of consecutive powers, weighted by ls, are the sum of the coefficients weighted by the polynomial ls at each place
pub total-dot : (ls : List ℕ) (f : ℕ → ℕ) (j : ℕ) (ks : List ℕ)
    → dot ls (λ i. total f i ks) j ≡ total (λ k. product (f k) (value ls (place k))) j ks
total-dot [] f j ks = sym (total-nothing f j ks)
total-dot (l ∷ ls) f j ks =
    ap (λ (x : ℕ). sum (product l (total f j ks)) x) (total-dot ls f (suc j) ks) ∙ dot-step l f (λ k. value ls (place k)) j ks

none-at : (x p : ℕ) → x % 16 ≡ 0 → product x p ≡ 0
none-at x p e = sym (mod-product x p) ∙ ap (λ (y : ℕ). product y p) e ∙ zero-product p

pub total-of-zeros : (f : ℕ → ℕ) (j : ℕ) (ks : List ℕ) → Zero f ks → total f j ks ≡ 0
total-of-zeros f j [] z = refl
total-of-zeros f j (k ∷ ks) z = ap₂ sum (none-at (f k) (power (place k) j) z.0) (total-of-zeros f j ks z.1) ∙ sum-zero 0

-- ---- elimination

-- the polynomial p + x, at x = q
pub linear : (p q : ℕ) → q < 16 → value (p ∷ 1 ∷ []) q ≡ sum p q
linear p q h = ap (λ (x : ℕ). sum p x) (ap (λ (x : ℕ). product q (sum 1 x)) (product-by-zero q) ∙ ap (λ (x : ℕ). product q x) (sum-zero 1)
    ∙ product-one q ∙ mod-eq_of_lt h)

-- the weight that takes place k out
abbrev weighted : (ℕ → ℕ) → ℕ → ℕ → ℕ
weighted f k i = product (f i) (value (place k ∷ 1 ∷ []) (place i))

own : (f : ℕ → ℕ) (k p : ℕ) → product (weighted f k k) p ≡ 0
own f k p =
    ap (λ (x : ℕ). product (product (f k) x) p) (linear (place k) (place k) (power-lt 2 k) ∙ sum_self (place k)) ∙ nothing (f k) p

other : (k i : ℕ) → k < i → i < 15 → sum (place k) (place i) ≢ 0
other k i h b e = let s : k ≡ i = power-injective k i (omega arith) b (sum_same (place k) (place i) e) in omega arith

unweighted : (f : ℕ → ℕ) (k i : ℕ) → k < i → i < 15 → weighted f k i % 16 ≡ 0 → f i % 16 ≡ 0
unweighted f k i h b e =
    product-zero (f i) (sum (place k) (place i)) (sum_lt (place k) (place i) (power-lt 2 k) (power-lt 2 i)) (other k i h b)
    (ap (λ (x : ℕ). product (f i) x) (sym (linear (place k) (place i) (power-lt 2 i)))
    ∙ sym (product-mod (f i) (value (place k ∷ 1 ∷ []) (place i))) ∙ e)

unweighted-all : (f : ℕ → ℕ) (k b : ℕ) (ks : List ℕ) → k < b → Rising b ks → Zero (weighted f k) ks → Zero f ks
unweighted-all f k b [] h r z = tt
unweighted-all f k b (i ∷ ks) h r z =
    (unweighted f k i (omega arith) r.1 z.0, unweighted-all f k (suc i) ks (omega arith) r.2 z.1)

-- with place k out, the sum over the other places is 0 where two consecutive sums over all are
taken_out : (f : ℕ → ℕ) (k j : ℕ) (ks : List ℕ) → total f j (k ∷ ks) ≡ 0 → total f (suc j) (k ∷ ks) ≡ 0 → total (weighted f k) j ks ≡ 0
taken_out f k j ks e d =
    sym (zero-sum (total (weighted f k) j ks))
    ∙ ap (λ (x : ℕ). sum x (total (weighted f k) j ks)) (sym (own f k (power (place k) j)))
    ∙ sym (total-dot (place k ∷ 1 ∷ []) f j (k ∷ ks))
    ∙ ap₂ (λ (x y : ℕ). sum (product (place k) x) (sum (product 1 y) 0)) e d
    ∙ simp (product-by-zero, sum-zero)

-- the last coefficient, once all others are 0
vanished : (f : ℕ → ℕ) (k : ℕ) (ks : List ℕ) → k < 15 → total f 1 (k ∷ ks) ≡ 0 → Zero f ks → Zero f (k ∷ ks)
unfolding power
vanished f k ks h e z = (product-zero (f k) (place k) (power-lt 2 k) (power-nonzero k h) alone, z)
  where
    alone : product (f k) (place k) ≡ 0
    alone =
        ap (λ (x : ℕ). product (f k) x) (sym (product-one (place k) ∙ mod-eq_of_lt (power-lt 2 k)))
        ∙ sym (sum-zero (product (f k) (power (place k) 1)))
        ∙ ap (λ (x : ℕ). sum (product (f k) (power (place k) 1)) x) (sym (total-of-zeros f 1 ks z))
        ∙ e

-- the distance argument: as many sums as places, all 0, and places that differ, so every coefficient is 0
pub vanish : (ks : List ℕ) (b : ℕ) (f : ℕ → ℕ) → Rising b ks
    → ((j : ℕ) → 0 < j → j ≤ length ks → total f j ks ≡ 0) → Zero f ks
vanish [] b f r h = tt
vanish (k ∷ ks) b f r h = vanished f k ks r.1 (h 1 (omega arith) (omega arith))
    (unweighted-all f k (suc k) ks (omega arith) r.2
    (vanish ks (suc k) (weighted f k) r.2 (λ j p q. taken_out f k j ks (h j p (omega arith)) (h (suc j) (omega arith) (omega arith)))))
