-- Polynomials divided by the generating polynomial: a word is valid where the generator divides it, and that is where it has the
-- generator's roots. So the distance argument of Distance.antt holds for valid words. All is general in the distance.
-- Assumes nothing.
use mathlib.Core.Path.{◌≡◌, refl, sym, ap, ap₂, ◌∙◌}
use mathlib.Core.Bool.{Bool, true, false}
use mathlib.Core.List.{List, [], ◌∷◌, ◌++◌}
use Prim.Native.Nat.{ℕ, zero, suc, ◌-◌, ◌≤◌, ◌<◌}
use native.Mathlib.Omega.{arith}
use native.Mathlib.Nat.{mod-eq_of_lt}
use lib.Dec.{eqb, ltb}
use lib.ListN.{length, get_or, take, replicate, length-replicate, get_or-eq_default}
use lib.Seq.{get_or-take, length-take-le}
use borrow.Author.Tests.{eqb-true, eqb-false, ltb-true, ltb-false}
use Rattle.gf16.specs.Field.{sum, expanded, lowered, reduced, product, power}
use Rattle.gf16.proofs.Laws.{
  ring,
  ring2,
  sum_lt,
  sum_self,
  sum-zero,
  zero-sum,
  one_product,
  product-one,
  product-by-zero,
  zero-product,
  product_lt,
  power-lt,
}
use Rattle.code_word_laws.specs.Polynomial.{value, scaled, added, multiplied, rooted, generator}
use Rattle.code_word_laws.specs.Word.{SemiOctets, Valid, Roots, apart, distance}
use Rattle.code_word_laws.specs.Make.{lessened, remainder}
use Rattle.code_word_laws.specs.Correct.{Near}
use Rattle.code_word_laws.proofs.Places.{linear}
use Rattle.code_word_laws.proofs.Changes.{apart-few}
use Rattle.code_word_laws.proofs.Distance.{value-lt, unique-roots, triangle, value-added}

-- ---- values

scale-step : (c d v x : ℕ) → sum (product c d) (product x (product c v)) ≡ product c (sum d (product x v))
scale-step c d v x = simp ring

pub value-scaled : (c : ℕ) (ds : List ℕ) (x : ℕ) → value (scaled c ds) x ≡ product c (value ds x)
unfolding scaled
value-scaled c [] x = sym (product-by-zero c)
value-scaled c (d ∷ ds) x = ap (λ (v : ℕ). sum (product c d) (product x v)) (value-scaled c ds x) ∙ scale-step c d (value ds x) x

multiply-step : (c g v x : ℕ) → sum (product c g) (sum 0 (product x (product v g))) ≡ product (sum c (product x v)) g
multiply-step c g v x = simp ring2

pub value-multiplied : (q g : List ℕ) (x : ℕ) → value (multiplied q g) x ≡ product (value q x) (value g x)
unfolding multiplied
value-multiplied [] g x = sym (zero-product (value g x))
value-multiplied (c ∷ cs) g x =
    value-added (scaled c g) (0 ∷ multiplied cs g) x
    ∙ ap₂ (λ (a b : ℕ). sum a (sum 0 (product x b))) (value-scaled c g x) (value-multiplied cs g x)
    ∙ multiply-step c (value g x) (value cs x) x

nothing-more : (x : ℕ) → sum 0 (product x 0) ≡ 0
nothing-more x = ap (λ (v : ℕ). sum 0 v) (product-by-zero x) ∙ sum-zero 0

-- the same coefficients at every power, the same value
pub value_same : (ps qs : List ℕ) (x : ℕ) → ((k : ℕ) → get_or ps k 0 ≡ get_or qs k 0) → value ps x ≡ value qs x
value_same [] [] x h = refl
value_same [] (q ∷ qs) x h =
    sym (nothing-more x) ∙ ap₂ (λ (a v : ℕ). sum a (product x v)) (h 0) (value_same [] qs x (λ k. h (suc k)))
value_same (p ∷ ps) [] x h =
    ap₂ (λ (a v : ℕ). sum a (product x v)) (h 0) (value_same ps [] x (λ k. h (suc k))) ∙ nothing-more x
value_same (p ∷ ps) (q ∷ qs) x h = ap₂ (λ (a v : ℕ). sum a (product x v)) (h 0) (value_same ps qs x (λ k. h (suc k)))

pub value-zeros : (n x : ℕ) → value (replicate n 0) x ≡ 0
value-zeros zero x = refl
value-zeros (suc n) x = ap (λ (v : ℕ). sum 0 (product x v)) (value-zeros n x) ∙ nothing-more x

pub value-append : (xs ys : List ℕ) (x : ℕ) → SemiOctets ys
    → value (xs ++ ys) x ≡ sum (value xs x) (product (power x (length xs)) (value ys x))
unfolding power
value-append [] ys x s = sym (zero-sum (product 1 (value ys x)) ∙ one_product (value ys x) ∙ mod-eq_of_lt (value-lt ys x s))
value-append (a ∷ xs) ys x s =
    ap (λ (v : ℕ). sum a (product x v)) (value-append xs ys x s) ∙ append-step a x (value xs x) (power x (length xs)) (value ys x)
  where
    append-step : (a x v p w : ℕ) → sum a (product x (sum v (product p w))) ≡ sum (sum a (product x v)) (product (product x p) w)
    append-step a x v p w = simp ring

-- ---- the generator's roots

rooted-at : (n j : ℕ) → value (rooted (suc n)) (power 2 j) ≡ product (sum (power 2 (suc n)) (power 2 j)) (value (rooted n) (power 2 j))
unfolding rooted
rooted-at n j =
    value-multiplied (power 2 (suc n) ∷ 1 ∷ []) (rooted n) (power 2 j)
    ∙ ap (λ (v : ℕ). product v (value (rooted n) (power 2 j))) (linear (power 2 (suc n)) (power 2 j) (power-lt 2 j))

pub rooted-root : (n j : ℕ) → 0 < j → j ≤ n → value (rooted n) (power 2 j) ≡ 0
rooted-root zero j p h = absurd (omega arith)
rooted-root (suc n) j p h = rooted-at n j ∙ go (eqb j (suc n)) refl (rooted-root n j p)
  where
    go : (b : Bool) → eqb j (suc n) ≡ b → (j ≤ n → value (rooted n) (power 2 j) ≡ 0)
        → product (sum (power 2 (suc n)) (power 2 j)) (value (rooted n) (power 2 j)) ≡ 0
    go true e r =
        ap (λ (v : ℕ). product v (value (rooted n) (power 2 j)))
        (ap (λ (i : ℕ). sum (power 2 (suc n)) (power 2 i)) (eqb-true j (suc n) e) ∙ sum_self (power 2 (suc n)))
        ∙ zero-product (value (rooted n) (power 2 j))
    go false e r =
        let d : (j ≡ suc n → ⊥) = eqb-false j (suc n) e in
        ap (λ (v : ℕ). product (sum (power 2 (suc n)) (power 2 j)) v) (r (omega arith))
        ∙ product-by-zero (sum (power 2 (suc n)) (power 2 j))

-- what is divided by the generator has its roots
pub valid-roots : (d : ℕ) (w : List ℕ) → SemiOctets w → Valid d w → Roots d w
unfolding generator
valid-roots d w s v j p h =
    sym (value_same (multiplied v.quotient (rooted (d - 1))) w (power 2 j) v.same)
    ∙ value-multiplied v.quotient (rooted (d - 1)) (power 2 j)
    ∙ ap (λ (a : ℕ). product (value v.quotient (power 2 j)) a) (rooted-root (d - 1) j p (omega arith))
    ∙ product-by-zero (value v.quotient (power 2 j))

-- ---- coefficients

pub get_or-scaled : (c : ℕ) (ds : List ℕ) (k : ℕ) → get_or (scaled c ds) k 0 ≡ product c (get_or ds k 0)
unfolding scaled
get_or-scaled c [] k = sym (product-by-zero c)
get_or-scaled c (d ∷ ds) zero = refl
get_or-scaled c (d ∷ ds) (suc k) = get_or-scaled c ds k

pub get_or-added : (ps qs : List ℕ) (k : ℕ) → get_or (added ps qs) k 0 ≡ sum (get_or ps k 0) (get_or qs k 0)
unfolding added
get_or-added [] qs k = sym (zero-sum (get_or qs k 0))
get_or-added (a ∷ ps) [] k = sym (sum-zero (get_or (a ∷ ps) k 0))
get_or-added (a ∷ ps) (b ∷ qs) zero = refl
get_or-added (a ∷ ps) (b ∷ qs) (suc k) = get_or-added ps qs k

pub get_or-zeros : (n k : ℕ) → get_or (replicate {A = ℕ} n 0) k 0 ≡ 0
get_or-zeros zero k = refl
get_or-zeros (suc n) zero = refl
get_or-zeros (suc n) (suc k) = get_or-zeros n k

pub semi-octet-at : (cs : List ℕ) (k : ℕ) → SemiOctets cs → get_or cs k 0 < 16
semi-octet-at [] k s = omega arith
semi-octet-at (c ∷ cs) zero s = s.0
semi-octet-at (c ∷ cs) (suc k) s = semi-octet-at cs k s.1

-- g has degree n and the leading coefficient 1
pub record Monic (n : ℕ) (g : List ℕ) : Type 0 where
  pub leads : get_or g n 0 ≡ 1
  pub ends : (k : ℕ) → n < k → get_or g k 0 ≡ 0

-- the coefficients of one factor more
rooted-coefficient : (n k : ℕ)
    → get_or (rooted (suc n)) (suc k) 0 ≡ sum (product (power 2 (suc n)) (get_or (rooted n) (suc k) 0)) (product 1 (get_or (rooted n) k 0))
unfolding rooted multiplied
rooted-coefficient n k =
    get_or-added (scaled (power 2 (suc n)) (rooted n)) (0 ∷ added (scaled 1 (rooted n)) (0 ∷ [])) (suc k)
    ∙ ap₂ sum (get_or-scaled (power 2 (suc n)) (rooted n) (suc k))
    (get_or-added (scaled 1 (rooted n)) (replicate 1 0) k ∙ ap₂ sum (get_or-scaled 1 (rooted n) k) (get_or-zeros 1 k)
    ∙ sum-zero (product 1 (get_or (rooted n) k 0)))

pub rooted-monic : (n : ℕ) → Monic n (rooted n)
unfolding rooted
rooted-monic zero = record { leads = refl; ends = λ k h. get_or-eq_default (1 ∷ []) 0 {n = k} (omega arith) }
rooted-monic (suc n) = let m = rooted-monic n in record { leads = first m; ends = after m }
  where
    first : Monic n (rooted n) → get_or (rooted (suc n)) (suc n) 0 ≡ 1
    first m =
        rooted-coefficient n n
        ∙ ap₂ (λ (a b : ℕ). sum (product (power 2 (suc n)) a) (product 1 b)) (m.ends (suc n) (omega arith)) m.leads
        ∙ ap₂ sum (product-by-zero (power 2 (suc n))) (one_product 1)
        ∙ zero-sum 1

    after : Monic n (rooted n) → (k : ℕ) → suc n < k → get_or (rooted (suc n)) k 0 ≡ 0
    after m zero h = absurd (omega arith)
    after m (suc k) h =
        rooted-coefficient n k
        ∙ ap₂ (λ (a b : ℕ). sum (product (power 2 (suc n)) a) (product 1 b)) (m.ends (suc k) (omega arith)) (m.ends k (omega arith))
        ∙ ap₂ sum (product-by-zero (power 2 (suc n))) (product-by-zero 1) ∙ zero-sum 0

-- ---- division with remainder

added-long : (ps qs : List ℕ) → length ps ≤ length (added ps qs)
unfolding added
added-long [] qs = omega arith
added-long (a ∷ ps) [] = omega arith
added-long (a ∷ ps) (b ∷ qs) = let r = added-long ps qs in omega arith

lessened-length : (n : ℕ) (g p : List ℕ) → n ≤ length p → length (lessened n g p) ≡ n
unfolding lessened
lessened-length n g p h = length-take-le n (added p (scaled (get_or p n 0) g)) (omega (arith, added-long p (scaled (get_or p n 0) g)))

pub remainder-length : (n : ℕ) (g w : List ℕ) → length (remainder n g w) ≡ n
unfolding remainder
remainder-length n g [] = length-replicate n 0
remainder-length n g (c ∷ cs) = lessened-length n g (c ∷ remainder n g cs) (omega (arith, remainder-length n g cs))

pub scaled-semi-octets : (c : ℕ) (ds : List ℕ) → SemiOctets (scaled c ds)
unfolding scaled
scaled-semi-octets c [] = tt
scaled-semi-octets c (d ∷ ds) = (product_lt c d, scaled-semi-octets c ds)

added-semi-octets : (ps qs : List ℕ) → SemiOctets ps → SemiOctets qs → SemiOctets (added ps qs)
unfolding added
added-semi-octets [] qs s t = t
added-semi-octets (a ∷ ps) [] s t = s
added-semi-octets (a ∷ ps) (b ∷ qs) s t = (sum_lt a b s.0 t.0, added-semi-octets ps qs s.1 t.1)

pub take-semi-octets : (n : ℕ) (cs : List ℕ) → SemiOctets cs → SemiOctets (take n cs)
take-semi-octets zero cs s = tt
take-semi-octets (suc n) [] s = tt
take-semi-octets (suc n) (c ∷ cs) s = (s.0, take-semi-octets n cs s.1)

pub zeros-semi-octets : (n : ℕ) → SemiOctets (replicate n 0)
zeros-semi-octets zero = tt
zeros-semi-octets (suc n) = (omega arith, zeros-semi-octets n)

pub remainder-semi-octets : (n : ℕ) (g w : List ℕ) → SemiOctets w → SemiOctets (remainder n g w)
unfolding remainder lessened
remainder-semi-octets n g [] s = zeros-semi-octets n
remainder-semi-octets n g (c ∷ cs) s =
    let p = c ∷ remainder n g cs in
    take-semi-octets n (added p (scaled (get_or p n 0) g))
    (added-semi-octets p (scaled (get_or p n 0) g) (s.0, remainder-semi-octets n g cs s.1) (scaled-semi-octets (get_or p n 0) g))

-- where a list has only zeros from n on, cutting it there changes no coefficient
cut : (n : ℕ) (cs : List ℕ) (k : ℕ) → n ≤ length cs → (n ≤ k → get_or cs k 0 ≡ 0) → get_or (take n cs) k 0 ≡ get_or cs k 0
cut n cs k l h = go (ltb k n) refl
  where
    go : (b : Bool) → ltb k n ≡ b → get_or (take n cs) k 0 ≡ get_or cs k 0
    go true e = get_or-take n cs k 0 (ltb-true k n e)
    go false e = let m : n ≤ k = ltb-false k n e in get_or-eq_default (take n cs) 0 {n = k} (omega (arith, length-take-le n cs l))
        ∙ sym (h m)

-- a step of the division adds the same multiple of g at every power
lessened-coefficient : (n : ℕ) (g p : List ℕ) (k : ℕ) → Monic n g → length p ≡ suc n → SemiOctets p
    → get_or (lessened n g p) k 0 ≡ sum (get_or p k 0) (product (get_or p n 0) (get_or g k 0))
unfolding lessened
lessened-coefficient n g p k m l s = cut n (added p (scaled (get_or p n 0) g)) k (omega (arith, added-long p (scaled (get_or p n 0) g)))
    (λ h. at k ∙ high (eqb k n) refl h) ∙ at k
  where
    at : (i : ℕ) → get_or (added p (scaled (get_or p n 0) g)) i 0 ≡ sum (get_or p i 0) (product (get_or p n 0) (get_or g i 0))
    at i = get_or-added p (scaled (get_or p n 0) g) i ∙ ap (λ (a : ℕ). sum (get_or p i 0) a) (get_or-scaled (get_or p n 0) g i)

    high : (b : Bool) → eqb k n ≡ b → n ≤ k → sum (get_or p k 0) (product (get_or p n 0) (get_or g k 0)) ≡ 0
    high true e h =
        ap (λ (i : ℕ). sum (get_or p i 0) (product (get_or p n 0) (get_or g i 0))) (eqb-true k n e)
        ∙ ap (λ (a : ℕ). sum (get_or p n 0) a)
        (ap (λ (a : ℕ). product (get_or p n 0) a) m.leads ∙ product-one (get_or p n 0) ∙ mod-eq_of_lt (semi-octet-at p n s))
        ∙ sum_self (get_or p n 0)
    high false e h =
        let d : (k ≡ n → ⊥) = eqb-false k n e in
        ap₂ (λ (a b : ℕ). sum a (product (get_or p n 0) b)) (get_or-eq_default p 0 {n = k} (omega arith)) (m.ends k (omega arith))
        ∙ ap (λ (a : ℕ). sum 0 a) (product-by-zero (get_or p n 0)) ∙ sum-zero 0

-- the coefficients that the steps took off
abbrev pub quotient_by : ℕ → List ℕ → List ℕ → List ℕ
quotient_by n g [] = []
quotient_by n g (c ∷ cs) = get_or (c ∷ remainder n g cs) n 0 ∷ quotient_by n g cs

regroup : (a b p : ℕ) → sum (sum a b) (sum p a) ≡ sum b p
regroup a b p = simp ring2

-- the quotient times g and the remainder add up to the word
pub divided : (n : ℕ) (g w : List ℕ) → Monic n g → SemiOctets w
    → (k : ℕ) → sum (get_or (multiplied (quotient_by n g w) g) k 0) (get_or (remainder n g w) k 0) ≡ get_or w k 0
unfolding multiplied remainder
divided n g [] m s k = ap (λ (a : ℕ). sum 0 a) (get_or-zeros n k) ∙ sum-zero 0
divided n g (c ∷ cs) m s k =
    let p = c ∷ remainder n g cs in
    let t = get_or p n 0 in
    ap₂ sum
    (get_or-added (scaled t g) (0 ∷ multiplied (quotient_by n g cs) g) k
    ∙ ap (λ (a : ℕ). sum a (get_or (0 ∷ multiplied (quotient_by n g cs) g) k 0)) (get_or-scaled t g k))
    (lessened-coefficient n g p k m (ap suc (remainder-length n g cs)) (s.0, remainder-semi-octets n g cs s.1))
    ∙ regroup (product t (get_or g k 0)) (get_or (0 ∷ multiplied (quotient_by n g cs) g) k 0) (get_or p k 0)
    ∙ below k (divided n g cs m s.1)
  where
    below : (k : ℕ) → ((i : ℕ) → sum (get_or (multiplied (quotient_by n g cs) g) i 0) (get_or (remainder n g cs) i 0) ≡ get_or cs i 0)
        → sum (get_or (0 ∷ multiplied (quotient_by n g cs) g) k 0) (get_or (c ∷ remainder n g cs) k 0) ≡ get_or (c ∷ cs) k 0
    below zero h = zero-sum c
    below (suc i) h = h i

-- the remainder of a word with the generator's roots has them too
remainder-roots : (d : ℕ) (w : List ℕ) → SemiOctets w → Roots d w → Roots d (remainder (d - 1) (rooted (d - 1)) w)
remainder-roots d w s r j p h =
    let n = d - 1 in
    let g = rooted n in
    let x = power 2 j in
    sym (zero-sum (value (remainder n g w) x))
    ∙ ap (λ (a : ℕ). sum a (value (remainder n g w) x))
    (sym (value-multiplied (quotient_by n g w) g x
    ∙ ap (λ (a : ℕ). product (value (quotient_by n g w) x) a) (rooted-root n j p (omega arith))
    ∙ product-by-zero (value (quotient_by n g w) x)))
    ∙ sym (value-added (multiplied (quotient_by n g w) g) (remainder n g w) x)
    ∙ value_same (added (multiplied (quotient_by n g w) g) (remainder n g w)) w x
    (λ k. get_or-added (multiplied (quotient_by n g w) g) (remainder n g w) k ∙ divided n g w (rooted-monic n) s k)
    ∙ r j p h

-- a word with the generator's roots leaves the remainder 0: the remainder has fewer coefficients than the distance, and the same roots
roots-remainder : (d : ℕ) (w : List ℕ) → 1 ≤ d → d ≤ 16 → SemiOctets w → Roots d w
    → remainder (d - 1) (rooted (d - 1)) w ≡ replicate (d - 1) 0
roots-remainder d w a b s r =
    let n = d - 1 in
    let R = remainder n (rooted n) w in
    let l = remainder-length n (rooted n) w in
    let f = apart-few R (replicate n 0) in
    unique-roots d R (replicate n 0) (l ∙ sym (length-replicate n 0)) (omega arith) (remainder-semi-octets n (rooted n) w s)
    (zeros-semi-octets n)
    (remainder-roots d w s r) (λ j p h. value-zeros n (power 2 j)) (omega arith)

-- what has the generator's roots is divided by it
pub roots-valid : (d : ℕ) (w : List ℕ) → 1 ≤ d → d ≤ 16 → SemiOctets w → Roots d w → Valid d w
unfolding generator
roots-valid d w a b s r =
    let n = d - 1 in
    let g = rooted n in
    record {
      quotient = quotient_by n g w;
      same = λ k.
          sym (sum-zero (get_or (multiplied (quotient_by n g w) g) k 0))
          ∙ ap (λ (v : ℕ). sum (get_or (multiplied (quotient_by n g w) g) k 0) v)
          (sym (ap (λ (l : List ℕ). get_or l k 0) (roots-remainder d w a b s r) ∙ get_or-zeros n k))
          ∙ divided n g w (rooted-monic n) s k;
    }

-- ---- the distance of valid words

pub unique : (d : ℕ) (xs ys : List ℕ) → length xs ≡ length ys → length xs ≤ 15 → SemiOctets xs → SemiOctets ys
    → Valid d xs → Valid d ys → apart xs ys < d → xs ≡ ys
unique d xs ys e l s t v w h = unique-roots d xs ys e l s t (valid-roots d xs s v) (valid-roots d ys t w) h

-- at most one valid word lies within m - 1 places of anything
pub nearest : (mode : ℕ) (old u v : List ℕ) → length old ≤ 15 → Near mode old u → Near mode old v → u ≡ v
nearest mode old u v l p q =
    let t = triangle old u v (sym p.long) (sym q.long) in
    unique-roots (distance mode) u v (p.long ∙ sym q.long) (omega (arith, p.long)) p.semi_octets q.semi_octets
    (valid-roots (distance mode) u p.semi_octets p.valid) (valid-roots (distance mode) v q.semi_octets q.valid)
    (omega (arith, p.near, q.near))

-- ---- document 01's generating polynomials (A.40 to A.42)

pub generators : (generator 3 ≡ 8 ∷ 6 ∷ 1 ∷ []) × (generator 5 ≡ 7 ∷ 8 ∷ 12 ∷ 13 ∷ 1 ∷ [])
    × (generator 7 ≡ 12 ∷ 10 ∷ 12 ∷ 3 ∷ 9 ∷ 7 ∷ 1 ∷ [])
unfolding generator rooted multiplied scaled added sum product reduced lowered expanded power
generators = (refl, refl, refl)
