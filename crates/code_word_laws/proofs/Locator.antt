-- The rule that the sums of at most t errors obey: each sum from the three before it. A vector that the first 2 t sums turn to 0 in t
-- consecutive places turns them to 0 everywhere, by the elimination of Places.antt; such a vector is read off the leading minor of the sums
-- that is not 0. No number of errors is told apart: the vector is found from the sums alone.
-- Assumes nothing.
use mathlib.Core.Path.{◌≡◌, refl, sym, ap, ap₂, ◌∙◌}
use mathlib.Core.Logic.{◌≢◌}
use mathlib.Core.List.{List, [], ◌∷◌}
use Prim.Native.Nat.{ℕ, zero, suc, ◌+◌, ◌%◌, ◌≤◌, ◌<◌}
use native.Mathlib.Omega.{arith}
use native.Mathlib.Nat.{mod-eq_of_lt}
use lib.ListN.{length, get_or}
use Rattle.gf16.specs.Field.{sum, product, power, inverse}
use Rattle.gf16.proofs.Laws.{
  ring,
  ring2,
  sum_lt,
  sum_same,
  sum-zero,
  zero-sum,
  product-comm,
  product-assoc,
  product_lt,
  one_product,
  product-inverse,
  product-zero,
  product-by-zero,
  zero-product,
}
use Rattle.code_word_laws.specs.Polynomial.{value}
use Rattle.code_word_laws.specs.Corrector.{Recurs, minor_two, triple, minor}
use Rattle.code_word_laws.proofs.Places.{place, total, dot, total-dot, total-of-zeros, Rising, vanish}

-- for any choice of at most t errors with the sums s, the sums go on by r1, r2, r3, and u is the third
abbrev pub Follows : ℕ → List ℕ → ℕ → ℕ → ℕ → ℕ → Type 0
Follows t s r1 r2 r3 u =
    (f : ℕ → ℕ) (ks : List ℕ) → Rising 0 ks → length ks ≤ t → ((j : ℕ) → j < t + t → total f (suc j) ks ≡ get_or s j 0)
    → Recurs r1 r2 r3 (λ n. total f n ks) × (total f 3 ks ≡ u)

-- a vector that turns the sums of at most t errors to 0 in the places 1 .. t does so everywhere
pub always : (t : ℕ) (f : ℕ → ℕ) (ks ls : List ℕ) → Rising 0 ks → length ks ≤ t
    → ((j : ℕ) → 0 < j → j ≤ t → dot ls (λ i. total f i ks) j ≡ 0) → (j : ℕ) → dot ls (λ i. total f i ks) j ≡ 0
always t f ks ls r n h j =
    total-dot ls f j ks
    ∙ total-of-zeros (λ k. product (f k) (value ls (place k))) j ks
    (vanish ks 0 (λ k. product (f k) (value ls (place k))) r (λ i p q. sym (total-dot ls f i ks) ∙ h i p (omega arith)))

pub total-lt : (f : ℕ → ℕ) (j : ℕ) (ks : List ℕ) → total f j ks < 16
total-lt f j [] = omega arith
total-lt f j (k ∷ ks) = sum_lt (product (f k) (power (place k) j)) (total f j ks) (product_lt (f k) (power (place k) j)) (total-lt f j ks)

-- ---- from the vector to the rule

divided : (d x y : ℕ) → d < 16 → d ≢ 0 → x < 16 → product d x ≡ y → x ≡ product (inverse d) y
divided d x y h n l e =
    sym (mod-eq_of_lt l)
    ∙ sym (one_product x)
    ∙ ap (λ (z : ℕ). product z x) (sym (product-inverse d h n) ∙ product-comm d (inverse d))
    ∙ product-assoc (inverse d) d x
    ∙ ap (λ (z : ℕ). product (inverse d) z) e

spread : (i a b c x y z : ℕ)
    → product i (sum (product a x) (sum (product b y) (product c z)))
    ≡ sum (sum (product (product i b) y) (product (product i a) x)) (product (product i c) z)
spread i a b c x y z = simp ring

gather : (a b c d : ℕ) → sum a (sum b (sum c (sum d 0))) ≡ sum (sum a (sum b c)) d
gather a b c d = simp (sum-zero, ring)

pub recurs : (l0 l1 l2 l3 : ℕ) (s : ℕ → ℕ) → l3 < 16 → l3 ≢ 0 → ((n : ℕ) → s n < 16) → ((j : ℕ) → dot (l0 ∷ l1 ∷ l2 ∷ l3 ∷ []) s j ≡ 0)
    → Recurs (product (inverse l3) l2) (product (inverse l3) l1) (product (inverse l3) l0) s
recurs l0 l1 l2 l3 s h n b e j =
    divided l3 (s (suc (suc (suc j)))) (sum (product l0 (s j)) (sum (product l1 (s (suc j))) (product l2 (s (suc (suc j)))))) h n
    (b (suc (suc (suc j))))
    (sym (sum_same _ _ (sym (gather (product l0 (s j)) (product l1 (s (suc j))) (product l2 (s (suc (suc j))))
    (product l3 (s (suc (suc (suc j)))))) ∙ e j)))
    ∙ spread (inverse l3) l0 l1 l2 (s j) (s (suc j)) (s (suc (suc j)))

-- a shorter vector is one that starts with zeros
longer : (ls : List ℕ) (s : ℕ → ℕ) → ((j : ℕ) → dot ls s j ≡ 0) → (j : ℕ) → dot (0 ∷ ls) s j ≡ 0
longer ls s e j = ap₂ sum (zero-product (s j)) (e (suc j)) ∙ sum-zero 0

-- ---- the minors of the sums

-- the four minors of the sums in rows of four
abbrev pub minor0 : ℕ → ℕ → ℕ → ℕ → ℕ → ℕ → ℕ
minor0 s1 s2 s3 s4 s5 s6 = triple (minor_two s3 s4 s4 s5) s4 (minor_two s2 s4 s3 s5) s5 (minor_two s2 s3 s3 s4) s6

abbrev pub minor1 : ℕ → ℕ → ℕ → ℕ → ℕ → ℕ → ℕ
minor1 s1 s2 s3 s4 s5 s6 = triple (minor_two s3 s4 s4 s5) s3 (minor_two s1 s4 s2 s5) s5 (minor_two s1 s3 s2 s4) s6

abbrev pub minor2 : ℕ → ℕ → ℕ → ℕ → ℕ → ℕ → ℕ
minor2 s1 s2 s3 s4 s5 s6 = triple (minor_two s2 s4 s3 s5) s3 (minor_two s1 s4 s2 s5) s4 (minor_two s1 s2 s2 s3) s6

abbrev row : ℕ → ℕ → ℕ → ℕ → ℕ → ℕ → ℕ → ℕ → ℕ
row a w b x c y d z = sum (product a w) (sum (product b x) (sum (product c y) (sum (product d z) 0)))

module _ (s1 s2 s3 s4 s5 s6 : ℕ) where
  row_one : row (minor0 s1 s2 s3 s4 s5 s6) s1 (minor1 s1 s2 s3 s4 s5 s6) s2 (minor2 s1 s2 s3 s4 s5 s6) s3 (minor s1 s2 s3 s4 s5) s4 ≡ 0
  row_one = simp ring2

  row-two : row (minor0 s1 s2 s3 s4 s5 s6) s2 (minor1 s1 s2 s3 s4 s5 s6) s3 (minor2 s1 s2 s3 s4 s5 s6) s4 (minor s1 s2 s3 s4 s5) s5 ≡ 0
  row-two = simp ring2

  row-three : row (minor0 s1 s2 s3 s4 s5 s6) s3 (minor1 s1 s2 s3 s4 s5 s6) s4 (minor2 s1 s2 s3 s4 s5 s6) s5 (minor s1 s2 s3 s4 s5) s6 ≡ 0
  row-three = simp ring2

abbrev short : ℕ → ℕ → ℕ → ℕ → ℕ → ℕ → ℕ
short a w b x c y = sum (product a w) (sum (product b x) (sum (product c y) 0))

pair_one : (s1 s2 s3 s4 : ℕ) → short (minor_two s2 s3 s3 s4) s1 (minor_two s1 s3 s2 s4) s2 (minor_two s1 s2 s2 s3) s3 ≡ 0
pair_one s1 s2 s3 s4 = simp ring2

pair-two : (s1 s2 s3 s4 : ℕ) → short (minor_two s2 s3 s3 s4) s2 (minor_two s1 s3 s2 s4) s3 (minor_two s1 s2 s2 s3) s4 ≡ 0
pair-two s1 s2 s3 s4 = simp ring2

pair-three : (s1 s2 s3 s4 s5 : ℕ)
    → short (minor_two s2 s3 s3 s4) s3 (minor_two s1 s3 s2 s4) s4 (minor_two s1 s2 s2 s3) s5 ≡ minor s1 s2 s3 s4 s5
pair-three s1 s2 s3 s4 s5 = simp ring2

-- where the 2 by 2 and the 3 by 3 leading minors are 0, so is the minor between them
square : (s1 s2 s3 s4 s5 : ℕ)
    → product (minor_two s1 s3 s2 s4) (minor_two s1 s3 s2 s4)
    ≡ sum (product s1 (minor s1 s2 s3 s4 s5)) (product (minor_two s1 s2 s2 s3) (sum (product s3 s3) (product s1 s5)))
square s1 s2 s3 s4 s5 = simp ring2

triple-lt : (a x b y c z : ℕ) → triple a x b y c z < 16
triple-lt a x b y c z = sum_lt _ _ (sum_lt _ _ (product_lt a x) (product_lt b y)) (product_lt c z)

minor-two-lt : (a b c d : ℕ) → minor_two a b c d < 16
minor-two-lt a b c d = sum_lt _ _ (product_lt a d) (product_lt b c)

square-zero : (x : ℕ) → x < 16 → product x x ≡ 0 → x ≡ 0
square-zero zero h e = refl
square-zero (suc x) h e =
    let z : suc x % 16 ≡ 0 = product-zero (suc x) (suc x) h (omega arith) e in
    sym (mod-eq_of_lt h) ∙ z

-- ---- the rule at each level, from the highest minor that is not 0

module _ (s1 s2 s3 s4 s5 s6 : ℕ) where
  abbrev listed : List ℕ
  listed = s1 ∷ s2 ∷ s3 ∷ s4 ∷ s5 ∷ s6 ∷ []

  pub locator-three : minor s1 s2 s3 s4 s5 ≢ 0
      → Follows 3 listed (product (inverse (minor s1 s2 s3 s4 s5)) (minor2 s1 s2 s3 s4 s5 s6))
      (product (inverse (minor s1 s2 s3 s4 s5)) (minor1 s1 s2 s3 s4 s5 s6))
      (product (inverse (minor s1 s2 s3 s4 s5)) (minor0 s1 s2 s3 s4 s5 s6)) s3
  locator-three nz f ks r n h = (
    recurs (minor0 s1 s2 s3 s4 s5 s6) (minor1 s1 s2 s3 s4 s5 s6) (minor2 s1 s2 s3 s4 s5 s6) (minor s1 s2 s3 s4 s5) (λ i. total f i ks)
        (triple-lt (minor_two s2 s3 s3 s4) s3 (minor_two s1 s3 s2 s4) s4 (minor_two s1 s2 s2 s3) s5) nz (λ i. total-lt f i ks)
        (always 3 f ks vector r n rows),
    h 2 (omega arith),
  )
    where
      vector : List ℕ
      vector = minor0 s1 s2 s3 s4 s5 s6 ∷ minor1 s1 s2 s3 s4 s5 s6 ∷ minor2 s1 s2 s3 s4 s5 s6 ∷ minor s1 s2 s3 s4 s5 ∷ []

      rows : (j : ℕ) → 0 < j → j ≤ 3 → dot vector (λ i. total f i ks) j ≡ 0
      rows zero p q = absurd (omega arith)
      rows (suc zero) p q = rw (h 0 (omega arith), h 1 (omega arith), h 2 (omega arith), h 3 (omega arith)) (row_one s1 s2 s3 s4 s5 s6)
      rows (suc (suc zero)) p q = rw (h 1 (omega arith), h 2 (omega arith), h 3 (omega arith), h 4 (omega arith))
          (row-two s1 s2 s3 s4 s5 s6)
      rows (suc (suc (suc zero))) p q = rw (h 2 (omega arith), h 3 (omega arith), h 4 (omega arith), h 5 (omega arith))
          (row-three s1 s2 s3 s4 s5 s6)
      rows (suc (suc (suc (suc j)))) p q = absurd (omega arith)

  pub locator-two : (t : ℕ) → 2 ≤ t → t ≤ 3 → minor_two s1 s2 s2 s3 ≢ 0 → (3 ≤ t → minor s1 s2 s3 s4 s5 ≡ 0)
      → Follows t listed (product (inverse (minor_two s1 s2 s2 s3)) (minor_two s1 s3 s2 s4))
      (product (inverse (minor_two s1 s2 s2 s3)) (minor_two s2 s3 s3 s4)) 0 s3
  locator-two t from to nz top f ks r n h = (
    rw (product-by-zero (inverse (minor_two s1 s2 s2 s3))) at
        (recurs 0 (minor_two s2 s3 s3 s4) (minor_two s1 s3 s2 s4) (minor_two s1 s2 s2 s3) (λ i. total f i ks)
        (minor-two-lt s1 s2 s2 s3) nz (λ i. total-lt f i ks) (longer vector (λ i. total f i ks) (always t f ks vector r n rows))),
    h 2 (omega arith),
  )
    where
      vector : List ℕ
      vector = minor_two s2 s3 s3 s4 ∷ minor_two s1 s3 s2 s4 ∷ minor_two s1 s2 s2 s3 ∷ []

      rows : (j : ℕ) → 0 < j → j ≤ t → dot vector (λ i. total f i ks) j ≡ 0
      rows zero p q = absurd (omega arith)
      rows (suc zero) p q = rw (h 0 (omega arith), h 1 (omega arith), h 2 (omega arith)) (pair_one s1 s2 s3 s4)
      rows (suc (suc zero)) p q = rw (h 1 (omega arith), h 2 (omega arith), h 3 (omega arith)) (pair-two s1 s2 s3 s4)
      rows (suc (suc (suc zero))) p q = rw (h 2 (omega arith), h 3 (omega arith), h 4 (omega arith))
          (pair-three s1 s2 s3 s4 s5 ∙ top (omega arith))
      rows (suc (suc (suc (suc j)))) p q = absurd (omega arith)

  -- where the leading minors of 2 and 3 rows are 0, so is the one between them
  middle : minor_two s1 s2 s2 s3 ≡ 0 → minor s1 s2 s3 s4 s5 ≡ 0 → minor_two s1 s3 s2 s4 ≡ 0
  middle e d =
      square-zero (minor_two s1 s3 s2 s4) (minor-two-lt s1 s3 s2 s4)
      (square s1 s2 s3 s4 s5
      ∙ ap₂ (λ (x y : ℕ). sum (product s1 x) (product y (sum (product s3 s3) (product s1 s5)))) d e
      ∙ simp (product-by-zero, zero-product, sum-zero))

  single-two : sum (product s2 s2) (sum (product s1 s3) 0) ≡ minor_two s1 s2 s2 s3
  single-two = simp ring2

  single-three : sum (product s2 s3) (sum (product s1 s4) 0) ≡ minor_two s1 s3 s2 s4
  single-three = simp ring2

  single-one : sum (product s2 s1) (sum (product s1 s2) 0) ≡ 0
  single-one = simp ring2

  -- one place at most, with a sum that is not 0
  single : (t : ℕ) → t ≤ 3 → s1 < 16 → s1 ≢ 0 → (2 ≤ t → minor_two s1 s2 s2 s3 ≡ 0) → (3 ≤ t → minor s1 s2 s3 s4 s5 ≡ 0)
      → (f : ℕ → ℕ) (ks : List ℕ) → Rising 0 ks → length ks ≤ t → ((j : ℕ) → j < t + t → total f (suc j) ks ≡ get_or listed j 0)
      → Recurs (product (inverse s1) s2) 0 0 (λ n. total f n ks)
  single t to l nz two top f ks r n h =
      rw (product-by-zero (inverse s1)) at
      (recurs 0 0 s2 s1 (λ i. total f i ks) l nz (λ i. total-lt f i ks)
      (longer (0 ∷ s2 ∷ s1 ∷ []) (λ i. total f i ks) (longer (s2 ∷ s1 ∷ []) (λ i. total f i ks) (always t f ks (s2 ∷ s1 ∷ []) r n rows))))
    where
      rows : (j : ℕ) → 0 < j → j ≤ t → dot (s2 ∷ s1 ∷ []) (λ i. total f i ks) j ≡ 0
      rows zero p q = absurd (omega arith)
      rows (suc zero) p q = rw (h 0 (omega arith), h 1 (omega arith)) single-one
      rows (suc (suc zero)) p q = rw (h 1 (omega arith), h 2 (omega arith)) (single-two ∙ two (omega arith))
      rows (suc (suc (suc zero))) p q = rw (h 2 (omega arith), h 3 (omega arith))
          (single-three ∙ middle (two (omega arith)) (top (omega arith)))
      rows (suc (suc (suc (suc j)))) p q = absurd (omega arith)

second : (s2 s3 : ℕ) → s2 < 16 → minor_two 0 s2 s2 s3 ≡ 0 → s2 ≡ 0
second s2 s3 l e = square-zero s2 l (sym (zero-sum (product s2 s2)) ∙ ap (λ (x : ℕ). sum x (product s2 s2)) (sym (zero-product s3)) ∙ e)

third : (s3 s4 s5 : ℕ) → s3 < 16 → minor 0 0 s3 s4 s5 ≡ 0 → s3 ≡ 0
third s3 s4 s5 l e = cubed s3 l (sym (simp (product-by-zero, zero-product, sum-zero, zero-sum)) ∙ e)
  where
    cubed : (x : ℕ) → x < 16 → product (product x x) x ≡ 0 → x ≡ 0
    cubed zero h e = refl
    cubed (suc x) h e =
        let z : product (suc x) (suc x) % 16 ≡ 0 = product-zero (product (suc x) (suc x)) (suc x) h (omega arith) e in
        square-zero (suc x) h (sym (mod-eq_of_lt (product_lt (suc x) (suc x))) ∙ z)

abbrev Sums : ℕ → List ℕ → (ℕ → ℕ) → List ℕ → Type 0
Sums t s f ks = (j : ℕ) → j < t + t → total f (suc j) ks ≡ get_or s j 0

-- where the first sum is 0 too, there is no error
nothing : (s2 s3 s4 s5 s6 t : ℕ) → t ≤ 3 → (2 ≤ t → minor_two 0 s2 s2 s3 ≡ 0) → (3 ≤ t → minor 0 s2 s3 s4 s5 ≡ 0)
    → (f : ℕ → ℕ) (ks : List ℕ) → Rising 0 ks → length ks ≤ t → Sums t (0 ∷ s2 ∷ s3 ∷ s4 ∷ s5 ∷ s6 ∷ []) f ks → (i : ℕ) → total f i ks ≡ 0
nothing s2 s3 s4 s5 s6 t to two top f ks r n h i = total-of-zeros f i ks (vanish ks 0 f r rows)
  where
    two-zero : 2 ≤ t → s2 ≡ 0
    two-zero k = second s2 s3 (rw (h 1 (omega arith)) at (total-lt f 2 ks)) (two k)

    three-zero : 3 ≤ t → s3 ≡ 0
    three-zero k =
        third s3 s4 s5 (rw (h 2 (omega arith)) at (total-lt f 3 ks))
        (ap (λ (x : ℕ). minor 0 x s3 s4 s5) (sym (two-zero (omega arith))) ∙ top k)

    rows : (j : ℕ) → 0 < j → j ≤ length ks → total f j ks ≡ 0
    rows zero p q = absurd (omega arith)
    rows (suc zero) p q = h 0 (omega arith)
    rows (suc (suc zero)) p q = h 1 (omega arith) ∙ two-zero (omega arith)
    rows (suc (suc (suc zero))) p q = h 2 (omega arith) ∙ three-zero (omega arith)
    rows (suc (suc (suc (suc j)))) p q = absurd (omega arith)

-- the third sum, read off or by the rule
third-sum : (t u r1 s2 s3 : ℕ) (s : ℕ → ℕ) → 1 ≤ t → (t ≡ 1 → u ≡ product r1 s2) → (2 ≤ t → u ≡ s3) → (2 ≤ t → s 3 ≡ s3) → s 2 ≡ s2
    → Recurs r1 0 0 s → s 3 ≡ u
third-sum zero u r1 s2 s3 s from a b c d e = absurd (omega arith)
third-sum (suc zero) u r1 s2 s3 s from a b c d e =
    e 0
    ∙ ap₂ (λ (x y : ℕ). sum (sum x y) (product r1 (s 2))) (zero-product (s 1)) (zero-product (s 0))
    ∙ ap (λ (x : ℕ). sum x (product r1 (s 2))) (sum-zero 0)
    ∙ zero-sum (product r1 (s 2))
    ∙ ap (λ (x : ℕ). product r1 x) d
    ∙ sym (a refl)
third-sum (suc (suc t)) u r1 s2 s3 s from a b c d e = c (omega arith) ∙ sym (b (omega arith))

recurs-nothing : (r1 r2 r3 : ℕ) (s : ℕ → ℕ) → ((n : ℕ) → s n ≡ 0) → Recurs r1 r2 r3 s
recurs-nothing r1 r2 r3 s e n =
    e (suc (suc (suc n)))
    ∙ sym (rw (e (suc n), e n, e (suc (suc n))) (simp (product-by-zero, sum-zero)))

pub locator-one : (s1 s2 s3 s4 s5 s6 t u : ℕ) → 1 ≤ t → t ≤ 3 → s1 < 16 → (2 ≤ t → minor_two s1 s2 s2 s3 ≡ 0)
    → (3 ≤ t → minor s1 s2 s3 s4 s5 ≡ 0)
    → (t ≡ 1 → u ≡ product (product (inverse s1) s2) s2) → (2 ≤ t → u ≡ s3)
    → Follows t (s1 ∷ s2 ∷ s3 ∷ s4 ∷ s5 ∷ s6 ∷ []) (product (inverse s1) s2) 0 0 u
locator-one zero s2 s3 s4 s5 s6 t u from to l two top a b f ks r n h =
    let e = recurs-nothing (product (inverse 0) s2) 0 0 (λ i. total f i ks) (nothing s2 s3 s4 s5 s6 t to two top f ks r n h) in
    (e, third-sum t u (product (inverse 0) s2) s2 s3 (λ i. total f i ks) from a b (λ k. h 2 (omega arith)) (h 1 (omega arith)) e)
locator-one (suc s1) s2 s3 s4 s5 s6 t u from to l two top a b f ks r n h =
    let e = single (suc s1) s2 s3 s4 s5 s6 t to l (omega arith) two top f ks r n h in
    (e, third-sum t u (product (inverse (suc s1)) s2) s2 s3 (λ i. total f i ks) from a b (λ k. h 2 (omega arith)) (h 1 (omega arith)) e)
