-- Laws of lists and sums that are given by a function of the place: length, element, what such a list is, sums by parts.
-- Assumes nothing.
use mathlib.Core.Path.{◌≡◌, refl, sym, ap, ap₂, ◌∙◌}
use mathlib.Core.List.{List, [], ◌∷◌, ◌++◌}
use Prim.Native.Nat.{ℕ, zero, suc, ◌+◌, ◌*◌, ◌-◌, ◌≤◌, ◌<◌}
use native.Mathlib.Omega.{arith}
use native.Mathlib.Nat.{suc-mul, mul-add, add-zero, zero-add, le_of_eq}
use lib.ListN.{length, get_or, take, drop}
use lib.Seq.{drop-cons, ext_get_or}
use Rattle.laws.specs.Tab.{tab, total, Below}

-- ---- lists

-- a list from one place earlier on
pub drop-back : (w : List ℕ) (i : ℕ) → 0 < i → i ≤ length w → drop (i - 1) w ≡ get_or w (i - 1) 0 ∷ drop i w
drop-back w i p h =
    let e : suc (i - 1) ≡ i = omega arith in
    drop-cons w (i - 1) 0 (omega arith) ∙ ap (λ (k : ℕ). get_or w (i - 1) 0 ∷ drop k w) e

pub length-tab : (f : ℕ → ℕ) (n : ℕ) → length (tab f n) ≡ n
unfolding tab
length-tab f zero = refl
length-tab f (suc n) = ap suc (length-tab (λ k. f (suc k)) n)

pub get_or-tab : (f : ℕ → ℕ) (n i : ℕ) → i < n → get_or (tab f n) i 0 ≡ f i
unfolding tab
get_or-tab f zero i h = absurd (omega arith)
get_or-tab f (suc n) zero h = refl
get_or-tab f (suc n) (suc i) h = get_or-tab (λ k. f (suc k)) n i (omega arith)

-- a list is the table of its elements
pub tab-is : (f : ℕ → ℕ) (n : ℕ) (l : List ℕ) → length l ≡ n → ((i : ℕ) → i < n → f i ≡ get_or l i 0) → tab f n ≡ l
tab-is f n l e h =
    ext_get_or 0 (tab f n) l (length-tab f n ∙ sym e)
    (λ i p. let q : i < n = omega (arith, length-tab f n) in get_or-tab f n i q ∙ h i q)

pub tab-same : (f g : ℕ → ℕ) (n : ℕ) → ((i : ℕ) → i < n → f i ≡ g i) → tab f n ≡ tab g n
tab-same f g n h = tab-is f n (tab g n) (length-tab g n) (λ i p. h i p ∙ sym (get_or-tab g n i p))

pub below-tab : (b : ℕ) (f : ℕ → ℕ) (n : ℕ) → 0 < b → ((i : ℕ) → i < n → f i < b) → Below b (tab f n)
unfolding tab
below-tab b f zero p h i = p
below-tab b f (suc n) p h zero = h 0 (omega arith)
below-tab b f (suc n) p h (suc i) = below-tab b (λ k. f (suc k)) n p (λ j q. h (suc j) (omega arith)) i

pub below-append : (b : ℕ) (s t : List ℕ) → Below b s → Below b t → Below b (s ++ t)
below-append b [] t p q i = q i
below-append b (x ∷ s) t p q zero = p 0
below-append b (x ∷ s) t p q (suc i) = below-append b s t (λ j. p (suc j)) q i

pub below-drop : (b n : ℕ) (s : List ℕ) → Below b s → Below b (drop n s)
below-drop b zero s p i = p i
below-drop b (suc n) [] p i = p 0
below-drop b (suc n) (x ∷ s) p i = below-drop b n s (λ j. p (suc j)) i

pub below-take : (b n : ℕ) (s : List ℕ) → 0 < b → Below b s → Below b (take n s)
below-take b zero s z p i = z
below-take b (suc n) [] z p i = z
below-take b (suc n) (x ∷ s) z p zero = p 0
below-take b (suc n) (x ∷ s) z p (suc i) = below-take b n s z (λ j. p (suc j)) i

-- ---- sums

pub total-same : (f g : ℕ → ℕ) (n : ℕ) → ((i : ℕ) → i < n → f i ≡ g i) → total f n ≡ total g n
unfolding total
total-same f g zero h = refl
total-same f g (suc n) h = ap₂ (λ (x y : ℕ). x + y) (total-same f g n (λ i p. h i (omega arith))) (h n (omega arith))

-- the first summand taken off
pub total-front : (f : ℕ → ℕ) (n : ℕ) → total f (suc n) ≡ f 0 + total (λ k. f (suc k)) n
unfolding total
total-front f zero = omega arith
total-front f (suc n) = let e = total-front f n in omega arith

pub total-next : (f : ℕ → ℕ) (n : ℕ) → total f (suc n) ≡ total f n + f n
unfolding total
total-next f n = refl

pub total-none : (f : ℕ → ℕ) → total f 0 ≡ 0
unfolding total
total-none f = refl

-- a sum of parts f i - c
pub total-less : (f : ℕ → ℕ) (c n : ℕ) → ((i : ℕ) → i < n → c ≤ f i) → total (λ i. f i - c) n + n * c ≡ total f n
unfolding total
total-less f c zero h = omega arith
total-less f c (suc n) h =
    let e = total-less f c n (λ i p. h i (omega arith)) in
    let m : suc n * c ≡ n * c + c = suc-mul n c in
    let k : c ≤ f n = h n (omega arith) in
    omega arith

total-longer : (f : ℕ → ℕ) (m d : ℕ) → total f m ≤ total f (m + d)
unfolding total
total-longer f m zero = le_of_eq (ap (total f) (sym (add-zero m)))
total-longer f m (suc d) =
    let e : m + suc d ≡ suc (m + d) = omega arith in
    let i = total-longer f m d in
    let k : total f (m + suc d) ≡ total f (m + d) + f (m + d) = ap (total f) e in
    omega arith

-- a sum grows with the number of summands
pub total-up : (f : ℕ → ℕ) (m n : ℕ) → m ≤ n → total f m ≤ total f n
total-up f m n h = let e : m + (n - m) ≡ n = omega arith in rw e at (total-longer f m (n - m))

-- a sum of n summands of at most c
pub total-most : (f : ℕ → ℕ) (c n : ℕ) → ((i : ℕ) → i < n → f i ≤ c) → total f n ≤ n * c
unfolding total
total-most f c zero h = omega arith
total-most f c (suc n) h =
    let e = total-most f c n (λ i p. h i (omega arith)) in
    let m : suc n * c ≡ n * c + c = suc-mul n c in
    let k : f n ≤ c = h n (omega arith) in
    omega arith

-- a sum whose summands are at most c times those of another
pub total-times : (f g : ℕ → ℕ) (c n : ℕ) → ((i : ℕ) → i < n → f i ≤ c * g i) → total f n ≤ c * total g n
unfolding total
total-times f g c zero h = omega arith
total-times f g c (suc n) h =
    let e = total-times f g c n (λ i p. h i (omega arith)) in
    let k : f n ≤ c * g n = h n (omega arith) in
    let m : c * (total g n + g n) ≡ c * total g n + c * g n = mul-add c (total g n) (g n) in
    omega arith

-- the last n of m + n summands
pub total-back : (f : ℕ → ℕ) (m n : ℕ) → total f (m + n) ≡ total f m + total (λ j. f (m + n - 1 - j)) n
unfolding total
total-back f m zero = ap (total f) (add-zero m) ∙ sym (add-zero (total f m))
total-back f m (suc n) =
    let e : m + suc n ≡ suc (m + n) = omega arith in
    let a : total f (m + suc n) ≡ total f (m + n) + f (m + n) = ap (total f) e in
    let i = total-back f m n in
    let b = total-front (λ j. f (m + suc n - 1 - j)) n in
    let s : total (λ k. f (m + suc n - 1 - suc k)) n ≡ total (λ j. f (m + n - 1 - j)) n =
    total-same (λ k. f (m + suc n - 1 - suc k)) (λ j. f (m + n - 1 - j)) n
    (λ j p. let q : m + suc n - 1 - suc j ≡ m + n - 1 - j = omega arith in ap f q) in
    let r : m + suc n - 1 - 0 ≡ m + n = omega arith in
    let z : f (m + suc n - 1 - 0) ≡ f (m + n) = ap f r in
    omega arith

-- a sum taken from the last summand down
pub total-turned : (f : ℕ → ℕ) (n : ℕ) → total f n ≡ total (λ j. f (n - 1 - j)) n
total-turned f n =
    let b : total f n ≡ total f 0 + total (λ j. f (n - 1 - j)) n = rw (zero-add n) at (total-back f 0 n) in
    let z = total-none f in
    omega arith

-- each summand of a sum that is 0 is 0
pub total-zero : (f : ℕ → ℕ) (n : ℕ) → total f n ≡ 0 → (i : ℕ) → i < n → f i ≡ 0
total-zero f n e i h =
    let a = total-up f (suc i) n h in
    let b = total-next f i in
    omega arith
