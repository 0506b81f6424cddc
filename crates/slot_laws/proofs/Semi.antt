-- Bytes as semi-octets and back, each the other's inverse; the frame's semi-octets in reversed byte order and back.
-- Assumes nothing.
use mathlib.Core.Path.{◌≡◌, refl, sym, ap, ap₂, ◌∙◌}
use mathlib.Core.List.{List, [], ◌∷◌}
use Prim.Native.Nat.{ℕ, zero, suc, ◌+◌, ◌*◌, ◌-◌, ◌/◌, ◌%◌, ◌<◌}
use native.Mathlib.Omega.{arith}
use lib.ListN.{length, get_or}
use Rattle.laws.specs.Tab.{tab, Below}
use Rattle.laws.proofs.Tab.{length-tab, get_or-tab, tab-is, tab-same, below-tab}
use Rattle.code_word_laws.specs.Word.{SemiOctets}
use Rattle.slot_laws.specs.Semi.{Bytes, half, semi, pack}
use Rattle.slot_laws.specs.Order.{unrolled}
use Rattle.slot_laws.specs.Back.{rolled}

-- a list of semi-octets, said of its elements and of its places
pub semi-octets-of : (l : List ℕ) → Below 16 l → SemiOctets l
semi-octets-of [] h = tt
semi-octets-of (x ∷ l) h = (h 0, semi-octets-of l (λ i. h (suc i)))

pub below_of : (l : List ℕ) → SemiOctets l → Below 16 l
below_of [] h i = omega arith
below_of (x ∷ l) h zero = h.0
below_of (x ∷ l) h (suc i) = below_of l h.1 i

half_lt : (r b : ℕ) → half r b < 16
unfolding half
half_lt zero b = omega arith
half_lt (suc r) b = omega arith

pub semi-lt : (s : List ℕ) (p : ℕ) → semi s p < 16
unfolding semi
semi-lt s p = half_lt (p % 2) (get_or s (p / 2) 0)

pub length-pack : (f : ℕ → ℕ) (n : ℕ) → length (pack f n) ≡ n
unfolding pack
length-pack f n = length-tab (λ j. f (2 * j) + 16 * f (2 * j + 1)) n

pub below-pack : (f : ℕ → ℕ) (n : ℕ) → ((p : ℕ) → p < 2 * n → f p < 16) → Below 256 (pack f n)
unfolding pack
below-pack f n h =
    below-tab 256 (λ j. f (2 * j) + 16 * f (2 * j + 1)) n (omega arith)
    (λ j l. let a = h (2 * j) (omega arith) in let b = h (2 * j + 1) (omega arith) in omega arith)

pub bytes-pack : (f : ℕ → ℕ) (n : ℕ) → ((p : ℕ) → p < 2 * n → f p < 16) → Bytes n (pack f n)
bytes-pack f n h = record { long = length-pack f n; below = below-pack f n h }

pub pack-same : (f g : ℕ → ℕ) (n : ℕ) → ((p : ℕ) → p < 2 * n → f p ≡ g p) → pack f n ≡ pack g n
unfolding pack
pack-same f g n h =
    tab-same (λ j. f (2 * j) + 16 * f (2 * j + 1)) (λ j. g (2 * j) + 16 * g (2 * j + 1)) n
    (λ j l. ap₂ (λ (x y : ℕ). x + 16 * y) (h (2 * j) (omega arith)) (h (2 * j + 1) (omega arith)))

-- what was put at a place stands there
pub semi-pack : (f : ℕ → ℕ) (n p : ℕ) → ((p : ℕ) → p < 2 * n → f p < 16) → p < 2 * n → semi (pack f n) p ≡ f p
unfolding semi pack half
semi-pack f n p h l =
    let q : p / 2 < n = omega arith in
    rw (get_or-tab (λ j. f (2 * j) + 16 * f (2 * j + 1)) n (p / 2) q) (go (p % 2) refl)
  where
    lo : f (2 * (p / 2)) < 16
    lo = h (2 * (p / 2)) (omega arith)

    hi : f (2 * (p / 2) + 1) < 16
    hi = h (2 * (p / 2) + 1) (omega arith)

    go : (r : ℕ) → p % 2 ≡ r → half r (f (2 * (p / 2)) + 16 * f (2 * (p / 2) + 1)) ≡ f p
    go zero e =
        let k : 2 * (p / 2) ≡ p = omega arith in
        let a : (f (2 * (p / 2)) + 16 * f (2 * (p / 2) + 1)) % 16 ≡ f (2 * (p / 2)) = omega (arith, lo) in
        a ∙ ap f k
    go (suc zero) e =
        let k : 2 * (p / 2) + 1 ≡ p = omega arith in
        let a : (f (2 * (p / 2)) + 16 * f (2 * (p / 2) + 1)) / 16 % 16 ≡ f (2 * (p / 2) + 1) = omega (arith, lo, hi) in
        a ∙ ap f k
    go (suc (suc r)) e = absurd (omega arith)

-- bytes are packed from their own semi-octets
pub pack-semi : (s : List ℕ) (n : ℕ) → Bytes n s → pack (semi s) n ≡ s
unfolding pack semi half
pack-semi s n h = tab-is (λ j. semi s (2 * j) + 16 * semi s (2 * j + 1)) n s h.long (λ j l. go j)
  where
    go : (j : ℕ) → semi s (2 * j) + 16 * semi s (2 * j + 1) ≡ get_or s j 0
    go j =
        let a : 2 * j % 2 ≡ 0 = omega arith in
        let b : 2 * j / 2 ≡ j = omega arith in
        let c : (2 * j + 1) % 2 ≡ 1 = omega arith in
        let d : (2 * j + 1) / 2 ≡ j = omega arith in
        let l : get_or s j 0 < 256 = h.below j in
        rw (a, b, c, d) (omega arith)

-- bytes with the same semi-octets are the same
pub semi_same : (s t : List ℕ) (n : ℕ) → Bytes n s → Bytes n t → ((p : ℕ) → p < 2 * n → semi s p ≡ semi t p) → s ≡ t
semi_same s t n h k e = sym (pack-semi s n h) ∙ pack-same (semi s) (semi t) n e ∙ pack-semi t n k

-- ---- the frame's semi-octets (A.16, A.17)

pub length-unrolled : (n : ℕ) (frame : List ℕ) → length (unrolled n frame) ≡ 2 * n
unfolding unrolled
length-unrolled n frame = length-tab (λ k. semi frame (2 * n - 1 - k)) (2 * n)

pub below-unrolled : (n : ℕ) (frame : List ℕ) → Below 16 (unrolled n frame)
unfolding unrolled
below-unrolled n frame = below-tab 16 (λ k. semi frame (2 * n - 1 - k)) (2 * n) (omega arith) (λ i l. semi-lt frame (2 * n - 1 - i))

pub bytes-rolled : (n : ℕ) (a : List ℕ) → Below 16 a → Bytes n (rolled n a)
unfolding rolled
bytes-rolled n a h = bytes-pack (λ p. get_or a (2 * n - 1 - p) 0) n (λ p l. h (2 * n - 1 - p))

pub rolled-unrolled : (n : ℕ) (frame : List ℕ) → Bytes n frame → rolled n (unrolled n frame) ≡ frame
unfolding rolled unrolled
rolled-unrolled n frame h =
    pack-same (λ p. get_or (tab (λ k. semi frame (2 * n - 1 - k)) (2 * n)) (2 * n - 1 - p) 0) (semi frame) n
    (λ p l.
    let q : 2 * n - 1 - p < 2 * n = omega arith in
    let e : 2 * n - 1 - (2 * n - 1 - p) ≡ p = omega arith in
    get_or-tab (λ k. semi frame (2 * n - 1 - k)) (2 * n) (2 * n - 1 - p) q ∙ ap (semi frame) e)
    ∙ pack-semi frame n h

pub unrolled-rolled : (n : ℕ) (a : List ℕ) → length a ≡ 2 * n → Below 16 a → unrolled n (rolled n a) ≡ a
unfolding rolled unrolled
unrolled-rolled n a e h =
    tab-is (λ k. semi (pack (λ p. get_or a (2 * n - 1 - p) 0) n) (2 * n - 1 - k)) (2 * n) a e
    (λ k l.
    let q : 2 * n - 1 - k < 2 * n = omega arith in
    let d : 2 * n - 1 - (2 * n - 1 - k) ≡ k = omega arith in
    semi-pack (λ p. get_or a (2 * n - 1 - p) 0) n (2 * n - 1 - k) (λ p m. h (2 * n - 1 - p)) q ∙ ap (λ (x : ℕ). get_or a x 0) d)
