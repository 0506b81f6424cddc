-- The bytes of a number and the number of the first bytes, and the number of a list of bits. Assumes nothing.
use mathlib.Core.Path.{◌≡◌, refl, sym, ap, ◌∙◌}
use mathlib.Core.List.{List, [], ◌∷◌, ◌++◌}
use Prim.Native.Nat.{ℕ, zero, suc, ◌+◌, ◌-◌, ◌*◌, ◌/◌, ◌%◌, ◌^◌, ◌≤◌, ◌<◌}
use native.Mathlib.Omega.{arith}
use native.Mathlib.Nat.{add-zero, zero-add, mul-add, mul_assoc, mul-one, div-add-mod', div-eq_of_lt, div-one, zero-div, mod-lt}
use native.Mathlib.Nat.{two-pow-succ}
use lib.Arith.{digits_div, digits_mod}
use lib.ListN.{length, get_or}
use lib.Pow.{pow-add, shr-shr}
use Rattle.laws.specs.Tab.{Below}
use Rattle.laws.proofs.Tab.{length-tab, get_or-tab, below-tab}
use Rattle.writer_laws.specs.Ending.{digits}
use Rattle.writer_laws.specs.SideBits.{number_of}
use Rattle.writer_laws.specs.Stream.{front_of}

-- ---- the bytes of a number

pub length_digits : (n x : ℕ) → length (digits n x) ≡ n
unfolding digits
length_digits n x = length-tab (λ i. x / 2 ^ (8 * (n - 1 - i)) % 256) n

pub get_or-digits : (n x i : ℕ) → i < n → get_or (digits n x) i 0 ≡ x / 2 ^ (8 * (n - 1 - i)) % 256
unfolding digits
get_or-digits n x i h = get_or-tab (λ i. x / 2 ^ (8 * (n - 1 - i)) % 256) n i h

pub below-digits : (n x : ℕ) → Below 256 (digits n x)
unfolding digits
below-digits n x =
    below-tab 256 (λ i. x / 2 ^ (8 * (n - 1 - i)) % 256) n (omega arith)
    (λ i h. mod-lt (x / 2 ^ (8 * (n - 1 - i))) (omega arith))

-- a number shifted by a byte less, and by the byte
byte_more : (x a b : ℕ) → b ≡ a + 1 → x / 2 ^ (8 * b) * 256 + x / 2 ^ (8 * a) % 256 ≡ x / 2 ^ (8 * a)
byte_more x a b e =
    let s : 8 * b ≡ 8 * a + 8 = omega arith in
    let d : x / 2 ^ (8 * b) ≡ x / 2 ^ (8 * a) / 256 = ap (λ (y : ℕ). x / 2 ^ y) s ∙ sym (shr-shr x (8 * a) 8) in
    rw d (div-add-mod' (x / 2 ^ (8 * a)) 256)

-- the first a of the n bytes of a number are its highest part
pub front-digits : (n x a : ℕ) → x < 2 ^ (8 * n) → a ≤ n → front_of (digits n x) a ≡ x / 2 ^ (8 * (n - a))
unfolding front_of
front-digits n x zero h l = let e : n - 0 ≡ n = omega arith in rw e (sym (div-eq_of_lt h))
front-digits n x (suc a) h l =
    let e : n - 1 - a ≡ n - suc a = omega arith in
    let f : n - a ≡ n - suc a + 1 = omega arith in
    let g : get_or (digits n x) a 0 ≡ x / 2 ^ (8 * (n - suc a)) % 256 =
    get_or-digits n x a l ∙ ap (λ (k : ℕ). x / 2 ^ (8 * k) % 256) e in
    rw (front-digits n x a h (omega arith), g) (byte_more x (n - suc a) (n - a) f)

-- ---- the number of the first bytes

pub front-next : (s : List ℕ) (n : ℕ) → front_of s (n + 1) ≡ front_of s n * 256 + get_or s n 0
unfolding front_of
front-next s n = let e : n + 1 ≡ suc n = omega arith in ap (front_of s) e

-- lists that agree in their first n bytes
pub front_same : (s t : List ℕ) (n : ℕ) → ((i : ℕ) → i < n → get_or s i 0 ≡ get_or t i 0) → front_of s n ≡ front_of t n
unfolding front_of
front_same s t zero h = refl
front_same s t (suc n) h = rw (front_same s t n (λ i p. h i (omega arith)), h n (omega arith))

-- the first of more bytes are their number's highest part
pub front-part : (s : List ℕ) → Below 256 s → (a d : ℕ) → front_of s (a + d) / 2 ^ (8 * d) ≡ front_of s a
unfolding front_of
front-part s h a zero = let e : a + 0 ≡ a = omega arith in rw e (div-one (front_of s a))
front-part s h a (suc d) =
    let e : a + suc d ≡ suc (a + d) = omega arith in
    let f : 8 * suc d ≡ 8 + 8 * d = omega arith in
    let g : (front_of s (a + d) * 256 + get_or s (a + d) 0) / 256 ≡ front_of s (a + d) = digits_div (front_of s (a + d)) (h (a + d)) in
    rw (e, f)
    (sym (shr-shr (front_of s (a + d) * 256 + get_or s (a + d) 0) 8 (8 * d)) ∙ ap (λ (y : ℕ). y / 2 ^ (8 * d)) g ∙ front-part s h a d)

-- each byte is a digit of the number of n bytes
pub byte-front : (s : List ℕ) → Below 256 s → (n i : ℕ) → i < n → get_or s i 0 ≡ front_of s n / 2 ^ (8 * (n - 1 - i)) % 256
byte-front s h n i l =
    let e : i + 1 + (n - 1 - i) ≡ n = omega arith in
    let f : front_of s n / 2 ^ (8 * (n - 1 - i)) ≡ front_of s i * 256 + get_or s i 0 =
    ap (λ (k : ℕ). front_of s k / 2 ^ (8 * (n - 1 - i))) (sym e) ∙ front-part s h (i + 1) (n - 1 - i) ∙ front-next s i in
    rw f (sym (digits_mod (front_of s i) (h i)))

-- zeros behind the first a bytes only shift their number
pub front-zeros : (s : List ℕ) (a d : ℕ) → ((i : ℕ) → a ≤ i → get_or s i 0 ≡ 0) → front_of s (a + d) ≡ front_of s a * 2 ^ (8 * d)
unfolding front_of
front-zeros s a zero h = let e : a + 0 ≡ a = omega arith in rw e (sym (mul-one (front_of s a)))
front-zeros s a (suc d) h =
    let e : a + suc d ≡ suc (a + d) = omega arith in
    let f : 8 * suc d ≡ 8 * d + 8 = omega arith in
    let z = h (a + d) (omega arith) in
    let r = front-zeros s a d h in
    let p : front_of s a * 2 ^ (8 * suc d) ≡ front_of s a * 2 ^ (8 * d) * 256 =
    ap (λ (y : ℕ). front_of s a * 2 ^ y) f ∙ ap (λ (y : ℕ). front_of s a * y) (pow-add 2 (8 * d) 8)
    ∙ sym (mul_assoc (front_of s a) (2 ^ (8 * d)) 256) in
    rw (e, p, r, z) (add-zero (front_of s a * 2 ^ (8 * d) * 256))

-- ---- the number of a list of bits

pub number_lt : (l : List ℕ) → Below 2 l → number_of l < 2 ^ length l
unfolding number_of
number_lt [] h = omega arith
number_lt (b ∷ l) h =
    let i = number_lt l (λ j. h (suc j)) in
    let d : 2 ^ suc (length l) ≡ 2 ^ length l + 2 ^ length l = two-pow-succ (length l) in
    let c : b < 2 = h 0 in
    omega arith

-- bit p is the list's entry p; past its end it is 0
pub number_bit : (l : List ℕ) → Below 2 l → (p : ℕ) → number_of l / 2 ^ p % 2 ≡ get_or l p 0
unfolding number_of
number_bit [] h p = rw (zero-div (2 ^ p)) refl
number_bit (b ∷ l) h zero =
    let c : b < 2 = h 0 in
    rw (div-one (b + 2 * number_of l)) (omega arith)
number_bit (b ∷ l) h (suc p) =
    let c : b < 2 = h 0 in
    let e : suc p ≡ 1 + p = omega arith in
    let d : (b + 2 * number_of l) / 2 ^ 1 ≡ number_of l = omega arith in
    rw e (ap (λ (y : ℕ). y % 2) (sym (shr-shr (b + 2 * number_of l) 1 p) ∙ ap (λ (y : ℕ). y / 2 ^ p) d) ∙ number_bit l (λ j. h (suc j)) p)

-- bits written behind others count from there on
pub number_append : (l m : List ℕ) → number_of (l ++ m) ≡ number_of l + number_of m * 2 ^ length l
unfolding number_of
number_append [] m = sym (zero-add (number_of m * 1) ∙ mul-one (number_of m))
number_append (b ∷ l) m =
    let i = number_append l m in
    let d : number_of m * 2 ^ suc (length l) ≡ number_of m * 2 ^ length l + number_of m * 2 ^ length l =
    ap (λ (y : ℕ). number_of m * y) (two-pow-succ (length l)) ∙ mul-add (number_of m) (2 ^ length l) (2 ^ length l) in
    omega arith
