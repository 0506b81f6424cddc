-- The hash that is computed is the one that A.24 says (`hash-is`), and there is no other (`hash-only`), for every polynomial p of degree n.
-- Assumes nothing.
use mathlib.Core.Path.{◌≡◌, refl, sym, ap, ap₂, ◌∙◌}
use mathlib.Core.Bool.{Bool, true, false}
use mathlib.Core.List.{List, [], ◌∷◌}
use Prim.Native.Nat.{ℕ, zero, suc, ◌+◌, ◌*◌, ◌/◌, ◌^◌, ◌≤◌, ◌<◌}
use native.Mathlib.Omega.{arith}
use native.Mathlib.Nat.{two-pow-succ, add-zero, zero-mul, one-mul, mul_comm, mul_assoc, div-add-mod', mod-lt}
use native.Mathlib.Nat.{div-lt_iff_lt-mul, le-div_iff_mul-le}
use lib.Bits.{bit_xor, xor_shifted, xor_block, xor_lt, xor_shr, xor_zero_l}
use lib.Pow.{pow_pos}
use lib.Dec.{ltb}
use borrow.Author.Tests.{ltb-true, ltb-false}
use Rattle.gf16.specs.Field.{sum}
use Rattle.gf16.proofs.Laws.{sum-assoc, sum_comm, sum_left, sum_self, sum-zero, zero-sum, cancel, sum_same}
use Rattle.slot_laws.specs.Hash.{Bits, poly, multiple, Divides, Degree, IsHash, pushed, hash}

-- ---- sums of shifted numbers

pub sum_shifted : (a k b : ℕ) → b < 2 ^ k → sum (a * 2 ^ k) b ≡ a * 2 ^ k + b
unfolding sum
sum_shifted a k b h = xor_shifted a k b h

pub sum_below : (k a b : ℕ) → a < 2 ^ k → b < 2 ^ k → sum a b < 2 ^ k
unfolding sum
sum_below k a b p q = xor_lt k a b p q

pub sum-shr : (a b k : ℕ) → sum a b / 2 ^ k ≡ sum (a / 2 ^ k) (b / 2 ^ k)
unfolding sum
sum-shr a b k = xor_shr a b k

pub sum-scale : (a b k : ℕ) → sum (a * 2 ^ k) (b * 2 ^ k) ≡ sum a b * 2 ^ k
unfolding sum
sum-scale a b k =
    let z : 0 < 2 ^ k = pow_pos k in
    let e = xor_block k a b 0 0 z z in
    let x : bit_xor 0 0 ≡ 0 = xor_zero_l 0 in
    let l : bit_xor (a * 2 ^ k) (b * 2 ^ k) ≡ bit_xor (a * 2 ^ k + 0) (b * 2 ^ k + 0) =
    ap₂ bit_xor (sym (add-zero (a * 2 ^ k))) (sym (add-zero (b * 2 ^ k))) in
    l ∙ e ∙ ap (λ (y : ℕ). bit_xor a b * 2 ^ k + y) x ∙ add-zero (bit_xor a b * 2 ^ k)

pub sum-double : (a b : ℕ) → sum (2 * a) (2 * b) ≡ 2 * sum a b
sum-double a b = ap₂ sum (mul_comm 2 a) (mul_comm 2 b) ∙ sum-scale a b 1 ∙ mul_comm (sum a b) 2

low_of : (v n : ℕ) → v / 2 ^ n ≡ 0 → v < 2 ^ n
low_of v n e =
    let d = div-add-mod' v (2 ^ n) in
    let m = mod-lt v (pow_pos n) in
    let z : v / 2 ^ n * 2 ^ n ≡ 0 = ap (λ (x : ℕ). x * 2 ^ n) e ∙ zero-mul (2 ^ n) in
    omega arith

-- the leading coefficient of p
leads : (p n : ℕ) → Degree p n → p / 2 ^ n ≡ 1
leads p n d =
    let a : p / 2 ^ n < 2 = (div-lt_iff_lt-mul (pow_pos n)).1 (omega (arith, d.to, two-pow-succ n)) in
    let b : 1 ≤ p / 2 ^ n = (le-div_iff_mul-le (pow_pos n)).1 (omega (arith, d.from)) in
    omega arith

-- ---- the hash is one

-- c is the coefficient that c p takes off
reduced-below : (p n v : ℕ) (c : ℕ) → Degree p n → c < 2 → v / 2 ^ n ≡ c → sum v (c * p) / 2 ^ n ≡ 0
reduced-below p n v zero d h e = ap (λ (x : ℕ). sum v x / 2 ^ n) (zero-mul p) ∙ ap (λ (x : ℕ). x / 2 ^ n) (sum-zero v) ∙ e
reduced-below p n v (suc zero) d h e =
    sum-shr v (1 * p) n ∙ ap₂ sum e (ap (λ (x : ℕ). x / 2 ^ n) (one-mul p) ∙ leads p n d) ∙ sum_self 1
reduced-below p n v (suc (suc c)) d h e = absurd (omega arith)

pub bit-lt : (b n : ℕ) → b < 2 → b * 2 ^ n < 2 ^ suc n
bit-lt zero n h = omega (arith, zero-mul (2 ^ n), pow_pos (suc n))
bit-lt (suc zero) n h = omega (arith, one-mul (2 ^ n), two-pow-succ n, pow_pos n)
bit-lt (suc (suc b)) n h = absurd (omega arith)

pub pushed-lt : (p n b r : ℕ) → Degree p n → b < 2 → r < 2 ^ n → pushed p n b r < 2 ^ n
unfolding pushed
pushed-lt p n b r d h l =
    let v : ℕ = sum (2 * r) (b * 2 ^ n) in
    let w : v < 2 ^ suc n = sum_below (suc n) (2 * r) (b * 2 ^ n) (omega (arith, two-pow-succ n)) (bit-lt b n h) in
    let c : v / 2 ^ n < 2 = (div-lt_iff_lt-mul (pow_pos n)).1 (omega (arith, two-pow-succ n)) in
    low_of (sum v (v / 2 ^ n * p)) n (reduced-below p n v (v / 2 ^ n) d c refl)

pub hash-lt : (p n : ℕ) (bs : List ℕ) → Degree p n → Bits bs → hash p n bs < 2 ^ n
unfolding hash
hash-lt p n [] d h = pow_pos n
hash-lt p n (b ∷ bs) d h = pushed-lt p n b (hash p n bs) d h.0 (hash-lt p n bs d h.1)

pub ruleset xors = (sum-assoc, sum_comm, sum_left, cancel, sum_self, sum-zero, zero-sum)

-- r (one power up), b and c p, regrouped
regroup : (r b c t : ℕ) → sum c (sum t r) ≡ sum (sum t b) (sum (sum r b) c)
regroup r b c t = simp xors

-- the bits one power up, and one more
bits_up : (b t n : ℕ) → b < 2 → (b + 2 * t) * 2 ^ n ≡ sum (2 * (t * 2 ^ n)) (b * 2 ^ n)
bits_up b t n h =
    let e : sum (t * 2 ^ 1) b ≡ t * 2 ^ 1 + b = sum_shifted t 1 b h in
    let k : t * 2 ^ 1 + b ≡ b + 2 * t = omega arith in
    let m : t * 2 ^ 1 * 2 ^ n ≡ 2 * (t * 2 ^ n) = ap (λ (x : ℕ). x * 2 ^ n) (mul_comm t 2) ∙ mul_assoc 2 t (2 ^ n) in
    ap (λ (x : ℕ). x * 2 ^ n) (sym (e ∙ k)) ∙ sym (sum-scale (t * 2 ^ 1) b n) ∙ ap (λ (x : ℕ). sum x (b * 2 ^ n)) m

pushed-divides : (p n b r t : ℕ) → Degree p n → b < 2 → r < 2 ^ n → Divides p (r + t * 2 ^ n)
    → Divides p (pushed p n b r + (b + 2 * t) * 2 ^ n)
unfolding multiple pushed
pushed-divides p n b r t d h l q =
    let v : ℕ = sum (2 * r) (b * 2 ^ n) in
    let w : v < 2 ^ suc n = sum_below (suc n) (2 * r) (b * 2 ^ n) (omega (arith, two-pow-succ n)) (bit-lt b n h) in
    let c : v / 2 ^ n < 2 = (div-lt_iff_lt-mul (pow_pos n)).1 (omega (arith, two-pow-succ n)) in
    let s : sum v (v / 2 ^ n * p) < 2 ^ n = pushed-lt p n b r d h l in
    let m : multiple q.quotient p ≡ sum (t * 2 ^ n) r = q.product_is ∙ omega arith ∙ sym (sum_shifted t n r l) in
    let k : 2 * multiple q.quotient p ≡ sum (2 * (t * 2 ^ n)) (2 * r) = ap (λ (x : ℕ). 2 * x) m ∙ sym (sum-double (t * 2 ^ n) r) in
    let e : sum (v / 2 ^ n * p) (2 * multiple q.quotient p) ≡ sum (sum (2 * (t * 2 ^ n)) (b * 2 ^ n)) (sum v (v / 2 ^ n * p)) =
    ap (λ (x : ℕ). sum (v / 2 ^ n * p) x) k ∙ regroup (2 * r) (b * 2 ^ n) (v / 2 ^ n * p) (2 * (t * 2 ^ n)) in
    let f : sum (sum (2 * (t * 2 ^ n)) (b * 2 ^ n)) (sum v (v / 2 ^ n * p)) ≡ (b + 2 * t) * 2 ^ n + sum v (v / 2 ^ n * p) =
    ap (λ (x : ℕ). sum x (sum v (v / 2 ^ n * p))) (sym (bits_up b t n h)) ∙ sum_shifted (b + 2 * t) n (sum v (v / 2 ^ n * p)) s in
    record { quotient = v / 2 ^ n ∷ q.quotient; bits = (c, q.bits); product_is = e ∙ f ∙ omega arith }

pub hash-is : (p n : ℕ) (bs : List ℕ) → Degree p n → Bits bs → IsHash p n bs (hash p n bs)
unfolding hash poly multiple
hash-is p n [] d h = record {
  short = pow_pos n;
  divides = record { quotient = []; bits = tt; product_is = let z = zero-mul (2 ^ n) in omega arith };
}
hash-is p n (b ∷ bs) d h =
    let i = hash-is p n bs d h.1 in
    record {
      short = pushed-lt p n b (hash p n bs) d h.0 i.short;
      divides = pushed-divides p n b (hash p n bs) (poly bs) d h.0 i.short i.divides;
    }

-- ---- there is no other

-- sums of coefficients
sums : List ℕ → List ℕ → List ℕ
sums [] ds = ds
sums (c ∷ cs) [] = c ∷ cs
sums (c ∷ cs) (d ∷ ds) = sum c d ∷ sums cs ds

bits-sums : (cs ds : List ℕ) → Bits cs → Bits ds → Bits (sums cs ds)
unfolding sums
bits-sums [] ds h k = k
bits-sums (c ∷ cs) [] h k = h
bits-sums (c ∷ cs) (d ∷ ds) h k = (sum_below 1 c d h.0 k.0, bits-sums cs ds h.1 k.1)

pub bit-times : (c d p : ℕ) → c < 2 → d < 2 → sum c d * p ≡ sum (c * p) (d * p)
bit-times zero d p h k = ap (λ (x : ℕ). x * p) (zero-sum d) ∙ sym (ap (λ (x : ℕ). sum x (d * p)) (zero-mul p) ∙ zero-sum (d * p))
bit-times (suc zero) zero p h k = ap (λ (x : ℕ). x * p) (sum-zero 1) ∙ sym (ap (λ (x : ℕ). sum (1 * p) x) (zero-mul p) ∙ sum-zero (1 * p))
bit-times (suc zero) (suc zero) p h k = ap (λ (x : ℕ). x * p) (sum_self 1) ∙ zero-mul p ∙ sym (sum_self (1 * p))
bit-times (suc zero) (suc (suc d)) p h k = absurd (omega arith)
bit-times (suc (suc c)) d p h k = absurd (omega arith)

pub exchange : (a b c d : ℕ) → sum (sum a b) (sum c d) ≡ sum (sum a c) (sum b d)
exchange a b c d = simp xors

common : (x r q : ℕ) → sum (sum x r) (sum x q) ≡ sum r q
common x r q = exchange x r x q ∙ ap (λ (y : ℕ). sum y (sum r q)) (sum_self x) ∙ zero-sum (sum r q)

multiple-sums : (p : ℕ) (cs ds : List ℕ) → Bits cs → Bits ds → multiple (sums cs ds) p ≡ sum (multiple cs p) (multiple ds p)
unfolding multiple sums
multiple-sums p [] ds h k = sym (zero-sum (multiple ds p))
multiple-sums p (c ∷ cs) [] h k = sym (sum-zero (sum (c * p) (2 * multiple cs p)))
multiple-sums p (c ∷ cs) (d ∷ ds) h k =
    ap₂ sum (bit-times c d p h.0 k.0)
    (ap (λ (x : ℕ). 2 * x) (multiple-sums p cs ds h.1 k.1) ∙ sym (sum-double (multiple cs p) (multiple ds p)))
    ∙ exchange (c * p) (d * p) (2 * multiple cs p) (2 * multiple ds p)

-- what p takes to a higher power stays there
high-stays : (n a m : ℕ) → a < 2 ^ suc n → 2 ^ n ≤ m → 2 ^ suc n ≤ sum a (2 * m)
high-stays n a m h k = go (ltb (sum a (2 * m)) (2 ^ suc n)) refl
  where
    go : (b : Bool) → ltb (sum a (2 * m)) (2 ^ suc n) ≡ b → 2 ^ suc n ≤ sum a (2 * m)
    go true e =
        let l = ltb-true (sum a (2 * m)) (2 ^ suc n) e in
        let s : 2 * m < 2 ^ suc n = rw (cancel a (2 * m)) at (sum_below (suc n) a (sum a (2 * m)) h l) in
        absurd (omega (arith, two-pow-succ n))
    go false e = ltb-false (sum a (2 * m)) (2 ^ suc n) e

small-step : (p n c m : ℕ) → Degree p n → c < 2 → (m < 2 ^ n → m ≡ 0) → sum (c * p) (2 * m) < 2 ^ n → sum (c * p) (2 * m) ≡ 0
small-step p n zero m d h i l =
    let e : sum (0 * p) (2 * m) ≡ 2 * m = ap (λ (x : ℕ). sum x (2 * m)) (zero-mul p) ∙ zero-sum (2 * m) in
    let z : m ≡ 0 = i (omega arith) in
    omega arith
small-step p n (suc zero) m d h i l = go (ltb m (2 ^ n)) refl
  where
    go : (b : Bool) → ltb m (2 ^ n) ≡ b → sum (1 * p) (2 * m) ≡ 0
    go true e =
        let z : m ≡ 0 = i (ltb-true m (2 ^ n) e) in
        let y : 2 * m ≡ 0 = omega arith in
        let k : sum (1 * p) (2 * m) ≡ 1 * p = ap (λ (x : ℕ). sum (1 * p) x) y ∙ sum-zero (1 * p) in
        absurd (omega (arith, d.from))
    go false e =
        let t : 1 * p < 2 ^ suc n = omega (arith, d.to) in
        let k = high-stays n (1 * p) m t (ltb-false m (2 ^ n) e) in
        absurd (omega (arith, two-pow-succ n))
small-step p n (suc (suc c)) m d h i l = absurd (omega arith)

-- a multiple of p below x^n is 0
small-multiple : (p n : ℕ) (cs : List ℕ) → Degree p n → Bits cs → multiple cs p < 2 ^ n → multiple cs p ≡ 0
unfolding multiple
small-multiple p n [] d h l = refl
small-multiple p n (c ∷ cs) d h l = small-step p n c (multiple cs p) d h.0 (small-multiple p n cs d h.1) l

pub hash-only : (p n : ℕ) (bs : List ℕ) (r q : ℕ) → Degree p n → IsHash p n bs r → IsHash p n bs q → r ≡ q
hash-only p n bs r q d h k =
    let x : ℕ = poly bs * 2 ^ n in
    let a = h.divides in
    let b = k.divides in
    let e : multiple a.quotient p ≡ sum x r = a.product_is ∙ omega arith ∙ sym (sum_shifted (poly bs) n r h.short) in
    let f : multiple b.quotient p ≡ sum x q = b.product_is ∙ omega arith ∙ sym (sum_shifted (poly bs) n q k.short) in
    let m : multiple (sums a.quotient b.quotient) p ≡ sum r q =
    multiple-sums p a.quotient b.quotient a.bits b.bits ∙ ap₂ sum e f ∙ common x r q in
    let l : multiple (sums a.quotient b.quotient) p < 2 ^ n = rw m (sum_below n r q h.short k.short) in
    let z = small-multiple p n (sums a.quotient b.quotient) d (bits-sums a.quotient b.quotient a.bits b.bits) l in
    sum_same r q (sym m ∙ z)
