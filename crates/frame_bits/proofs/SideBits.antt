-- Bits of the side stream: the value of n bits is below 2 ^ n, a field inside the frame, and a field cut out of four bytes. Assumes
-- nothing.
use mathlib.Core.Path.{◌≡◌, refl, sym, ap, ◌∙◌}
use mathlib.Core.Bool.{Bool, true, false}
use mathlib.Core.List.{List}
use Prim.Native.Nat.{ℕ, zero, suc, ◌+◌, ◌-◌, ◌*◌, ◌/◌, ◌%◌, ◌^◌, ◌≤◌, ◌<◌}
use native.Mathlib.Nat.{two-pow-succ, mul-le-mul_right, one-mul, mul_assoc, add_comm, add-mul-div_left}
use native.Mathlib.Omega.{arith}
use lib.Dec.{ltb}
use lib.ListN.{length, get_or}
use lib.Pow.{pow_mono, pow_pos, pow-add, shr-shr, mod-pow-add}
use borrow.Author.Tests.{lt-ltb, le-ltb, le-leb, ltb-true, ltb-false}
use Rattle.frame_bits.specs.Read.{value, cause}
use Rattle.frame_bits.specs.Bits.{bit_of, bits_of, read_bit, read_bits}
use Rattle.frame_bits.specs.Sound.{back_of}

-- one more bit on top
pub one_more : (v b n : ℕ) → v < 2 ^ n → b < 2 → v + b * 2 ^ n < 2 ^ suc n
one_more v b n h k =
    let i : b ≤ 1 = omega arith in
    let m : b * 2 ^ n ≤ 1 * 2 ^ n = mul-le-mul_right (2 ^ n) i in
    let o : 1 * 2 ^ n ≡ 2 ^ n = one-mul (2 ^ n) in
    let t = two-pow-succ n in
    omega arith

pub bits_below : (s : List ℕ) (p n : ℕ) → bits_of s p n < 2 ^ n
unfolding bits_of
bits_below s p zero = omega arith
bits_below s p (suc n) =
    let b : bit_of s (p + n) < 2 = omega arith in
    one_more (bits_of s p n) (bit_of s (p + n)) n (bits_below s p n) b

-- a number of n bits is one of more bits
pub in-more : (v n m : ℕ) → v < 2 ^ n → n ≤ m → v < 2 ^ m
in-more v n m h k = let t : 2 ^ n ≤ 2 ^ m = pow_mono k in omega arith

pub bit-inside : (s : List ℕ) (p : ℕ) → p < 8 * length s → read_bit s p ≡ value (bit_of s p) (p + 1)
unfolding read_bit
bit-inside s p h = simp (lt-ltb p (8 * length s) h)

pub bit-outside : (s : List ℕ) (p : ℕ) → 8 * length s ≤ p → read_bit s p ≡ cause 6
unfolding read_bit
bit-outside s p h = simp (le-ltb p (8 * length s) h)

pub field-inside : (s : List ℕ) (p n : ℕ) → p + n ≤ 8 * length s → read_bits s p n ≡ value (bits_of s p n) (p + n)
unfolding read_bits
field-inside s p n h = simp (le-leb (p + n) (8 * length s) h)

-- ---- bytes joined backwards hold the side stream's bits in their order

-- a bit of the lowest byte a, and of what stands above it
low_bit : (a y m : ℕ) → m < 8 → (a + 256 * y) / 2 ^ m % 2 ≡ a / 2 ^ m % 2
low_bit a y m h =
    let w = 2 ^ (7 - m) in
    let k : m + (1 + (7 - m)) ≡ 8 = omega arith in
    let t : 2 ^ m * (2 ^ 1 * w) ≡ 256 = sym (ap (λ (x : ℕ). 2 ^ m * x) (pow-add 2 1 (7 - m))) ∙ sym (pow-add 2 m (1 + (7 - m)))
    ∙ ap (λ (x : ℕ). 2 ^ x) k in
    let e : 256 * y ≡ 2 ^ m * (2 * w * y) = ap (λ (x : ℕ). x * y) (sym t) ∙ mul_assoc (2 ^ m) (2 * w) y in
    let d : (a + 2 ^ m * (2 * w * y)) / 2 ^ m ≡ a / 2 ^ m + 2 * w * y = add-mul-div_left a (2 * w * y) (pow_pos m) in
    let f : 2 * w * y ≡ 2 * (w * y) = mul_assoc 2 w y in
    rw (e, d, f) (omega arith)

high_bit : (a y m : ℕ) → a < 256 → 8 ≤ m → (a + 256 * y) / 2 ^ m ≡ y / 2 ^ (m - 8)
high_bit a y m b h =
    let k : 8 + (m - 8) ≡ m = omega arith in
    let d : (a + 256 * y) / 256 ≡ y = omega arith in
    sym (ap (λ (x : ℕ). (a + 256 * y) / 2 ^ x) k) ∙ sym (shr-shr (a + 256 * y) 8 (m - 8)) ∙ ap (λ (x : ℕ). x / 2 ^ (m - 8)) d

back-bit : (s : List ℕ) → ((i : ℕ) → get_or s i 0 < 256) → (k at m : ℕ) → m < 8 * k → k ≤ at + 1
    → back_of s at k / 2 ^ m % 2 ≡ get_or s (at - m / 8) 0 / 2 ^ (m % 8) % 2
unfolding back_of
back-bit s b zero at m h l = absurd (omega arith)
back-bit s b (suc k) at m h l = go (ltb m 8) refl (back-bit s b k (at - 1) (m - 8))
  where
    go : (t : Bool) → ltb m 8 ≡ t
        → (m - 8 < 8 * k → k ≤ at - 1 + 1
        → back_of s (at - 1) k / 2 ^ (m - 8) % 2 ≡ get_or s (at - 1 - (m - 8) / 8) 0 / 2 ^ ((m - 8) % 8) % 2)
        → (get_or s at 0 + 256 * back_of s (at - 1) k) / 2 ^ m % 2 ≡ get_or s (at - m / 8) 0 / 2 ^ (m % 8) % 2
    go true t r =
        let x = ltb-true m 8 t in
        let i : at - m / 8 ≡ at = omega arith in
        let j : m % 8 ≡ m = omega arith in
        rw (i, j) (low_bit (get_or s at 0) (back_of s (at - 1) k) m x)
    go false t r =
        let x = ltb-false m 8 t in
        let i : at - m / 8 ≡ at - 1 - (m - 8) / 8 = omega arith in
        let j : m % 8 ≡ (m - 8) % 8 = omega arith in
        rw (high_bit (get_or s at 0) (back_of s (at - 1) k) m (b at) x, i, j) (r (omega arith) (omega arith))

pub four-joined : (s : List ℕ) (at a b c d : ℕ) → a ≡ get_or s at 0 → b ≡ get_or s (at - 1) 0 → c ≡ get_or s (at - 2) 0
    → d ≡ get_or s (at - 3) 0
    → a + 256 * (b + 256 * (c + 256 * d)) ≡ back_of s at 4
unfolding back_of
four-joined s at a b c d e f g h =
    let i : at - 1 - 1 ≡ at - 2 = omega arith in
    let j : at - 2 - 1 ≡ at - 3 = omega arith in
    rw (i, j, ← e, ← f, ← g, ← h) (omega arith)

-- so that a field of at most 25 bits is cut out of four bytes
pub four-field : (s : List ℕ) → ((i : ℕ) → get_or s i 0 < 256) → (p n : ℕ) → p / 8 + 4 ≤ length s → n ≤ 25
    → back_of s (length s - 1 - p / 8) 4 / 2 ^ (p % 8) % 2 ^ n ≡ bits_of s p n
unfolding bits_of
four-field s b p zero h l = omega arith
four-field s b p (suc n) h l =
    let w = back_of s (length s - 1 - p / 8) 4 in
    let m = p % 8 + n in
    let i : length s - 1 - p / 8 - m / 8 ≡ length s - 1 - (p + n) / 8 = omega arith in
    let j : m % 8 ≡ (p + n) % 8 = omega arith in
    let e : w / 2 ^ m % 2 ≡ bit_of s (p + n) = rw (← i, ← j) (back-bit s b 4 (length s - 1 - p / 8) m (omega arith) (omega arith)) in
    let c : w / 2 ^ (p % 8) / 2 ^ n % 2 ≡ bit_of s (p + n) = ap (λ (x : ℕ). x % 2) (shr-shr w (p % 8) n) ∙ e in
    let r = four-field s b p n h (omega arith) in
    let k : 1 + n ≡ suc n = omega arith in
    let t : w / 2 ^ (p % 8) / 2 ^ n % 2 * 2 ^ n + w / 2 ^ (p % 8) % 2 ^ n ≡ bits_of s p n + bit_of s (p + n) * 2 ^ n =
    rw (c, r) (add_comm (bit_of s (p + n) * 2 ^ n) (bits_of s p n)) in
    sym (ap (λ (x : ℕ). w / 2 ^ (p % 8) % 2 ^ x) k) ∙ mod-pow-add (w / 2 ^ (p % 8)) 1 n ∙ t
