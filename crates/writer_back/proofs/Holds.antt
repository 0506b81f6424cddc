-- The frame as one number holds both streams, whatever the side bits are: its front lies in the interval of the symbols, and its last bits
-- are the side stream's. Assumes nothing.
use mathlib.Core.Path.{◌≡◌, sym, ap, ◌∙◌}
use Prim.Native.Nat.{ℕ, ◌+◌, ◌-◌, ◌*◌, ◌/◌, ◌%◌, ◌^◌, ◌≤◌, ◌<◌}
use native.Mathlib.Omega.{arith}
use native.Mathlib.Nat.{div-add-mod, mod-lt, mul-add-div_right, mul-add-mod_self_right, mul_assoc}
use lib.Arith.{digits_lt}
use lib.ListN.{get_or}
use lib.Pow.{pow_pos, pow-add, shr-shr, shr_lt, field, mod-mod-pow}
use Rattle.frame_bits.specs.Bits.{bit_of}
use Rattle.frame_coder.specs.declared.Coder.{Coder}
use Rattle.writer_laws.specs.Stream.{front_of}
use Rattle.writer_laws.specs.Ending.{end_bits, code_of, room_of, frame_number, digits}
use Rattle.writer_laws.proofs.Ends.{ends, code_below}
use Rattle.writer_laws.proofs.Digits.{length_digits, get_or-digits, front-digits}

-- ---- the bits of a number's bytes

-- a bit of a byte of y
byte-bit : (y k : ℕ) → k < 8 → y % 256 / 2 ^ k % 2 ≡ y / 2 ^ k % 2
byte-bit y k h =
    let e : 8 - k + k ≡ 8 = omega arith in
    let f : 8 - k - 1 + 1 ≡ 8 - k = omega arith in
    let a : y % 256 / 2 ^ k ≡ y / 2 ^ k % 2 ^ (8 - k) = ap (λ (x : ℕ). y % 2 ^ x / 2 ^ k) (sym e) ∙ field y (8 - k) k in
    let b : y / 2 ^ k % 2 ^ (8 - k) % 2 ≡ y / 2 ^ k % 2 =
    ap (λ (x : ℕ). y / 2 ^ k % 2 ^ x % 2) (sym f) ∙ mod-mod-pow (y / 2 ^ k) (8 - k - 1) 1 in
    ap (λ (x : ℕ). x % 2) a ∙ b

-- bit p of the n bytes, from the last backwards, is bit p of the number
pub bit-digits : (n x p : ℕ) → p < 8 * n → bit_of (digits n x) p ≡ x / 2 ^ p % 2
bit-digits n x p h =
    let i : n - 1 - p / 8 < n = omega arith in
    let e : n - 1 - (n - 1 - p / 8) ≡ p / 8 = omega arith in
    let s : 8 * (p / 8) + p % 8 ≡ p = div-add-mod p 8 in
    let g : get_or (digits n x) (n - 1 - p / 8) 0 ≡ x / 2 ^ (8 * (p / 8)) % 256 =
    get_or-digits n x (n - 1 - p / 8) i ∙ ap (λ (k : ℕ). x / 2 ^ (8 * k) % 256) e in
    let d : x / 2 ^ (8 * (p / 8)) / 2 ^ (p % 8) ≡ x / 2 ^ p = shr-shr x (8 * (p / 8)) (p % 8) ∙ ap (λ (k : ℕ). x / 2 ^ k) s in
    rw (length_digits n x, g) (byte-bit (x / 2 ^ (8 * (p / 8))) (p % 8) (mod-lt p (omega arith)) ∙ ap (λ (k : ℕ). k % 2) d)

-- ---- the frame's number

-- it fits n bytes
pub number-below : (n : ℕ) (c : Coder) (side : ℕ) → 65536 ≤ c.range → c.range < 16777216
    → c.low + c.range ≤ 2 ^ (8 * (c.at - 3)) * 16777215 → 8 * (c.at - 3) + end_bits c.low c.range ≤ 8 * n → side < 2 ^ room_of n c
    → frame_number n c side < 2 ^ (8 * n)
unfolding frame_number room_of
number-below n c side w r below fits h =
    let u : ℕ = 8 * (c.at - 3) + end_bits c.low c.range in
    let s : u + (8 * n - u) ≡ 8 * n = omega arith in
    let d : 2 ^ u * 2 ^ (8 * n - u) ≡ 2 ^ (8 * n) = sym (pow-add 2 u (8 * n - u)) ∙ ap (λ (x : ℕ). 2 ^ x) s in
    rw d at (digits_lt (code_below c w r below) h)

-- a code and what stands behind it, without the last k bits
code-front : (code side b k : ℕ) → (code * 2 ^ (b + k) + side) / 2 ^ k ≡ code * 2 ^ b + side / 2 ^ k
code-front code side b k =
    let e : code * 2 ^ (b + k) ≡ code * 2 ^ b * 2 ^ k =
    ap (λ (x : ℕ). code * x) (pow-add 2 b k) ∙ sym (mul_assoc code (2 ^ b) (2 ^ k)) in
    rw e (mul-add-div_right (pow_pos k) (code * 2 ^ b) side)

-- the bits behind the code: the rest of its three bytes, and the bytes after those
room-parts : (n : ℕ) (c : Coder) → end_bits c.low c.range ≤ 24 → 3 ≤ c.at → c.at ≤ n
    → room_of n c ≡ 24 - end_bits c.low c.range + 8 * (n - c.at)
unfolding room_of
room-parts n c h at long = omega arith

room_most : (n : ℕ) (c : Coder) → room_of n c ≤ 8 * n
unfolding room_of
room_most n c = omega arith

-- the first `at` bytes are the code and 24 - end_bits bits of what stands behind it: less than one more
front-frame : (n : ℕ) (c : Coder) (side : ℕ) → 65536 ≤ c.range → c.range < 16777216 → 3 ≤ c.at
    → c.low + c.range ≤ 2 ^ (8 * (c.at - 3)) * 16777215 → c.at ≤ n → side < 2 ^ room_of n c
    → 8 * (c.at - 3) + end_bits c.low c.range ≤ 8 * n
    → (rest : ℕ) × ((front_of (digits n (frame_number n c side)) c.at ≡ code_of c * 2 ^ (24 - end_bits c.low c.range) + rest)
    × (rest < 2 ^ (24 - end_bits c.low c.range)))
unfolding frame_number
front-frame n c side w r at below long h fits =
    let b : ℕ = end_bits c.low c.range in
    let k : ℕ = 8 * (n - c.at) in
    let m = (ends c.low c.range w r).most in
    let e : room_of n c ≡ 24 - b + k = room-parts n c (omega arith) at long in
    let q : side < 2 ^ (24 - b + k) = rw e at h in
    let f =
    front-digits n (code_of c * 2 ^ room_of n c + side) c.at (number-below n c side w r below fits h) long
    ∙ ap (λ (x : ℕ). (code_of c * 2 ^ x + side) / 2 ^ k) e ∙ code-front (code_of c) side (24 - b) k in
    (side / 2 ^ k, (f, shr_lt (24 - b) k q))

-- the front of the frame lies in the interval of the symbols, whatever stands behind the code
pub inside-frame : (n : ℕ) (c : Coder) (side : ℕ) → 65536 ≤ c.range → c.range < 16777216 → 3 ≤ c.at
    → c.low + c.range ≤ 2 ^ (8 * (c.at - 3)) * 16777215 → c.at ≤ n → side < 2 ^ room_of n c
    → 8 * (c.at - 3) + end_bits c.low c.range ≤ 8 * n
    → (c.low ≤ front_of (digits n (frame_number n c side)) c.at) × (front_of (digits n (frame_number n c side)) c.at < c.low + c.range)
unfolding code_of
inside-frame n c side w r at below long h fits =
    let f = front-frame n c side w r at below long h fits in
    let e = f.1.0 in
    let l = f.1.1 in
    let d = ends c.low c.range w r in
    let from = d.from in
    let to = d.to in
    (omega arith, omega arith)

-- the last bits of the frame are the side stream's
pub side-frame : (n : ℕ) (c : Coder) (side p : ℕ) → p < room_of n c → bit_of (digits n (frame_number n c side)) p ≡ side / 2 ^ p % 2
unfolding frame_number
side-frame n c side p h =
    let m = room_most n c in
    let q : p < 8 * n = omega arith in
    let e : room_of n c ≡ room_of n c - p - 1 + 1 + p = omega arith in
    let d : (code_of c * 2 ^ room_of n c + side) / 2 ^ p ≡ code_of c * 2 ^ (room_of n c - p - 1 + 1) + side / 2 ^ p =
    ap (λ (x : ℕ). (code_of c * 2 ^ x + side) / 2 ^ p) e ∙ code-front (code_of c) side (room_of n c - p - 1 + 1) p in
    let f : code_of c * 2 ^ (room_of n c - p - 1 + 1) ≡ code_of c * 2 ^ (room_of n c - p - 1) * 2 =
    ap (λ (x : ℕ). code_of c * x) (pow-add 2 (room_of n c - p - 1) 1) ∙ sym (mul_assoc (code_of c) (2 ^ (room_of n c - p - 1)) 2) in
    bit-digits n (code_of c * 2 ^ room_of n c + side) p q
    ∙ ap (λ (x : ℕ). x % 2) (d ∙ ap (λ (x : ℕ). x + side / 2 ^ p) f)
    ∙ mul-add-mod_self_right (code_of c * 2 ^ (room_of n c - p - 1)) 2 (side / 2 ^ p)
