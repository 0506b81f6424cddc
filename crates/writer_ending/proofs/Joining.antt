-- The bytes of both streams joined are the bytes of the frame's number: the code stands above the bits of the side stream. Assumes nothing.
use mathlib.Core.Path.{◌≡◌, refl, sym, ap, ap₂, subst, ◌∙◌}
use mathlib.Core.Bool.{Bool, true, false}
use mathlib.Core.List.{List}
use Prim.Native.Nat.{ℕ, ◌+◌, ◌-◌, ◌*◌, ◌/◌, ◌%◌, ◌^◌, ◌≤◌, ◌<◌}
use native.Mathlib.Omega.{arith}
use native.Mathlib.Nat.{add-zero, zero-add, le_trans, lt_of_lt_of_le, mul_assoc, mul-mod_left, mul-add-mod_self_right}
use native.Mathlib.Nat.{mul-add-div_right, mod-lt, mod-eq_of_lt, div-eq_of_lt}
use lib.Dec.{leb}
use lib.ListN.{get_or}
use lib.Pow.{pow_pos, pow_mono, pow-add, shr-shr, shr_lt, shl-shr, high, low, mod-pow-add}
use borrow.Author.Tests.{leb-true, leb-false}
use Rattle.laws.specs.Tab.{Below}
use Rattle.laws.proofs.Tab.{tab-same}
use Rattle.frame_coder.specs.declared.Coder.{Coder}
use Rattle.writer_laws.specs.Stream.{front_of}
use Rattle.writer_laws.specs.SideBits.{number_of}
use Rattle.writer_laws.specs.Ending.{end_bits, code_of, room_of, frame_number, digits}
use Rattle.writer_laws.proofs.Digits.{byte-front}
use Rattle.writer_steps.specs.Cursors.{Closed}
use Rattle.writer_steps.specs.Joined.{Apart, joined_of}

-- ---- a number as bits that stand above others

-- x above d bits of y, in one byte
byte-mod : (x d y : ℕ) → y < 2 ^ d → (x * 2 ^ d + y) % 256 ≡ x * 2 ^ d % 256 + y % 256
byte-mod x d y h = go (leb 8 d) refl
  where
    go : (t : Bool) → leb 8 d ≡ t → (x * 2 ^ d + y) % 256 ≡ x * 2 ^ d % 256 + y % 256
    go true t =
        let l = leb-true 8 d t in
        let s : d ≡ d - 8 + 8 = omega arith in
        let e : x * 2 ^ d ≡ x * 2 ^ (d - 8) * 256 =
        ap (λ (k : ℕ). x * 2 ^ k) s ∙ ap (λ (k : ℕ). x * k) (pow-add 2 (d - 8) 8) ∙ sym (mul_assoc x (2 ^ (d - 8)) 256) in
        rw (e, mul-mod_left (x * 2 ^ (d - 8)) 256) (mul-add-mod_self_right (x * 2 ^ (d - 8)) 256 y ∙ sym (zero-add (y % 256)))
    go false t =
        let l = leb-false 8 d t in
        let s : 8 - d + d ≡ 8 = omega arith in
        let q : 2 ^ (8 - d + d) ≡ 256 = ap (λ (k : ℕ). 2 ^ k) s in
        let m : 2 ^ d ≤ 256 = pow_mono {i = d} {j = 8} (omega arith) in
        let z : y % 256 ≡ y = mod-eq_of_lt (lt_of_lt_of_le h m) in
        let a : (x * 2 ^ d + y) % 256 ≡ x % 2 ^ (8 - d) * 2 ^ d + y =
        ap (λ (k : ℕ). (x * 2 ^ d + y) % k) (sym q) ∙ mod-pow-add (x * 2 ^ d + y) (8 - d) d
        ∙ ap₂ (λ (u v : ℕ). u % 2 ^ (8 - d) * 2 ^ d + v) (high x d h) (low x d h) in
        let b : x * 2 ^ d % 256 ≡ x % 2 ^ (8 - d) * 2 ^ d + 0 =
        ap (λ (k : ℕ). x * 2 ^ d % k) (sym q) ∙ mod-pow-add (x * 2 ^ d) (8 - d) d
        ∙ ap₂ (λ (u v : ℕ). u % 2 ^ (8 - d) * 2 ^ d + v) (shl-shr x d) (mul-mod_left x (2 ^ d)) in
        omega arith

-- a shifted number, shifted back by more or by less
down-less : (x a d : ℕ) → x * 2 ^ (d + a) / 2 ^ a ≡ x * 2 ^ d
down-less x a d =
    ap (λ (k : ℕ). k / 2 ^ a) (ap (λ (k : ℕ). x * k) (pow-add 2 d a) ∙ sym (mul_assoc x (2 ^ d) (2 ^ a)))
    ∙ shl-shr (x * 2 ^ d) a

-- each byte of a code above c bits is the sum of both parts' bytes
pub byte-sum : (code side c a : ℕ) → side < 2 ^ c → (code * 2 ^ c + side) / 2 ^ a % 256 ≡ code * 2 ^ c / 2 ^ a % 256 + side / 2 ^ a % 256
byte-sum code side c a h = go (leb a c) refl
  where
    go : (t : Bool) → leb a c ≡ t → (code * 2 ^ c + side) / 2 ^ a % 256 ≡ code * 2 ^ c / 2 ^ a % 256 + side / 2 ^ a % 256
    go true t =
        let l = leb-true a c t in
        let d : ℕ = c - a in
        let s : c ≡ d + a = omega arith in
        let e : code * 2 ^ c ≡ code * 2 ^ d * 2 ^ a =
        ap (λ (k : ℕ). code * 2 ^ k) s ∙ ap (λ (k : ℕ). code * k) (pow-add 2 d a) ∙ sym (mul_assoc code (2 ^ d) (2 ^ a)) in
        let q : side < 2 ^ (d + a) = subst (λ (k : ℕ). side < 2 ^ k) s h in
        let f : (code * 2 ^ d * 2 ^ a + side) / 2 ^ a ≡ code * 2 ^ d + side / 2 ^ a = mul-add-div_right (pow_pos a) (code * 2 ^ d) side in
        rw (e, f, shl-shr (code * 2 ^ d) a) (byte-mod code d (side / 2 ^ a) (shr_lt d a q))
    go false t =
        let l = leb-false a c t in
        let s : c + (a - c) ≡ a = omega arith in
        let m : 2 ^ c ≤ 2 ^ a = pow_mono (omega arith) in
        let z : side / 2 ^ a ≡ 0 = div-eq_of_lt (lt_of_lt_of_le h m) in
        let up : (code * 2 ^ c + side) / 2 ^ a ≡ code / 2 ^ (a - c) =
        ap (λ (k : ℕ). (code * 2 ^ c + side) / 2 ^ k) (sym s) ∙ sym (shr-shr (code * 2 ^ c + side) c (a - c))
        ∙ ap (λ (k : ℕ). k / 2 ^ (a - c)) (high code c h) in
        let un : code * 2 ^ c / 2 ^ a ≡ code / 2 ^ (a - c) =
        ap (λ (k : ℕ). code * 2 ^ c / 2 ^ k) (sym s) ∙ sym (shr-shr (code * 2 ^ c) c (a - c))
        ∙ ap (λ (k : ℕ). k / 2 ^ (a - c)) (shl-shr code c) in
        rw (up, un, z) (sym (add-zero (code / 2 ^ (a - c) % 256)))

-- ---- the join

-- n of 512 bytes: the bits behind u bits, and the bits behind byte i
room-more : (u n : ℕ) → u ≤ 8 * n → n ≤ 512 → 8 * 512 - u ≡ 8 * n - u + 8 * (512 - n)
room-more u n h l = omega arith

place-more : (n i : ℕ) → n ≤ 512 → i < n → 8 * (511 - i) ≡ 8 * (512 - n) + 8 * (n - 1 - i)
place-more n i l h = omega arith

-- a byte of the front of 512 bytes is the byte of the frame's n that holds the code alone
front-byte : (front : List ℕ) (c : Coder) (n i : ℕ) → Below 256 front → front_of front 512 ≡ code_of c * 2 ^ room_of 512 c
    → 8 * (c.at - 3) + end_bits c.low c.range ≤ 8 * n → n ≤ 512 → i < n
    → get_or front i 0 ≡ code_of c * 2 ^ room_of n c / 2 ^ (8 * (n - 1 - i)) % 256
unfolding room_of
front-byte front c n i bytes e fits long h =
    let u : ℕ = 8 * (c.at - 3) + end_bits c.low c.range in
    let r : ℕ = 8 * n - u in
    let t : ℕ = 8 * (512 - n) in
    let a : ℕ = 8 * (n - 1 - i) in
    let p : 8 * 512 - u ≡ r + t = room-more u n fits long in
    let q : 8 * (511 - i) ≡ t + a = place-more n i long h in
    let f : front_of front 512 / 2 ^ (8 * (511 - i)) ≡ code_of c * 2 ^ r / 2 ^ a =
    ap₂ (λ (x y : ℕ). x / 2 ^ y) (e ∙ ap (λ (x : ℕ). code_of c * 2 ^ x) p) q
    ∙ sym (shr-shr (code_of c * 2 ^ (r + t)) t a) ∙ ap (λ (x : ℕ). x / 2 ^ a) (down-less (code_of c) t r) in
    byte-front front bytes 512 i (le_trans h long) ∙ ap (λ (x : ℕ). x % 256) f

-- both bytes at a place add up to the frame's
joined-byte : (front side l : List ℕ) (c : Coder) (n i : ℕ) → Below 256 front → front_of front 512 ≡ code_of c * 2 ^ room_of 512 c
    → Closed l side → number_of l < 2 ^ room_of n c → 8 * (c.at - 3) + end_bits c.low c.range ≤ 8 * n → n ≤ 512 → i < n
    → get_or front i 0 + get_or side (n - 1 - i) 0 ≡ frame_number n c (number_of l) / 2 ^ (8 * (n - 1 - i)) % 256
unfolding frame_number
joined-byte front side l c n i bytes e closed below fits long h =
    ap₂ (λ (x y : ℕ). x + y) (front-byte front c n i bytes e fits long h) (closed (n - 1 - i))
    ∙ sym (byte-sum (code_of c) (number_of l) (room_of n c) (8 * (n - 1 - i)) below)

-- the streams share no bit of the frame
pub apart : (front side l : List ℕ) (c : Coder) (n : ℕ) → Below 256 front → front_of front 512 ≡ code_of c * 2 ^ room_of 512 c
    → Closed l side → number_of l < 2 ^ room_of n c → 8 * (c.at - 3) + end_bits c.low c.range ≤ 8 * n → n ≤ 512
    → Apart front side n
apart front side l c n bytes e closed below fits long i h =
    rw (joined-byte front side l c n i bytes e closed below fits long h)
    (mod-lt (frame_number n c (number_of l) / 2 ^ (8 * (n - 1 - i))) (omega arith))

-- so their bytes joined are those of the frame's number
pub joined_is : (front side l : List ℕ) (c : Coder) (n : ℕ) → Below 256 front → front_of front 512 ≡ code_of c * 2 ^ room_of 512 c
    → Closed l side → number_of l < 2 ^ room_of n c → 8 * (c.at - 3) + end_bits c.low c.range ≤ 8 * n → n ≤ 512
    → joined_of front side n ≡ digits n (frame_number n c (number_of l))
unfolding joined_of digits
joined_is front side l c n bytes e closed below fits long =
    tab-same (λ i. get_or front i 0 + get_or side (n - 1 - i) 0) (λ i. frame_number n c (number_of l) / 2 ^ (8 * (n - 1 - i)) % 256) n
    (λ i h. joined-byte front side l c n i bytes e closed below fits long h)
