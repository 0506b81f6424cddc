-- Bits and their number, the first bit the lowest: of one list behind another, and of a value's own bits. Assumes nothing.
use mathlib.Core.Path.{◌≡◌, sym, ap, ◌∙◌}
use mathlib.Core.List.{List, ◌++◌}
use Prim.Native.Nat.{ℕ, zero, suc, ◌+◌, ◌-◌, ◌*◌, ◌/◌, ◌%◌, ◌^◌, ◌≤◌, ◌<◌}
use native.Mathlib.Nat.{two-pow-succ, mul_assoc, mul_comm, add-mul-div_left, add-mul-mod_self_left}
use native.Mathlib.Omega.{arith}
use lib.Arith.{digits_lt}
use lib.ListN.{length}
use lib.Pow.{pow-add, pow_pos, pow_mono, shl_exact, shr-shr, shr_lt}
use Rattle.frame_bits.specs.Fields.{value_bits}
use Rattle.writer_laws.specs.SideBits.{number_of}
use Rattle.writer_laws.proofs.Digits.{number_append}

-- the bits of a value are its own
pub values-number : (v w : ℕ) → v < 2 ^ w → number_of (value_bits v w) ≡ v
unfolding value_bits number_of
values-number v zero h = omega arith
values-number v (suc w) h =
    let t = two-pow-succ w in
    let r : number_of (value_bits (v / 2) w) ≡ v / 2 = values-number (v / 2) w (omega arith) in
    rw r (omega arith)

-- one list behind another
pub number_behind : (l m : List ℕ) → number_of (l ++ m) ≡ number_of l + 2 ^ length l * number_of m
number_behind l m = number_append l m ∙ ap (λ (x : ℕ). number_of l + x) (mul_comm (number_of m) (2 ^ length l))

-- a value of w bits behind a number of p bits
pub behind-below : (a v p w : ℕ) → a < 2 ^ p → v < 2 ^ w → a + 2 ^ p * v < 2 ^ (p + w)
behind-below a v p w h k =
    let d : v * 2 ^ p + a < 2 ^ w * 2 ^ p = digits_lt k h in
    let e : 2 ^ (p + w) ≡ 2 ^ w * 2 ^ p = pow-add 2 p w ∙ mul_comm (2 ^ p) (2 ^ w) in
    let f : 2 ^ p * v ≡ v * 2 ^ p = mul_comm (2 ^ p) v in
    omega arith

-- of what stands behind p bits, seen from bit k on
pub behind-from : (a v p k : ℕ) → k ≤ p → (a + 2 ^ p * v) / 2 ^ k ≡ a / 2 ^ k + 2 ^ (p - k) * v
behind-from a v p k h =
    let s : k + (p - k) ≡ p = omega arith in
    let e : 2 ^ p * v ≡ 2 ^ k * (2 ^ (p - k) * v) =
    ap (λ (x : ℕ). 2 ^ x * v) (sym s) ∙ ap (λ (x : ℕ). x * v) (pow-add 2 k (p - k)) ∙ mul_assoc (2 ^ k) (2 ^ (p - k)) v in
    ap (λ (x : ℕ). (a + x) / 2 ^ k) e ∙ add-mul-div_left a (2 ^ (p - k) * v) (pow_pos k)

-- a byte below the place p does not see what stands behind
pub byte-before : (a v p i : ℕ) → i < p / 8 → (a + 2 ^ p * v) / 2 ^ (8 * i) % 256 ≡ a / 2 ^ (8 * i) % 256
byte-before a v p i h =
    let k : 8 * i ≤ p = omega arith in
    let s : 8 + (p - 8 * i - 8) ≡ p - 8 * i = omega arith in
    let e : 2 ^ (p - 8 * i) * v ≡ 256 * (2 ^ (p - 8 * i - 8) * v) =
    ap (λ (x : ℕ). 2 ^ x * v) (sym s) ∙ ap (λ (x : ℕ). x * v) (pow-add 2 8 (p - 8 * i - 8)) ∙ mul_assoc 256 (2 ^ (p - 8 * i - 8)) v in
    ap (λ (x : ℕ). x % 256) (behind-from a v p (8 * i) k ∙ ap (λ (x : ℕ). a / 2 ^ (8 * i) + x) e)
    ∙ add-mul-mod_self_left (a / 2 ^ (8 * i)) 256 (2 ^ (p - 8 * i - 8) * v)

-- from the byte of the place p on: what was held and the value, shifted on by whole bytes
pub byte-from : (a v p i h : ℕ) → p / 8 ≤ i → h ≡ a / 2 ^ (8 * (p / 8)) + v * 2 ^ (p % 8)
    → (a + 2 ^ p * v) / 2 ^ (8 * i) ≡ h / 2 ^ (8 * (i - p / 8))
byte-from a v p i h l e =
    let k : 8 * (p / 8) ≤ p = omega arith in
    let s : p - 8 * (p / 8) ≡ p % 8 = omega arith in
    let t : 8 * (p / 8) + 8 * (i - p / 8) ≡ 8 * i = omega arith in
    let d : (a + 2 ^ p * v) / 2 ^ (8 * (p / 8)) ≡ h =
    behind-from a v p (8 * (p / 8)) k ∙ ap (λ (x : ℕ). a / 2 ^ (8 * (p / 8)) + 2 ^ x * v) s
    ∙ ap (λ (x : ℕ). a / 2 ^ (8 * (p / 8)) + x) (mul_comm (2 ^ (p % 8)) v) ∙ sym e in
    sym (ap (λ (x : ℕ). (a + 2 ^ p * v) / 2 ^ x) t) ∙ sym (shr-shr (a + 2 ^ p * v) (8 * (p / 8)) (8 * (i - p / 8)))
    ∙ ap (λ (x : ℕ). x / 2 ^ (8 * (i - p / 8))) d

-- m bits held and a value shifted behind them: nothing is shifted out of a word
pub shifted-exact : (v m w : ℕ) → v < 2 ^ w → m < 8 → w ≤ 25 → v * 2 ^ m % 2 ^ 64 ≡ v * 2 ^ m
shifted-exact v m w h k l = shl_exact w m 64 h (omega arith)

pub joined-below : (a v m w : ℕ) → a < 2 ^ m → v < 2 ^ w → a + v * 2 ^ m < 2 ^ (m + w)
joined-below a v m w h k =
    let b = behind-below a v m w h k in
    let e : 2 ^ m * v ≡ v * 2 ^ m = mul_comm (2 ^ m) v in
    omega arith

pub joined-fits : (a v m w : ℕ) → a < 2 ^ m → v < 2 ^ w → m < 8 → w ≤ 25 → a + v * 2 ^ m % 2 ^ 64 < 2 ^ 64
joined-fits a v m w h k l n =
    let b = joined-below a v m w h k in
    let t : 2 ^ (m + w) ≤ 2 ^ 64 = let q : m + w ≤ 64 = omega arith in pow_mono q in
    let e = shifted-exact v m w k l n in
    rw e (omega arith)

-- a byte taken off leaves eight bits fewer
pub byte-off : (x n : ℕ) → x < 2 ^ n → 8 ≤ n → x / 256 < 2 ^ (n - 8)
byte-off x n h k =
    let s : n - 8 + 8 ≡ n = omega arith in
    shr_lt (n - 8) 8 (rw s h)
