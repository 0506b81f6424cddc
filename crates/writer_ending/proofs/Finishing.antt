-- The stream's last bits in code: rounding up with 24 bits of low, at most one carry into the bytes before them, and two bytes more.
-- Assumes nothing.
use mathlib.Core.Path.{◌≡◌, refl, sym, ap, ap₂, ◌∙◌}
use mathlib.Core.Bool.{Bool, true, false, cond}
use mathlib.Core.List.{List}
use Prim.Native.Nat.{ℕ, ◌+◌, ◌-◌, ◌*◌, ◌/◌, ◌%◌, ◌^◌, ◌≤◌, ◌<◌}
use native.Mathlib.Omega.{arith}
use native.Mathlib.Nat.{add-mul, mod-eq_of_lt, mul_assoc, mul-mod_left, mul-add-div_right, one-mul}
use lib.Dec.{leb}
use lib.ListN.{length, get_or, set, length-set}
use lib.Seq.{get_or-set_same, get_or-set_other}
use lib.Pow.{pow_pos, pow_mono, pow-add, shl_exact}
use borrow.Author.Tests.{le-leb, lt-leb, leb-true, leb-false}
use Rattle.frame_coder.specs.declared.Coder.{Coder}
use Rattle.frame_residual.specs.Residual.{log2_of}
use Rattle.writer_laws.specs.Stream.{front_of, whole_of}
use Rattle.writer_laws.specs.Ending.{up_of, fitting, end_bits, code_of, room_of}
use Rattle.writer_laws.proofs.Ends.{log2-most, log2-least, up-high, ends}
use Rattle.writer_laws.proofs.Digits.{front-next, front_same, front-zeros}
use Rattle.writer_steps.specs.Flow.{Flows, Carried}

-- ---- the whole stream's end from 24 bits of it

-- a multiple of 2^24 stays when the rest is rounded up to a multiple of 2^e
up-whole : (f low e : ℕ) → e ≤ 24 → up_of (f * 16777216 + low) (2 ^ e) * 2 ^ e ≡ f * 16777216 + up_of low (2 ^ e) * 2 ^ e
up-whole f low e h =
    let m : ℕ = 2 ^ e in
    let x : ℕ = f * 2 ^ (24 - e) in
    let s : 24 - e + e ≡ 24 = omega arith in
    let d : x * m ≡ f * 16777216 =
    mul_assoc f (2 ^ (24 - e)) m ∙ ap (λ (k : ℕ). f * k) (sym (pow-add 2 (24 - e) e) ∙ ap (λ (k : ℕ). 2 ^ k) s) in
    let a : f * 16777216 + low + (m - 1) ≡ x * m + (low + (m - 1)) = omega arith in
    let b : (x * m + (low + (m - 1))) / m ≡ x + up_of low m = mul-add-div_right (pow_pos e) x (low + (m - 1)) in
    ap (λ (k : ℕ). k / m * m) a ∙ ap (λ (k : ℕ). k * m) b ∙ add-mul x (up_of low m) m ∙ ap (λ (k : ℕ). k + up_of low m * m) d

leb-more : (x a b : ℕ) → leb (x + a) (x + b) ≡ leb a b
leb-more x a b = go (leb a b) refl
  where
    go : (t : Bool) → leb a b ≡ t → leb (x + a) (x + b) ≡ t
    go true e = let l = leb-true a b e in le-leb (x + a) (x + b) (omega arith)
    go false e = let l = leb-false a b e in lt-leb (x + a) (x + b) (omega arith)

pub end_whole : (f low range : ℕ) → end_bits (f * 16777216 + low) range ≡ end_bits low range
unfolding end_bits
end_whole f low range =
    let e : ℕ = log2_of range 23 in
    let h : e ≤ 23 = log2-most range 23 in
    let u : ℕ = up_of low (2 ^ e) * 2 ^ e in
    let a : up_of (f * 16777216 + low) (2 ^ e) * 2 ^ e + 2 ^ e ≡ f * 16777216 + (u + 2 ^ e) =
    let p = up-whole f low e (omega arith) in omega arith in
    let b : f * 16777216 + low + range ≡ f * 16777216 + (low + range) = omega arith in
    let q : fitting e (f * 16777216 + low) range ≡ fitting e low range =
    ap₂ (λ (x y : ℕ). leb x y) a b ∙ leb-more (f * 16777216) (u + 2 ^ e) (low + range) in
    ap (λ (t : Bool). cond t (24 - e) (25 - e)) q

-- ---- the exponent

pub one_shifted : (e : ℕ) → e ≤ 23 → 1 * 2 ^ e % 2 ^ 64 ≡ 2 ^ e
one_shifted e h = shl_exact 1 e 64 (omega arith) (omega arith) ∙ one-mul (2 ^ e)

-- a power that fits 24 bits
pub power-most : (e : ℕ) → e ≤ 23 → 2 ^ e ≤ 8388608
power-most e h = pow_mono {i = e} {j = 23} h

pub one-least : (e : ℕ) → e ≤ 23 → 1 ≤ 1 * 2 ^ e % 2 ^ 64
one-least e h = rw (one_shifted e h) (pow_pos e)

pub one-most : (e : ℕ) → e ≤ 23 → 1 * 2 ^ e % 2 ^ 64 ≤ 8388608
one-most e h = rw (one_shifted e h) (power-most e h)

-- a sum of 25 bits, shifted down and up again
pub round_up : (low e : ℕ) → low < 16777216 → e ≤ 23
    → (low + (1 * 2 ^ e % 2 ^ 64 - 1)) / 2 ^ e * 2 ^ e % 2 ^ 64 ≡ up_of low (2 ^ e) * 2 ^ e
round_up low e h k =
    let m = power-most e k in
    let p = pow_pos e in
    let u = up-high low (2 ^ e) p in
    rw (one_shifted e k) (mod-eq_of_lt (omega arith))

-- floor (log2 range) where the multiple fits
pub exponent-here : (low range e v : ℕ) → e ≡ log2_of range 23 → v ≡ up_of low (2 ^ e) * 2 ^ e → v + 2 ^ e ≤ low + range
    → 24 - e ≡ end_bits low range
unfolding end_bits
exponent-here low range e v q r h =
    let a : up_of low (2 ^ e) * 2 ^ e + 2 ^ e ≤ low + range = rw r at h in
    rw (← q, le-leb (up_of low (2 ^ e) * 2 ^ e + 2 ^ e) (low + range) a)

-- else one less
pub exponent-less : (low range e v : ℕ) → 1 ≤ e → e ≡ log2_of range 23 → v ≡ up_of low (2 ^ e) * 2 ^ e → low + range < v + 2 ^ e
    → 24 - (e - 1) ≡ end_bits low range
unfolding end_bits
exponent-less low range e v o q r h =
    let a : low + range < up_of low (2 ^ e) * 2 ^ e + 2 ^ e = rw r at h in
    let m : e ≤ 23 = rw (← q) at (log2-most range 23) in
    let s : 24 - (e - 1) ≡ 25 - e = omega arith in
    rw (← q, lt-leb (up_of low (2 ^ e) * 2 ^ e + 2 ^ e) (low + range) a) s

pub exponent-least : (range e : ℕ) → 65536 ≤ range → e ≡ log2_of range 23 → 16 ≤ e
exponent-least range e h q = rw q (log2-least range 23 16 h (omega arith))

-- ---- the last multiple

-- what is known of v, the multiple of 2^e at or above low, in front of the bytes of `front`
pub record Last (front : List ℕ) (c : Coder) (e v : ℕ) : Type 0 where
  pub flows : Flows front c
  pub room : c.at ≤ 500
  pub bits : 24 - e ≡ end_bits c.low c.range
  pub least : 15 ≤ e
  pub most : e ≤ 23
  pub value : v ≡ up_of c.low (2 ^ e) * 2 ^ e
  pub near : v < c.low + 2 ^ e

pub last_of : {front : List ℕ} {c : Coder} {e v : ℕ} → Flows front c → c.at ≤ 500 → 24 - e ≡ end_bits c.low c.range → 15 ≤ e → e ≤ 23
    → v ≡ up_of c.low (2 ^ e) * 2 ^ e → v < c.low + 2 ^ e → Last front c e v
last_of f r b l m v n = record { flows = f; room = r; bits = b; least = l; most = m; value = v; near = n }

-- where v has a 25th bit, one more in the bytes before it does not run over
pub carry-fits : {front : List ℕ} {c : Coder} {e v : ℕ} → Last front c e v → 16777216 ≤ v
    → front_of front (c.at - 3) + 1 < 2 ^ (8 * (c.at - 3))
carry-fits {front} {c} {e} {v} l h =
    let f = l.flows in
    let b = f.below in
    let g = ends c.low c.range f.wide f.range in
    let m = l.most in
    let s : 24 - end_bits c.low c.range ≡ e = let q = l.bits in omega arith in
    let to : up_of c.low (2 ^ e) * 2 ^ e + 2 ^ e ≤ c.low + c.range = rw s at g.to in
    let q = l.value in
    omega arith

-- v is a multiple of 256
low_byte : {front : List ℕ} {c : Coder} {e v : ℕ} → Last front c e v → v % 256 ≡ 0
low_byte {front} {c} {e} {v} l =
    let h = l.least in
    let s : e ≡ e - 8 + 8 = omega arith in
    let d : up_of c.low (2 ^ e) * 2 ^ e ≡ up_of c.low (2 ^ e) * 2 ^ (e - 8) * 256 =
    ap (λ (k : ℕ). up_of c.low (2 ^ e) * 2 ^ k) s ∙ ap (λ (k : ℕ). up_of c.low (2 ^ e) * k) (pow-add 2 (e - 8) 8)
    ∙ sym (mul_assoc (up_of c.low (2 ^ e)) (2 ^ (e - 8)) 256) in
    ap (λ (k : ℕ). k % 256) (l.value ∙ d) ∙ mul-mod_left (up_of c.low (2 ^ e) * 2 ^ (e - 8)) 256

-- the code of the whole stream, and what stands behind it in 512 bytes
code-whole : {front : List ℕ} {c : Coder} {e v : ℕ} → Last front c e v
    → code_of (whole_of front c) * 2 ^ room_of 512 (whole_of front c)
    ≡ (front_of front (c.at - 3) * 16777216 + v) * 2 ^ (8 * (509 - (c.at - 3)))
unfolding code_of room_of
code-whole {front} {c} {e} {v} l =
    let f : ℕ = front_of front (c.at - 3) in
    let w : ℕ = f * 16777216 + c.low in
    let k : ℕ = c.at - 3 in
    let m = l.most in
    let r = l.room in
    let b : end_bits w c.range ≡ 24 - e = end_whole f c.low c.range ∙ sym l.bits in
    let s : 24 - (24 - e) ≡ e = omega arith in
    let t : 8 * 512 - (8 * k + (24 - e)) ≡ e + 8 * (509 - k) = room-behind k e m (omega arith) in
    let a : code_of (whole_of front c) ≡ up_of w (2 ^ e) = ap (λ (x : ℕ). up_of w (2 ^ (24 - x))) b ∙ ap (λ (x : ℕ). up_of w (2 ^ x)) s in
    let d : room_of 512 (whole_of front c) ≡ e + 8 * (509 - k) = ap (λ (x : ℕ). 8 * 512 - (8 * k + x)) b ∙ t in
    ap₂ (λ (x y : ℕ). x * 2 ^ y) a d ∙ ap (λ (x : ℕ). up_of w (2 ^ e) * x) (pow-add 2 e (8 * (509 - k)))
    ∙ sym (mul_assoc (up_of w (2 ^ e)) (2 ^ e) (2 ^ (8 * (509 - k))))
    ∙ ap (λ (x : ℕ). x * 2 ^ (8 * (509 - k))) (up-whole f c.low e (omega arith) ∙ ap (λ (x : ℕ). f * 16777216 + x) (sym l.value))
  where
    room-behind : (k e : ℕ) → e ≤ 23 → k ≤ 497 → 8 * 512 - (8 * k + (24 - e)) ≡ e + 8 * (509 - k)
    room-behind k e h l = omega arith

-- ---- the bytes

-- the bytes with v put at k, of which v's lowest is 0
abbrev pub ended : List ℕ → ℕ → ℕ → ℕ → List ℕ
ended front k j v = set (set front k (v / 65536)) j (v / 256 % 256)

apart : (a b : ℕ) → a < b → a ≡ b → ⊥
apart a b h e = omega arith

beyond : (a b : ℕ) → b < a → a ≡ b → ⊥
beyond a b h e = omega arith

ended-other : (front : List ℕ) (k j v i : ℕ) → (i ≡ k → ⊥) → (i ≡ j → ⊥) → get_or (ended front k j v) i 0 ≡ get_or front i 0
ended-other front k j v i p q =
    get_or-set_other (set front k (v / 65536)) j i (v / 256 % 256) 0 q ∙ get_or-set_other front k i (v / 65536) 0 p

-- the number of the first k + 2 bytes, a byte further
ended-number : (front : List ℕ) (k j v : ℕ) → j ≡ k + 1 → j < length front → v % 256 ≡ 0
    → front_of (ended front k j v) (j + 1) * 256 ≡ front_of front k * 16777216 + v
ended-number front k j v e h z =
    let s : List ℕ = ended front k j v in
    let n = length-set front k (v / 65536) in
    let a : get_or s k 0 ≡ v / 65536 =
    get_or-set_other (set front k (v / 65536)) j k (v / 256 % 256) 0 (apart k j (omega arith))
    ∙ get_or-set_same front k (v / 65536) 0 (omega arith) in
    let b : get_or s j 0 ≡ v / 256 % 256 = get_or-set_same (set front k (v / 65536)) j (v / 256 % 256) 0 (omega arith) in
    let c : front_of s k ≡ front_of front k =
    front_same s front k (λ i p. ended-other front k j v i (apart i k p) (apart i j (omega arith))) in
    let d = front-next s j in
    let f : front_of s j ≡ front_of s k * 256 + get_or s k 0 = ap (front_of s) e ∙ front-next s k in
    omega arith

-- the number of all 512 bytes
ended-front : (front : List ℕ) (k j v : ℕ) → length front ≡ 512 → j ≡ k + 1 → k ≤ 497 → ((i : ℕ) → k ≤ i → get_or front i 0 ≡ 0)
    → v % 256 ≡ 0
    → front_of (ended front k j v) 512 ≡ (front_of front k * 16777216 + v) * 2 ^ (8 * (509 - k))
ended-front front k j v n e h fresh z =
    let s : List ℕ = ended front k j v in
    let d : j + 1 + (511 - j) ≡ 512 = omega arith in
    let f : 8 * (511 - j) ≡ 8 + 8 * (509 - k) = omega arith in
    let a = front-zeros s (j + 1) (511 - j)
    (λ i p. ended-other front k j v i (beyond i k (omega arith)) (beyond i j (omega arith)) ∙ fresh i (omega arith)) in
    ap (front_of s) (sym d) ∙ a ∙ ap (λ (x : ℕ). front_of s (j + 1) * 2 ^ x) f
    ∙ ap (λ (x : ℕ). front_of s (j + 1) * x) (pow-add 2 8 (8 * (509 - k))) ∙ sym (mul_assoc (front_of s (j + 1)) 256 (2 ^ (8 * (509 - k))))
    ∙ ap (λ (x : ℕ). x * 2 ^ (8 * (509 - k))) (ended-number front k j v e (omega arith) z)

-- what stands before the last bytes are put: the bytes with the carry, and v without it
pub record Before (front : List ℕ) (c : Coder) (e v : ℕ) (front' : List ℕ) (v' : ℕ) : Type 0 where
  pub last : Last front c e v
  pub room : length front' ≡ 512
  pub short : v' < 16777216
  pub number : front_of front' (c.at - 3) * 16777216 + v' ≡ front_of front (c.at - 3) * 16777216 + v
  pub fresh : (i : ℕ) → c.at - 3 ≤ i → get_or front' i 0 ≡ 0

-- no carry
pub before_same : {front front' : List ℕ} {c : Coder} {e v : ℕ} → Last front c e v → v < 16777216 → front' ≡ front
    → Before front c e v front' (v % 16777216)
before_same {front} {front'} {c} {e} {v} l h p =
    rw p (record { last = l; room = l.flows.room; short = omega arith; number = omega arith; fresh = l.flows.fresh })

-- one carry
pub before-carried : {front front' : List ℕ} {c : Coder} {e v : ℕ} → Last front c e v → 16777216 ≤ v → Carried (c.at - 3) front front'
    → Before front c e v front' (v % 16777216)
before-carried {front} {front'} {c} {e} {v} l h d =
    let n = d.number in
    let near = l.near in
    let low = l.flows.low in
    let m = power-most e l.most in
    record {
      last = l;
      room = d.room ∙ l.flows.room;
      short = omega arith;
      number = omega arith;
      fresh = λ i p. d.rest i p ∙ l.flows.fresh i p;
    }

-- the first 512 bytes are the code, and zeros
pub end-done : {front front' : List ℕ} {c : Coder} {e v : ℕ} → Before front c e v front' (v % 16777216)
    → front_of (set (set front' (c.at - 3) (v / 65536 % 256)) (c.at - 2) (v / 256 % 256)) 512
    ≡ code_of (whole_of front c) * 2 ^ room_of 512 (whole_of front c)
end-done {front} {front'} {c} {e} {v} b =
    let l = b.last in
    let at = l.flows.at in
    let r = l.room in
    let n = b.number in
    let z = low_byte l in
    let p : v / 65536 % 256 ≡ v % 16777216 / 65536 = omega arith in
    let q : v / 256 % 256 ≡ v % 16777216 / 256 % 256 = omega arith in
    rw (p, q)
    (ended-front front' (c.at - 3) (c.at - 2) (v % 16777216) b.room (omega arith) (omega arith) b.fresh (omega arith)
    ∙ ap (λ (x : ℕ). x * 2 ^ (8 * (509 - (c.at - 3)))) n ∙ sym (code-whole l))
