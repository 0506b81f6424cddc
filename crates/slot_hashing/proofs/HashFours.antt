-- Four semi-octets pushed at once: the sixteen highest bits of the remainder and the sixteen new ones enter only as their sum, and
-- each semi-octet of that sum has its row of the table, what it comes to sixteen powers higher. Over p and n.
-- Assumes nothing.
use mathlib.Core.Path.{◌≡◌, sym, ap, ap₂, ◌∙◌}
use mathlib.Core.List.{List}
use Prim.Native.Nat.{ℕ, suc, ◌+◌, ◌*◌, ◌-◌, ◌/◌, ◌%◌, ◌^◌, ◌≤◌, ◌<◌}
use native.Mathlib.Omega.{arith}
use native.Mathlib.Nat.{mul_assoc, mod-lt}
use lib.Bits.{bit_xor}
use lib.ListN.{get_or}
use lib.Pow.{pow_pos, pow-add, split}
use Rattle.gf16.specs.Field.{sum}
use Rattle.slot_laws.specs.Hash.{Degree}
use Rattle.slot_hashing.specs.Inner.{lifted, steps_of, Stepped, semi_pushed}
use Rattle.slot_laws.proofs.Hash.{sum_below, sum_shifted, sum-scale, xors}
use Rattle.slot_hashing.proofs.HashTable.{
  four,
  lifted-lt,
  lifted-sum,
  lifted-low,
  higher,
  swap-low,
  none,
  digit-fits,
  step_is,
  lowest,
  lowest_step,
  semi-pushed-lt,
  place-lt,
  one_shifted,
}

-- ---- four semi-octets are one lift

-- a semi-octet pushed k powers later is one k places lower
semi-lifted : (p n m k c r : ℕ) → 4 + (m + k) ≡ n → Degree p n → r < 2 ^ n
    → semi_pushed p n c (lifted p n k r) ≡ lifted p n (suc (suc (suc (suc k)))) (sum r (c % 16 * 2 ^ m))
unfolding lifted
semi-lifted p n m k c r e d l =
    let g : c % 16 * 2 ^ m * 2 ^ k ≡ c % 16 * 2 ^ (m + k) =
    mul_assoc (c % 16) (2 ^ m) (2 ^ k) ∙ ap (λ (y : ℕ). c % 16 * y) (sym (pow-add 2 m k)) in
    let t : c % 16 * 2 ^ (m + k) < 2 ^ n = digit-fits (c % 16) (m + k) n (omega arith) (omega arith) in
    let u : c % 16 * 2 ^ m < 2 ^ n = digit-fits (c % 16) m n (omega arith) (omega arith) in
    let f : lifted p n k (c % 16 * 2 ^ m) ≡ c % 16 * 2 ^ (m + k) = lifted-low p n k (c % 16 * 2 ^ m) (omega arith) ∙ g in
    four p n (m + k) c (lifted p n k r) e d (lifted-lt p n k r d l)
    ∙ ap (lifted p n 4) (ap (sum (lifted p n k r)) (sym f) ∙ sym (lifted-sum p n k r (c % 16 * 2 ^ m) d l u))

-- four digits of a number, and the number
digits : (a b c d : ℕ) → a < 16 → b < 16 → c < 16 → sum (d * 4096) (sum (c * 256) (sum (b * 16) a)) ≡ a + 16 * b + 256 * c + 4096 * d
digits a b c d h k l =
    let x : sum (b * 16) a ≡ b * 16 + a = sum_shifted b 4 a h in
    let y : sum (c * 256) (b * 16 + a) ≡ c * 256 + (b * 16 + a) = sum_shifted c 8 (b * 16 + a) (omega arith) in
    let z : sum (d * 4096) (c * 256 + (b * 16 + a)) ≡ d * 4096 + (c * 256 + (b * 16 + a)) =
    sum_shifted d 12 (c * 256 + (b * 16 + a)) (omega arith) in
    ap (λ (s : ℕ). sum (d * 4096) (sum (c * 256) s)) x ∙ ap (sum (d * 4096)) y ∙ z ∙ omega arith

digits-at : (a b c d m : ℕ) → a < 16 → b < 16 → c < 16
    → sum (d * 2 ^ (12 + m)) (sum (c * 2 ^ (8 + m)) (sum (b * 2 ^ (4 + m)) (a * 2 ^ m))) ≡ (a + 16 * b + 256 * c + 4096 * d) * 2 ^ m
digits-at a b c d m h k l =
    ap₂ sum (higher d 12 m) (ap₂ sum (higher c 8 m) (ap (λ (x : ℕ). sum x (a * 2 ^ m)) (higher b 4 m) ∙ sum-scale (b * 16) a m)
    ∙ sum-scale (c * 256) (sum (b * 16) a) m)
    ∙ sum-scale (d * 4096) (sum (c * 256) (sum (b * 16) a)) m
    ∙ ap (λ (x : ℕ). x * 2 ^ m) (digits a b c d h k l)

gather : (r a b c d : ℕ) → sum (sum (sum (sum r d) c) b) a ≡ sum r (sum d (sum c (sum b a)))
gather r a b c d = simp xors

sixteen : (p n m a b c d r : ℕ) → 16 + m ≡ n → Degree p n → r < 2 ^ n
    → semi_pushed p n a (semi_pushed p n b (semi_pushed p n c (semi_pushed p n d r)))
    ≡ lifted p n 16 (sum r ((a % 16 + 16 * (b % 16) + 256 * (c % 16) + 4096 * (d % 16)) * 2 ^ m))
sixteen p n m a b c d r e g l =
    let d3 : ℕ = d % 16 * 2 ^ (12 + m) in
    let d2 : ℕ = c % 16 * 2 ^ (8 + m) in
    let d1 : ℕ = b % 16 * 2 ^ (4 + m) in
    let l3 : sum r d3 < 2 ^ n = sum_below n r d3 l (digit-fits (d % 16) (12 + m) n (omega arith) (omega arith)) in
    let l2 : sum (sum r d3) d2 < 2 ^ n = sum_below n (sum r d3) d2 l3 (digit-fits (c % 16) (8 + m) n (omega arith) (omega arith)) in
    let l1 : sum (sum (sum r d3) d2) d1 < 2 ^ n = sum_below n (sum (sum r d3) d2) d1 l2
    (digit-fits (b % 16) (4 + m) n (omega arith) (omega arith)) in
    let s3 = ap (semi_pushed p n d) (none p n r) ∙ semi-lifted p n (12 + m) 0 d r (omega arith) g l in
    let s2 = ap (semi_pushed p n c) s3 ∙ semi-lifted p n (8 + m) 4 c (sum r d3) (omega arith) g l3 in
    let s1 = ap (semi_pushed p n b) s2 ∙ semi-lifted p n (4 + m) 8 b (sum (sum r d3) d2) (omega arith) g l2 in
    let s0 = ap (semi_pushed p n a) s1 ∙ semi-lifted p n m 12 a (sum (sum (sum r d3) d2) d1) (omega arith) g l1 in
    s0 ∙ ap (lifted p n 16) (gather r (a % 16 * 2 ^ m) d1 d2 d3
    ∙ ap (sum r) (digits-at (a % 16) (b % 16) (c % 16) (d % 16) m (omega arith) (omega arith) (omega arith)))

-- ---- and the lift is by the tables

lift-four : (p n q x y z w : ℕ) → Degree p n → q < 2 ^ n → x < 2 ^ n → y < 2 ^ n → z < 2 ^ n → w < 2 ^ n
    → lifted p n 16 (sum q (sum x (sum y (sum z w))))
    ≡ sum (lifted p n 16 q) (sum (lifted p n 16 x) (sum (lifted p n 16 y) (sum (lifted p n 16 z) (lifted p n 16 w))))
lift-four p n q x y z w d hq hx hy hz hw =
    let hzw = sum_below n z w hz hw in
    let hyzw = sum_below n y (sum z w) hy hzw in
    let hxyzw = sum_below n x (sum y (sum z w)) hx hyzw in
    lifted-sum p n 16 q (sum x (sum y (sum z w))) d hq hxyzw
    ∙ ap (sum (lifted p n 16 q)) (lifted-sum p n 16 x (sum y (sum z w)) d hx hyzw
    ∙ ap (sum (lifted p n 16 x)) (lifted-sum p n 16 y (sum z w) d hy hzw ∙ ap (sum (lifted p n 16 y)) (lifted-sum p n 16 z w d hz hw)))

paired : (q x y z w : ℕ) → sum q (sum x (sum y (sum z w))) ≡ sum (sum q (sum x y)) (sum z w)
paired q x y z w = simp xors

-- the sixteen highest bits t, digit by digit
by-tables : (p n m t q : ℕ) (steps : List ℕ) → 16 + m ≡ n → Degree p n → t < 65536 → q < 2 ^ m → steps ≡ steps_of p n
    → lifted p n 16 (sum q (t * 2 ^ m))
    ≡ sum (sum (q * 65536) (sum (get_or steps (48 + t / 4096) 0) (get_or steps (32 + t / 256 % 16) 0)))
    (sum (get_or steps (16 + t / 16 % 16) 0) (get_or steps (t % 16) 0))
by-tables p n m t q steps e d h l s =
    let k : n - 16 ≡ m = omega arith in
    let w : 2 ^ n ≡ 65536 * 2 ^ m = ap (λ (x : ℕ). 2 ^ x) (sym e) ∙ pow-add 2 16 m in
    let t-is : t ≡ t % 16 + 16 * (t / 16 % 16) + 256 * (t / 256 % 16) + 4096 * (t / 4096) = omega arith in
    let b0 : t % 16 < 16 = omega arith in
    let b1 : t / 16 % 16 < 16 = omega arith in
    let b2 : t / 256 % 16 < 16 = omega arith in
    let b3 : t / 4096 < 16 = omega arith in
    let at-is : t * 2 ^ m ≡ sum (t / 4096 * 2 ^ (12 + m))
    (sum (t / 256 % 16 * 2 ^ (8 + m)) (sum (t / 16 % 16 * 2 ^ (4 + m)) (t % 16 * 2 ^ m))) =
    ap (λ (x : ℕ). x * 2 ^ m) t-is ∙ sym (digits-at (t % 16) (t / 16 % 16) (t / 256 % 16) (t / 4096) m b0 b1 b2) in
    let row : (j u : ℕ) → j < 4 → u < 16 → get_or steps (16 * j + u) 0 ≡ lifted p n 16 (u * 2 ^ (4 * j + m)) =
    λ j u a b. step_is p n j u steps s a b ∙ ap (λ (x : ℕ). lifted p n 16 (u * 2 ^ (4 * j + x))) k in
    let e3 : get_or steps (48 + t / 4096) 0 ≡ lifted p n 16 (t / 4096 * 2 ^ (12 + m)) = row 3 (t / 4096) (omega arith) b3 in
    let e2 : get_or steps (32 + t / 256 % 16) 0 ≡ lifted p n 16 (t / 256 % 16 * 2 ^ (8 + m)) = row 2 (t / 256 % 16) (omega arith) b2 in
    let e1 : get_or steps (16 + t / 16 % 16) 0 ≡ lifted p n 16 (t / 16 % 16 * 2 ^ (4 + m)) = row 1 (t / 16 % 16) (omega arith) b1 in
    let e0 : get_or steps (t % 16) 0 ≡ lifted p n 16 (t % 16 * 2 ^ m) =
    lowest_step p n (t % 16) steps s (omega arith) b0 ∙ lowest p n m (t % 16) e b0 in
    let g = pow_pos m in
    ap (λ (x : ℕ). lifted p n 16 (sum q x)) at-is
    ∙ lift-four p n q _ _ _ _ d (omega arith) (digit-fits (t / 4096) (12 + m) n b3 (omega arith))
    (digit-fits (t / 256 % 16) (8 + m) n b2 (omega arith))
    (digit-fits (t / 16 % 16) (4 + m) n b1 (omega arith)) (digit-fits (t % 16) m n b0 (omega arith))
    ∙ ap₂ sum (lifted-low p n 16 q (omega arith)) (ap₂ sum (sym e3) (ap₂ sum (sym e2) (ap₂ sum (sym e1) (sym e0))))
    ∙ paired _ _ _ _ _

-- four semi-octets pushed by the tables
four_is : (p n a b c d r : ℕ) (steps : List ℕ) → Degree p n → 16 ≤ n → r < 2 ^ n → steps ≡ steps_of p n → (t : ℕ)
    → t ≡ sum (r / 2 ^ (n - 16)) (a % 16 + 16 * (b % 16) + 256 * (c % 16) + 4096 * (d % 16)) → t < 65536
    → sum (sum (r % 2 ^ (n - 16) * 65536) (sum (get_or steps (48 + t / 4096) 0) (get_or steps (32 + t / 256 % 16) 0)))
    (sum (get_or steps (16 + t / 16 % 16) 0) (get_or steps (t % 16) 0))
    ≡ semi_pushed p n a (semi_pushed p n b (semi_pushed p n c (semi_pushed p n d r)))
four_is p n a b c d r steps g f l s t t-is t-lt =
    let m : ℕ = n - 16 in
    let e : 16 + m ≡ n = omega arith in
    let w : ℕ = a % 16 + 16 * (b % 16) + 256 * (c % 16) + 4096 * (d % 16) in
    let h : ℕ = r / 2 ^ m in
    let q : ℕ = r % 2 ^ m in
    let q-lt : q < 2 ^ m = mod-lt r (pow_pos m) in
    let r-is : r ≡ sum (h * 2 ^ m) q = sym (split r m) ∙ sym (sum_shifted h m q q-lt) in
    let x : sum r (w * 2 ^ m) ≡ sum q (t * 2 ^ m) =
    ap (λ (x : ℕ). sum x (w * 2 ^ m)) r-is ∙ swap-low (h * 2 ^ m) q (w * 2 ^ m)
    ∙ ap (sum q) (sum-scale h w m ∙ ap (λ (y : ℕ). y * 2 ^ m) (sym t-is)) in
    sym (sixteen p n m a b c d r e g l ∙ ap (lifted p n 16) x ∙ by-tables p n m t q steps e g t-lt q-lt s)

-- ---- what the machine's operations ask

pub upper_lt : (n w r : ℕ) → 16 ≤ n → r < 2 ^ n → w < 65536 → 48 + bit_xor (r / 2 ^ (n - 16)) w / 4096 < 64
upper_lt n w r f l h = let g = place-lt n 16 w r f l h in omega arith

-- the value in the machine's operations
pub four-step : (p n a b c d r w t v : ℕ) (steps : List ℕ) → Stepped p n steps → r < 2 ^ n
    → w ≡ a % 16 + 16 * (b % 16) + 256 * (c % 16) + 4096 * (d % 16) → t ≡ bit_xor (r / 2 ^ (n - 16)) w
    → v ≡ bit_xor (bit_xor (r % (1 * 2 ^ (n - 16) % 4294967296) * 65536)
    (bit_xor (get_or steps (48 + t / 4096) 0) (get_or steps (32 + t / 256 % 16) 0)))
    (bit_xor (get_or steps (16 + t / 16 % 16) 0) (get_or steps (t % 16) 0))
    → (v ≡ semi_pushed p n a (semi_pushed p n b (semi_pushed p n c (semi_pushed p n d r)))) × (v < 2 ^ n)
unfolding sum
four-step p n a b c d r w t v steps s l w-is t-is e =
    let g = s.divisor.degree in
    let y : t < 65536 = rw t-is (place-lt n 16 w r s.from l (omega arith)) in
    let x : v ≡ semi_pushed p n a (semi_pushed p n b (semi_pushed p n c (semi_pushed p n d r))) =
    e ∙ ap
    (λ (y : ℕ). bit_xor (bit_xor (r % y * 65536) (bit_xor (get_or steps (48 + t / 4096) 0) (get_or steps (32 + t / 256 % 16) 0)))
    (bit_xor (get_or steps (16 + t / 16 % 16) 0) (get_or steps (t % 16) 0)))
    (one_shifted n 16 s.divisor.to)
    ∙ four_is p n a b c d r steps g s.from l s.table t (t-is ∙ ap (bit_xor (r / 2 ^ (n - 16))) w-is) y in
    let z = semi-pushed-lt p n a _ g (semi-pushed-lt p n b _ g (semi-pushed-lt p n c _ g (semi-pushed-lt p n d r g l))) in
    (x, rw x z)
