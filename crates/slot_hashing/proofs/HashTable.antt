-- A semi-octet pushed at once: the four highest bits of the remainder and the four new ones enter only as their sum, and a table has what
-- that sum comes to four powers higher. Over p and n, as the table is.
-- Assumes nothing.
use mathlib.Core.Path.{◌≡◌, refl, sym, ap, ap₂, ◌∙◌, subst}
use mathlib.Core.Bool.{Bool}
use mathlib.Core.List.{List}
use Prim.Native.Nat.{ℕ, zero, suc, ◌+◌, ◌*◌, ◌-◌, ◌/◌, ◌%◌, ◌^◌, ◌≤◌, ◌<◌}
use native.Mathlib.Omega.{arith}
use native.Mathlib.Nat.{two-pow-succ, zero-mul, one-mul, mul_comm, mul_assoc, div-lt_iff_lt-mul, div-eq_of_lt, mod-lt}
use lib.Bits.{bit_xor, xor_lt}
use lib.Dec.{eqb, eqb→eq}
use lib.ListN.{get_or}
use lib.Pow.{pow_pos, pow_mono, pow-add, shl_lt, shl_exact, split}
use Rattle.laws.proofs.Every.{at}
use Rattle.laws.proofs.Tab.{get_or-tab}
use Rattle.gf16.specs.Field.{sum}
use Rattle.gf16.proofs.Laws.{sum-zero, sum_lt}
use Rattle.slot_laws.specs.Hash.{Degree, pushed}
use Rattle.slot_hashing.specs.Inner.{lifted, step_at, steps_of, Stepped, semi_pushed}
use Rattle.slot_laws.proofs.Hash.{pushed-lt, sum_below, sum_shifted, sum-shr, sum-scale, sum-double, bit-lt, bit-times, exchange, xors}

-- ---- powers higher

-- a push of the bit 0
shift_is : (p n r : ℕ) → pushed p n 0 r ≡ sum (2 * r) (2 * r / 2 ^ n * p)
unfolding pushed
shift_is p n r = ap (λ (v : ℕ). sum v (v / 2 ^ n * p)) (ap (sum (2 * r)) (zero-mul (2 ^ n)) ∙ sum-zero (2 * r))

shift-sum : (p n r s : ℕ) → r < 2 ^ n → s < 2 ^ n → pushed p n 0 (sum r s) ≡ sum (pushed p n 0 r) (pushed p n 0 s)
shift-sum p n r s h k =
    let a : 2 * r / 2 ^ n < 2 = (div-lt_iff_lt-mul (pow_pos n)).1 (omega arith) in
    let b : 2 * s / 2 ^ n < 2 = (div-lt_iff_lt-mul (pow_pos n)).1 (omega arith) in
    shift_is p n (sum r s)
    ∙ ap (λ (v : ℕ). sum v (v / 2 ^ n * p)) (sym (sum-double r s))
    ∙ ap (λ (x : ℕ). sum (sum (2 * r) (2 * s)) (x * p)) (sum-shr (2 * r) (2 * s) n)
    ∙ ap (sum (sum (2 * r) (2 * s))) (bit-times (2 * r / 2 ^ n) (2 * s / 2 ^ n) p a b)
    ∙ exchange (2 * r) (2 * s) (2 * r / 2 ^ n * p) (2 * s / 2 ^ n * p)
    ∙ sym (ap₂ sum (shift_is p n r) (shift_is p n s))

-- what stays below x^n is not reduced
shift-low : (p n r : ℕ) → 2 * r < 2 ^ n → pushed p n 0 r ≡ 2 * r
shift-low p n r h =
    shift_is p n r ∙ ap (λ (x : ℕ). sum (2 * r) (x * p)) (div-eq_of_lt h) ∙ ap (sum (2 * r)) (zero-mul p) ∙ sum-zero (2 * r)

pub lifted-lt : (p n k r : ℕ) → Degree p n → r < 2 ^ n → lifted p n k r < 2 ^ n
unfolding lifted
lifted-lt p n zero r d h = h
lifted-lt p n (suc k) r d h = pushed-lt p n 0 (lifted p n k r) d (omega arith) (lifted-lt p n k r d h)

pub lifted-sum : (p n k r s : ℕ) → Degree p n → r < 2 ^ n → s < 2 ^ n → lifted p n k (sum r s) ≡ sum (lifted p n k r) (lifted p n k s)
unfolding lifted
lifted-sum p n zero r s d h l = refl
lifted-sum p n (suc k) r s d h l =
    ap (pushed p n 0) (lifted-sum p n k r s d h l)
    ∙ shift-sum p n (lifted p n k r) (lifted p n k s) (lifted-lt p n k r d h) (lifted-lt p n k s d l)

twice : (x k : ℕ) → 2 * (x * 2 ^ k) ≡ x * 2 ^ suc k
twice x k =
    let e : 2 ^ k * 2 ≡ 2 ^ suc k = omega (arith, two-pow-succ k) in
    mul_comm 2 (x * 2 ^ k) ∙ mul_assoc x (2 ^ k) 2 ∙ ap (λ (y : ℕ). x * y) e

pub lifted-low : (p n k x : ℕ) → x * 2 ^ k < 2 ^ n → lifted p n k x ≡ x * 2 ^ k
unfolding lifted
lifted-low p n zero x h = omega arith
lifted-low p n (suc k) x h =
    let t = twice x k in
    ap (pushed p n 0) (lifted-low p n k x (omega arith)) ∙ shift-low p n (x * 2 ^ k) (omega arith) ∙ t

-- ---- bits pushed are bits of the remainder

placed : (b j n : ℕ) → b < 2 → j < n → b * 2 ^ j < 2 ^ n
placed b j n h l = let m : 2 ^ suc j ≤ 2 ^ n = pow_mono l in let t = bit-lt b j h in omega arith

-- the new bit enters as the highest of the remainder
push-high : (p i b r : ℕ) → pushed p (suc i) b r ≡ pushed p (suc i) 0 (sum r (b * 2 ^ i))
unfolding pushed
push-high p i b r =
    let e : 2 * sum r (b * 2 ^ i) ≡ sum (2 * r) (b * 2 ^ suc i) = sym (sum-double r (b * 2 ^ i)) ∙ ap (sum (2 * r)) (twice b i) in
    let z : sum (2 * sum r (b * 2 ^ i)) (0 * 2 ^ suc i) ≡ sum (2 * r) (b * 2 ^ suc i) =
    ap₂ sum e (zero-mul (2 ^ suc i)) ∙ sum-zero (sum (2 * r) (b * 2 ^ suc i)) in
    sym (ap (λ (v : ℕ). sum v (v / 2 ^ suc i * p)) z)

-- and k powers before that as the bit k places lower
push-lifted : (p j k b r : ℕ) → Degree p (suc (j + k)) → b < 2 → r < 2 ^ suc (j + k)
    → pushed p (suc (j + k)) b (lifted p (suc (j + k)) k r) ≡ lifted p (suc (j + k)) (suc k) (sum r (b * 2 ^ j))
unfolding lifted
push-lifted p j k b r d h l =
    let n : ℕ = suc (j + k) in
    let e : b * 2 ^ j * 2 ^ k ≡ b * 2 ^ (j + k) = mul_assoc b (2 ^ j) (2 ^ k) ∙ ap (λ (y : ℕ). b * y) (sym (pow-add 2 j k)) in
    let t : b * 2 ^ (j + k) < 2 ^ n = placed b (j + k) n h (omega arith) in
    let f : lifted p n k (b * 2 ^ j) ≡ b * 2 ^ (j + k) = lifted-low p n k (b * 2 ^ j) (omega arith) ∙ e in
    let g : b * 2 ^ j < 2 ^ n = placed b j n h (omega arith) in
    push-high p (j + k) b (lifted p n k r)
    ∙ ap (λ (x : ℕ). pushed p n 0 (sum (lifted p n k r) x)) (sym f)
    ∙ ap (pushed p n 0) (sym (lifted-sum p n k r (b * 2 ^ j) d l g))

low_bits : ℕ → Bool
low_bits k = eqb (sum (sum (sum (k / 8 % 2 * 8) (k / 4 % 2 * 4)) (k / 2 % 2 * 2)) (k % 2)) k

semi-bits : (c : ℕ) → sum (sum (sum (c / 8 % 2 * 8) (c / 4 % 2 * 4)) (c / 2 % 2 * 2)) (c % 2) ≡ c % 16
unfolding low_bits sum
semi-bits c =
    let a : c / 8 % 2 ≡ c % 16 / 8 % 2 = omega arith in
    let b : c / 4 % 2 ≡ c % 16 / 4 % 2 = omega arith in
    let d : c / 2 % 2 ≡ c % 16 / 2 % 2 = omega arith in
    let e : c % 2 ≡ c % 16 % 2 = omega arith in
    let f : sum (sum (sum (c / 8 % 2 * 8) (c / 4 % 2 * 4)) (c / 2 % 2 * 2)) (c % 2) ≡ sum
    (sum (sum (c % 16 / 8 % 2 * 8) (c % 16 / 4 % 2 * 4)) (c % 16 / 2 % 2 * 2)) (c % 16 % 2) =
    ap₂ sum (ap₂ sum (ap₂ sum (ap (λ (x : ℕ). x * 8) a) (ap (λ (x : ℕ). x * 4) b)) (ap (λ (x : ℕ). x * 2) d)) e in
    f ∙ eqb→eq _ _ (at 16 low_bits tt (c % 16) (omega arith))

pub higher : (b i m : ℕ) → b * 2 ^ (i + m) ≡ b * 2 ^ i * 2 ^ m
higher b i m = ap (λ (y : ℕ). b * y) (pow-add 2 i m) ∙ sym (mul_assoc b (2 ^ i) (2 ^ m))

-- the four bits at the four highest places
semi-high : (c m : ℕ) → sum (sum (sum (c / 8 % 2 * 2 ^ (3 + m)) (c / 4 % 2 * 2 ^ (2 + m))) (c / 2 % 2 * 2 ^ (1 + m))) (c % 2 * 2 ^ m) ≡ c %
    16 * 2 ^ m
semi-high c m =
    ap (λ (x : ℕ). sum x (c % 2 * 2 ^ m))
    (ap₂ sum (ap₂ sum (higher (c / 8 % 2) 3 m) (higher (c / 4 % 2) 2 m) ∙ sum-scale (c / 8 % 2 * 8) (c / 4 % 2 * 4) m)
    (higher (c / 2 % 2) 1 m)
    ∙ sum-scale (sum (c / 8 % 2 * 8) (c / 4 % 2 * 4)) (c / 2 % 2 * 2) m)
    ∙ sum-scale (sum (sum (c / 8 % 2 * 8) (c / 4 % 2 * 4)) (c / 2 % 2 * 2)) (c % 2) m
    ∙ ap (λ (x : ℕ). x * 2 ^ m) (semi-bits c)

gather : (r a b c d : ℕ) → sum (sum (sum (sum r a) b) c) d ≡ sum r (sum (sum (sum a b) c) d)
gather r a b c d = simp xors

-- a push of the k-th bit of a semi-octet, n given as it comes
push_at : (p n j k b r : ℕ) → suc (j + k) ≡ n → Degree p n → b < 2 → r < 2 ^ n
    → pushed p n b (lifted p n k r) ≡ lifted p n (suc k) (sum r (b * 2 ^ j))
push_at p n j k b r e d h l =
    subst (λ (n : ℕ). Degree p n → r < 2 ^ n → pushed p n b (lifted p n k r) ≡ lifted p n (suc k) (sum r (b * 2 ^ j))) e
    (λ d l. push-lifted p j k b r d h l) d l

pub none : (p n r : ℕ) → r ≡ lifted p n 0 r
unfolding lifted
none p n r = refl

-- four pushes are one lift
pub four : (p n m c r : ℕ) → 4 + m ≡ n → Degree p n → r < 2 ^ n
    → pushed p n (c % 2) (pushed p n (c / 2 % 2) (pushed p n (c / 4 % 2) (pushed p n (c / 8 % 2) r))) ≡ lifted p n 4
    (sum r (c % 16 * 2 ^ m))
four p n m c r e d l =
    let b3 : ℕ = c / 8 % 2 * 2 ^ (3 + m) in
    let b2 : ℕ = c / 4 % 2 * 2 ^ (2 + m) in
    let b1 : ℕ = c / 2 % 2 * 2 ^ (1 + m) in
    let b0 : ℕ = c % 2 * 2 ^ m in
    let l3 : sum r b3 < 2 ^ n = sum_below n r b3 l (placed (c / 8 % 2) (3 + m) n (omega arith) (omega arith)) in
    let l2 : sum (sum r b3) b2 < 2 ^ n = sum_below n (sum r b3) b2 l3 (placed (c / 4 % 2) (2 + m) n (omega arith) (omega arith)) in
    let l1 : sum (sum (sum r b3) b2) b1 < 2 ^ n = sum_below n (sum (sum r b3) b2) b1 l2
    (placed (c / 2 % 2) (1 + m) n (omega arith) (omega arith)) in
    let s3 = ap (pushed p n (c / 8 % 2)) (none p n r) ∙ push_at p n (3 + m) 0 (c / 8 % 2) r (omega arith) d (omega arith) l in
    let s2 = ap (pushed p n (c / 4 % 2)) s3 ∙ push_at p n (2 + m) 1 (c / 4 % 2) (sum r b3) (omega arith) d (omega arith) l3 in
    let s1 = ap (pushed p n (c / 2 % 2)) s2 ∙ push_at p n (1 + m) 2 (c / 2 % 2) (sum (sum r b3) b2) (omega arith) d (omega arith) l2 in
    let s0 = ap (pushed p n (c % 2)) s1 ∙ push_at p n m 3 (c % 2) (sum (sum (sum r b3) b2) b1) (omega arith) d (omega arith) l1 in
    s0 ∙ ap (lifted p n 4) (gather r b3 b2 b1 b0 ∙ ap (sum r) (semi-high c m))

pub swap-low : (h l c : ℕ) → sum (sum h l) c ≡ sum l (sum h c)
swap-low h l c = simp xors

-- ---- the table

-- a semi-octet at its place below x^n
pub digit-fits : (c k n : ℕ) → c < 16 → 4 + k ≤ n → c * 2 ^ k < 2 ^ n
digit-fits c k n h l = let t : c * 2 ^ k < 2 ^ (4 + k) = shl_lt 4 k h in let g : 2 ^ (4 + k) ≤ 2 ^ n = pow_mono l in omega arith

pub step_is : (p n k t : ℕ) (steps : List ℕ) → steps ≡ steps_of p n → k < 4 → t < 16
    → get_or steps (16 * k + t) 0 ≡ lifted p n 16 (t * 2 ^ (4 * k + (n - 16)))
unfolding steps_of step_at
step_is p n k t steps e h l =
    let x : (16 * k + t) % 16 ≡ t = omega arith in
    let y : (16 * k + t) / 16 ≡ k = omega arith in
    ap (λ (s : List ℕ). get_or s (16 * k + t) 0) e ∙ get_or-tab (step_at p n) 64 (16 * k + t) (omega arith)
    ∙ ap₂ (λ (a b : ℕ). lifted p n 16 (a * 2 ^ (4 * b + (n - 16)))) x y

-- the lowest of the four semi-octets needs only four powers
pub lowest : (p n m t : ℕ) → 16 + m ≡ n → t < 16 → lifted p n 4 (t * 2 ^ (n - 4)) ≡ lifted p n 16 (t * 2 ^ m)
unfolding lifted
lowest p n m t e h =
    let k : n - 4 ≡ m + 12 = omega arith in
    let g : t * 2 ^ m * 2 ^ 12 ≡ t * 2 ^ (n - 4) =
    mul_assoc t (2 ^ m) (2 ^ 12) ∙ ap (λ (y : ℕ). t * y) (sym (pow-add 2 m 12) ∙ ap (λ (x : ℕ). 2 ^ x) (sym k)) in
    let u : t * 2 ^ (m + 12) < 2 ^ n = digit-fits t (m + 12) n h (omega arith) in
    let v : t * 2 ^ (n - 4) < 2 ^ n = rw k u in
    sym (ap (lifted p n 4) (lifted-low p n 12 (t * 2 ^ m) (omega arith) ∙ g))

pub lowest_step : (p n t : ℕ) (steps : List ℕ) → steps ≡ steps_of p n → 16 ≤ n → t < 16 → get_or steps t 0 ≡ lifted p n 4 (t * 2 ^ (n - 4))
lowest_step p n t steps e f h =
    let z : t ≡ 16 * 0 + t = omega arith in
    let m : 4 * 0 + (n - 16) ≡ n - 16 = omega arith in
    ap (λ (x : ℕ). get_or steps x 0) z ∙ step_is p n 0 t steps e (omega arith) h
    ∙ ap (λ (x : ℕ). lifted p n 16 (t * 2 ^ x)) m ∙ sym (lowest p n (n - 16) t (omega arith) h)

mul-lt-pow : (k m : ℕ) → k < 16 → k * 2 ^ m < 16 * 2 ^ m
mul-lt-pow k m h = rw (pow-add 2 4 m) at (shl_lt 4 m h)

-- a semi-octet pushed by the table
semi-is : (p n c r : ℕ) (table : List ℕ) → Degree p n → 16 ≤ n → r < 2 ^ n → table ≡ steps_of p n
    → sum (r % 2 ^ (n - 4) * 16) (get_or table (sum (r / 2 ^ (n - 4)) (c % 16)) 0)
    ≡ pushed p n (c % 2) (pushed p n (c / 2 % 2) (pushed p n (c / 4 % 2) (pushed p n (c / 8 % 2) r)))
semi-is p n c r table d f l t =
    let m : ℕ = n - 4 in
    let e : 4 + m ≡ n = omega arith in
    let w : 2 ^ n ≡ 16 * 2 ^ m = ap (λ (x : ℕ). 2 ^ x) (sym e) ∙ pow-add 2 4 m in
    let h : ℕ = r / 2 ^ m in
    let q : ℕ = r % 2 ^ m in
    let q-lt : q < 2 ^ m = mod-lt r (pow_pos m) in
    let h-lt : h < 16 = (div-lt_iff_lt-mul (pow_pos m)).1 (omega arith) in
    let k : ℕ = sum h (c % 16) in
    let k_lt : k < 16 = sum_lt h (c % 16) h-lt (omega arith) in
    let kk : k * 2 ^ m < 2 ^ n = rw w (mul-lt-pow k m k_lt) in
    let r-is : r ≡ sum (h * 2 ^ m) q = sym (split r m) ∙ sym (sum_shifted h m q q-lt) in
    let g : sum r (c % 16 * 2 ^ m) ≡ sum q (k * 2 ^ m) =
    ap (λ (x : ℕ). sum x (c % 16 * 2 ^ m)) r-is ∙ swap-low (h * 2 ^ m) q (c % 16 * 2 ^ m) ∙ ap (sum q) (sum-scale h (c % 16) m) in
    sym (four p n m c r e d l ∙ ap (lifted p n 4) g ∙ lifted-sum p n 4 q (k * 2 ^ m) d (omega arith) kk
    ∙ ap₂ sum (lifted-low p n 4 q (omega arith)) (sym (lowest_step p n k table t f k_lt)))

pub semi-pushed-lt : (p n c r : ℕ) → Degree p n → r < 2 ^ n → semi_pushed p n c r < 2 ^ n
semi-pushed-lt p n c r d l =
    let a = pushed-lt p n (c / 8 % 2) r d (omega arith) l in
    let b = pushed-lt p n (c / 4 % 2) _ d (omega arith) a in
    let g = pushed-lt p n (c / 2 % 2) _ d (omega arith) b in
    pushed-lt p n (c % 2) _ d (omega arith) g

-- ---- what the machine's operations ask

pub one_shifted : (n j : ℕ) → n ≤ 22 → 1 * 2 ^ (n - j) % 4294967296 ≡ 2 ^ (n - j)
one_shifted n j h = let k : 1 + (n - j) ≤ 32 = omega arith in shl_exact 1 (n - j) 32 (omega arith) k ∙ one-mul (2 ^ (n - j))

-- what is left of a remainder without its j highest bits
pub low_fits : (n j k r : ℕ) → n ≤ 22 → n - j ≤ k → r % (1 * 2 ^ (n - j) % 4294967296) < 2 ^ k
low_fits n j k r h f =
    let m : 2 ^ (n - j) ≤ 2 ^ k = pow_mono f in
    let l : r % 2 ^ (n - j) < 2 ^ (n - j) = mod-lt r (pow_pos (n - j)) in
    rw (one_shifted n j h) (omega arith)

-- the sum of the j highest bits and j new ones
pub place-lt : (n j w r : ℕ) → j ≤ n → r < 2 ^ n → w < 2 ^ j → bit_xor (r / 2 ^ (n - j)) w < 2 ^ j
place-lt n j w r f l k =
    let e : j + (n - j) ≡ n = omega arith in
    let x : 2 ^ n ≡ 2 ^ j * 2 ^ (n - j) = ap (λ (x : ℕ). 2 ^ x) (sym e) ∙ pow-add 2 j (n - j) in
    xor_lt j (r / 2 ^ (n - j)) w ((div-lt_iff_lt-mul (pow_pos (n - j))).1 (subst (λ (y : ℕ). r < y) x l)) k

-- the value in the machine's operations
pub semi-step : (p n c r w v : ℕ) (steps : List ℕ) → Stepped p n steps → r < 2 ^ n → w ≡ c % 16
    → v ≡ bit_xor (r % (1 * 2 ^ (n - 4) % 4294967296) * 16) (get_or steps (bit_xor (r / 2 ^ (n - 4)) w) 0)
    → (v ≡ semi_pushed p n c r) × (v < 2 ^ n)
unfolding sum
semi-step p n c r w v steps s l f e =
    let d = s.divisor.degree in
    let x : v ≡ semi_pushed p n c r =
    e ∙ ap₂ (λ (y w : ℕ). bit_xor (r % y * 16) (get_or steps (bit_xor (r / 2 ^ (n - 4)) w) 0)) (one_shifted n 4 s.divisor.to) f
    ∙ semi-is p n c r steps d s.from l s.table in
    (x, rw x (semi-pushed-lt p n c r d l))
