-- The packed shift register divides: at each root of the generating polynomial of degree n, what it holds after the data has the value of
-- x^n times the data. So its digits in front of the data make a word with these roots, which is the code word. All is over n; the table of
-- rows is the only thing that differs by the mode.
-- Assumes nothing.
use mathlib.Core.Path.{◌≡◌, refl, sym, ap, ap₂, ◌∙◌}
use mathlib.Core.Bool.{Bool, true, false}
use mathlib.Core.List.{List, [], ◌∷◌}
use Prim.Native.Nat.{ℕ, zero, suc, ◌+◌, ◌-◌, ◌*◌, ◌/◌, ◌%◌, ◌≤◌, ◌<◌}
use native.Mathlib.Omega.{arith}
use native.Mathlib.Nat.{add-zero, zero-add, add-suc, suc-add, mod-eq_of_lt}
use native.Mathlib.Numerals.{add-one}
use lib.Bits.{bit_xor, xor_mod, xor_shr}
use lib.Dec.{ltb}
use lib.ListN.{length, get_or, take, drop, take-append-drop, get_or-eq_default}
use lib.Seq.{get_or-drop, drop-drop, length-take-le}
use borrow.Author.Tests.{ltb-true, ltb-false}
use Rattle.gf16.specs.Field.{sum, product, power}
use Rattle.gf16.proofs.Laws.{
  ring,
  sum-zero,
  zero-sum,
  one_product,
  product-one,
  product-by-zero,
  zero-product,
  product-comm,
  sum_same,
  sum_self,
}
use Rattle.code_word_laws.specs.Polynomial.{value, scaled, rooted}
use Rattle.code_word_laws.specs.Word.{SemiOctets}
use Rattle.code_word_laws.specs.Make.{CodeWord}
use Rattle.code_word_laws.specs.Register.{gathered, row, rows_from, feedback, fed, register, with_checks}
use Rattle.code_word_laws.specs.Packed.{nibble}
use Rattle.code_word_laws.proofs.Packed.{nibble-xor, nibble-zero}
use Rattle.code_word_laws.proofs.Distance.{value-lt}
use Rattle.code_word_laws.proofs.Division.{
  Monic,
  rooted-monic,
  rooted-root,
  roots-valid,
  value-append,
  value-scaled,
  value_same,
  get_or-scaled,
  scaled-semi-octets,
  take-semi-octets,
}

-- ---- the value of what a number holds

-- the value at x of the n coefficients that r holds
abbrev pub held : ℕ → ℕ → ℕ → ℕ
held zero r x = 0
held (suc n) r x = sum (product (r % 16) (power x n)) (held n (r / 16) x)

-- it holds no more than n of them
abbrev pub Empty : ℕ → ℕ → Type 0
Empty n r = (j : ℕ) → n ≤ j → nibble j r ≡ 0

add_step : (a b p v w : ℕ) → sum (product (sum a b) p) (sum v w) ≡ sum (sum (product a p) v) (sum (product b p) w)
add_step a b p v w = simp ring

pub held-xor : (n a b x : ℕ) → held n (bit_xor a b) x ≡ sum (held n a x) (held n b x)
unfolding sum
held-xor zero a b x = sym (sum-zero 0)
held-xor (suc n) a b x =
    ap₂ (λ (u v : ℕ). sum (product u (power x n)) (held n v x)) (xor_mod a b 4) (xor_shr a b 4)
    ∙ ap (λ (v : ℕ). sum (product (sum (a % 16) (b % 16)) (power x n)) v) (held-xor n (a / 16) (b / 16) x)
    ∙ add_step (a % 16) (b % 16) (power x n) (held n (a / 16) x) (held n (b / 16) x)

rise-step : (a p x v d : ℕ) → sum (product a (product x p)) (sum (product x v) d) ≡ sum (product x (sum (product a p) v)) d
rise-step a p x v d = simp ring

-- one coefficient more stands below the others, and raises their powers
held_next : (n r x : ℕ) → held (suc n) r x ≡ sum (product x (held n r x)) (nibble n r)
unfolding power
held_next zero r x =
    let low : r % 16 % 16 ≡ r % 16 = omega arith in
    sum-zero (product (r % 16) 1) ∙ product-one (r % 16) ∙ low
    ∙ sym (ap (λ (v : ℕ). sum v (r % 16)) (product-by-zero x) ∙ zero-sum (r % 16))
held_next (suc n) r x =
    ap (λ (v : ℕ). sum (product (r % 16) (power x (suc n))) v) (held_next n (r / 16) x)
    ∙ rise-step (r % 16) (power x n) x (held n (r / 16) x) (nibble n (r / 16))

-- ---- the rows

gather-step : (a c p x v : ℕ) → sum (sum (product c p) a) (product (product x p) v) ≡ sum a (product p (sum c (product x v)))
gather-step a c p x v = simp ring

gathered-held : (cs : List ℕ) (m a x : ℕ) → SemiOctets cs
    → held (m + length cs) (gathered a cs) x ≡ sum (held m a x) (product (power x m) (value cs x))
unfolding gathered power
gathered-held [] m a x s =
    ap (λ (k : ℕ). held k a x) (add-zero m) ∙ sym (ap (λ (v : ℕ). sum (held m a x) v) (product-by-zero (power x m)) ∙ sum-zero (held m a x))
gathered-held (c ∷ cs) m a x s =
    let b = s.0 in
    let low : (c + 16 * a) % 16 ≡ c = omega arith in
    let high : (c + 16 * a) / 16 ≡ a = omega arith in
    ap (λ (k : ℕ). held k (gathered (c + 16 * a) cs) x) (add-suc m (length cs) ∙ sym (suc-add m (length cs)))
    ∙ gathered-held cs (suc m) (c + 16 * a) x s.1
    ∙ ap₂ (λ (u v : ℕ). sum (sum (product u (power x m)) (held m v x)) (product (power x (suc m)) (value cs x))) low high
    ∙ gather-step (held m a x) c (power x m) x (value cs x)

gathered-empty : (cs : List ℕ) (m a : ℕ) → SemiOctets cs → Empty m a → Empty (m + length cs) (gathered a cs)
unfolding gathered
gathered-empty [] m a s e j h = e j (omega arith)
gathered-empty (c ∷ cs) m a s e j h = gathered-empty cs (suc m) (c + 16 * a) s.1 more j (omega arith)
  where
    more : Empty (suc m) (c + 16 * a)
    more zero i = absurd (omega arith)
    more (suc k) i = let b = s.0 in let high : (c + 16 * a) / 16 ≡ a = omega arith in ap (λ (v : ℕ). nibble k v) high ∙ e k (omega arith)

scaled-length : (c : ℕ) (ds : List ℕ) → length (scaled c ds) ≡ length ds
unfolding scaled
scaled-length c [] = refl
scaled-length c (d ∷ ds) = ap suc (scaled-length c ds)

monic-long : (n : ℕ) (g : List ℕ) → Monic n g → n < length g
monic-long n g m = go (ltb n (length g)) refl
  where
    go : (b : Bool) → ltb n (length g) ≡ b → n < length g
    go true e = ltb-true n (length g) e
    go false e = let z : ◌≡◌ {A = ℕ} 0 1 = sym (get_or-eq_default g 0 {n = n} (ltb-false n (length g) e)) ∙ m.leads in
        absurd (omega arith)

-- the coefficients of f times the generator below power n
abbrev lows : ℕ → ℕ → List ℕ
lows n f = take n (scaled f (rooted n))

lows-length : (n f : ℕ) → length (lows n f) ≡ n
lows-length n f = length-take-le n (scaled f (rooted n))
    (omega (arith, scaled-length f (rooted n), monic-long n (rooted n) (rooted-monic n)))

lows-semi-octets : (n f : ℕ) → SemiOctets (lows n f)
lows-semi-octets n f = take-semi-octets n (scaled f (rooted n)) (scaled-semi-octets f (rooted n))

-- from power n on, f times the generator is f
highs : (n f x : ℕ) → f < 16 → value (drop n (scaled f (rooted n))) x ≡ f
highs n f x h = value_same (drop n (scaled f (rooted n))) (f ∷ []) x at ∙ ap (λ (v : ℕ). sum f v) (product-by-zero x) ∙ sum-zero f
  where
    all : (k : ℕ) → get_or (drop n (scaled f (rooted n))) k 0 ≡ product f (get_or (rooted n) (n + k) 0)
    all k = get_or-drop n (scaled f (rooted n)) k 0 ∙ get_or-scaled f (rooted n) (n + k)

    at : (k : ℕ) → get_or (drop n (scaled f (rooted n))) k 0 ≡ get_or (f ∷ []) k 0
    at zero =
        all 0 ∙ ap (λ (i : ℕ). product f (get_or (rooted n) i 0)) (add-zero n)
        ∙ ap (λ (v : ℕ). product f v) (rooted-monic n).leads ∙ product-one f ∙ mod-eq_of_lt h
    at (suc k) = all (suc k) ∙ ap (λ (v : ℕ). product f v) ((rooted-monic n).ends (n + suc k) (omega arith)) ∙ product-by-zero f

pub drop-semi-octets : (n : ℕ) (cs : List ℕ) → SemiOctets cs → SemiOctets (drop n cs)
drop-semi-octets zero cs s = s
drop-semi-octets (suc n) [] s = tt
drop-semi-octets (suc n) (c ∷ cs) s = drop-semi-octets n cs s.1

-- at a root of the generator, its powers below n have the value of its power n
lows-value : (n f x : ℕ) → f < 16 → value (rooted n) x ≡ 0 → value (lows n f) x ≡ product (power x n) f
lows-value n f x h z =
    let l = scaled f (rooted n) in
    let split : sum (value (lows n f) x) (product (power x n) f) ≡ 0 =
    ap₂ (λ (k v : ℕ). sum (value (lows n f) x) (product (power x k) v)) (sym (lows-length n f)) (sym (highs n f x h))
    ∙ sym (value-append (lows n f) (drop n l) x (drop-semi-octets n l (scaled-semi-octets f (rooted n))))
    ∙ ap (λ (w : List ℕ). value w x) (take-append-drop n l)
    ∙ value-scaled f (rooted n) x
    ∙ ap (λ (v : ℕ). product f v) z
    ∙ product-by-zero f in
    sum_same (value (lows n f) x) (product (power x n) f) split

pub row-held : (n f x : ℕ) → f < 16 → value (rooted n) x ≡ 0 → held n (row n f) x ≡ product f (power x n)
unfolding row power
row-held n f x h z =
    ap (λ (k : ℕ). held k (gathered 0 (lows n f)) x) (sym (lows-length n f) ∙ sym (zero-add (length (lows n f))))
    ∙ gathered-held (lows n f) 0 0 x (lows-semi-octets n f)
    ∙ zero-sum (product 1 (value (lows n f) x))
    ∙ one_product (value (lows n f) x)
    ∙ mod-eq_of_lt (value-lt (lows n f) x (lows-semi-octets n f))
    ∙ lows-value n f x h z
    ∙ product-comm (power x n) f

pub row-empty : (n f : ℕ) → Empty n (row n f)
unfolding row
row-empty n f j h = gathered-empty (lows n f) 0 0 (lows-semi-octets n f) (λ i k. nibble-zero i) j (omega (arith, lows-length n f))

rows_at : (n f k i : ℕ) → i < k → get_or (rows_from n f k) i 0 ≡ row n (f + i)
unfolding rows_from
rows_at n f zero i h = absurd (omega arith)
rows_at n f (suc k) zero h = ap (λ (a : ℕ). row n a) (sym (add-zero f))
rows_at n f (suc k) (suc i) h = rows_at n (suc f) k i (omega arith) ∙ ap (λ (a : ℕ). row n a) (suc-add f i ∙ sym (add-suc f i))

pub feedback-at : (n f : ℕ) → f < 16 → get_or (feedback n) f 0 ≡ row n f
unfolding feedback
feedback-at n f h = rows_at n 0 16 f h ∙ ap (λ (a : ℕ). row n a) (zero-add f)

-- ---- one step, and all

fed-is : (n r c : ℕ) → c < 16 → fed (feedback n) r c ≡ bit_xor (bit_xor (r / 16) (row n c)) (row n (r % 16))
fed-is n r c h =
    ap₂ (λ (u v : ℕ). bit_xor (bit_xor (r / 16) u) v) (feedback-at n c h) (feedback-at n (r % 16) (omega arith))

pub fed-empty : (n r c : ℕ) → c < 16 → Empty n r → Empty n (fed (feedback n) r c)
fed-empty n r c h e j i =
    ap (λ (v : ℕ). nibble j v) (fed-is n r c h)
    ∙ nibble-xor j (bit_xor (r / 16) (row n c)) (row n (r % 16))
    ∙ ap₂ sum (nibble-xor j (r / 16) (row n c) ∙ ap₂ sum (e (suc j) (omega arith)) (row-empty n c j i) ∙ sum-zero 0)
    (row-empty n (r % 16) j i)
    ∙ sum-zero 0

feed-step : (x v a c p : ℕ)
    → sum (sum (product x v) (product c (product x p))) (product a (product x p)) ≡ sum (product x (sum (product a p) v))
    (product c (product x p))
feed-step x v a c p = simp ring

-- the register times x, and the new semi-octet at power n
pub fed-held : (n r c x : ℕ) → c < 16 → Empty (suc n) r → value (rooted (suc n)) x ≡ 0
    → held (suc n) (fed (feedback (suc n)) r c) x ≡ sum (product x (held (suc n) r x)) (product c (power x (suc n)))
unfolding power
fed-held n r c x h e z =
    ap (λ (v : ℕ). held (suc n) v x) (fed-is (suc n) r c h)
    ∙ held-xor (suc n) (bit_xor (r / 16) (row (suc n) c)) (row (suc n) (r % 16)) x
    ∙ ap₂ sum
    (held-xor (suc n) (r / 16) (row (suc n) c) x
    ∙ ap₂ sum
    (held_next n (r / 16) x ∙ ap (λ (v : ℕ). sum (product x (held n (r / 16) x)) v) (e (suc n) (omega arith))
    ∙ sum-zero (product x (held n (r / 16) x)))
    (row-held (suc n) c x h z))
    (row-held (suc n) (r % 16) x (omega arith) z)
    ∙ feed-step x (held n (r / 16) x) (r % 16) c (power x n)

pub register-empty : (n : ℕ) (message : List ℕ) → SemiOctets message → Empty n (register (feedback n) message)
unfolding register
register-empty n [] s j h = nibble-zero j
register-empty n (c ∷ cs) s j h = fed-empty n (register (feedback n) cs) c s.0 (register-empty n cs s.1) j h

left_step : (x p v c : ℕ) → sum (product x (product p v)) (product c p) ≡ product p (sum c (product x v))
left_step x p v c = simp ring

pub held-nothing : (n x : ℕ) → held n 0 x ≡ 0
held-nothing zero x = refl
held-nothing (suc n) x = ap₂ sum (zero-product (power x n)) (held-nothing n x) ∙ sum-zero 0

-- what is left of x^n times the data
pub register-held : (n : ℕ) (message : List ℕ) (x : ℕ) → SemiOctets message → value (rooted (suc n)) x ≡ 0
    → held (suc n) (register (feedback (suc n)) message) x ≡ product (power x (suc n)) (value message x)
unfolding register
register-held n [] x s z = held-nothing (suc n) x ∙ sym (product-by-zero (power x (suc n)))
register-held n (c ∷ cs) x s z =
    fed-held n (register (feedback (suc n)) cs) c x s.0 (register-empty (suc n) cs s.1) z
    ∙ ap (λ (v : ℕ). sum (product x v) (product c (power x (suc n)))) (register-held n cs x s.1 z)
    ∙ left_step x (power x (suc n)) (value cs x) c

-- ---- the digits in front of the data

put-checks-step : (v p a x w : ℕ) → sum v (product p (sum a (product x w))) ≡ sum (sum (product a p) v) (product (product x p) w)
put-checks-step v p a x w = simp ring

pub with-checks-value : (n r : ℕ) (message : List ℕ) (x : ℕ) → SemiOctets message
    → value (with_checks n r message) x ≡ sum (held n r x) (product (power x n) (value message x))
unfolding with_checks power
with-checks-value zero r message x s = sym (zero-sum (product 1 (value message x)) ∙ one_product (value message x)
    ∙ mod-eq_of_lt (value-lt message x s))
with-checks-value (suc n) r message x s =
    with-checks-value n (r / 16) (r % 16 ∷ message) x (omega arith, s)
    ∙ put-checks-step (held n (r / 16) x) (power x n) (r % 16) x (value message x)

pub with-checks-semi-octets : (n r : ℕ) (message : List ℕ) → SemiOctets message → SemiOctets (with_checks n r message)
unfolding with_checks
with-checks-semi-octets zero r message s = s
with-checks-semi-octets (suc n) r message s = with-checks-semi-octets n (r / 16) (r % 16 ∷ message) (omega arith, s)

pub with-checks-length : (n r : ℕ) (message : List ℕ) → length (with_checks n r message) ≡ n + length message
unfolding with_checks
with-checks-length zero r message = sym (zero-add (length message))
with-checks-length (suc n) r message = with-checks-length n (r / 16) (r % 16 ∷ message) ∙ add-suc n (length message)
    ∙ sym (suc-add n (length message))

pub with-checks-holds : (n r : ℕ) (message : List ℕ) → drop n (with_checks n r message) ≡ message
unfolding with_checks
with-checks-holds zero r message = refl
with-checks-holds (suc n) r message =
    ap (λ (k : ℕ). drop k (with_checks n (r / 16) (r % 16 ∷ message))) (sym (add-one n))
    ∙ sym (drop-drop 1 n (with_checks n (r / 16) (r % 16 ∷ message)))
    ∙ ap (λ (l : List ℕ). drop 1 l) (with-checks-holds n (r / 16) (r % 16 ∷ message))

-- at each root, r holds the value of x^n times the data
abbrev pub Leaves : ℕ → List ℕ → ℕ → Type 0
Leaves n message r = (j : ℕ) → 0 < j → j ≤ n → held n r (power 2 j) ≡ product (power (power 2 j) n) (value message (power 2 j))

with-checks-root : (n r : ℕ) (message : List ℕ) → SemiOctets message → Leaves n message r → (j : ℕ) → 0 < j → j ≤ n
    → value (with_checks n r message) (power 2 j) ≡ 0
with-checks-root n r message s l j p h =
    let x = power 2 j in
    with-checks-value n r message x s
    ∙ ap (λ (v : ℕ). sum v (product (power x n) (value message x))) (l j p h)
    ∙ sum_self (product (power x n) (value message x))

-- the digits of such an r, in front of the data, are the code word
pub leaves-codes : (d r : ℕ) (message : List ℕ) → 1 ≤ d → d ≤ 16 → SemiOctets message → Leaves (d - 1) message r
    → CodeWord d message (with_checks (d - 1) r message)
leaves-codes d r message a b s l =
    let n = d - 1 in
    let t = with-checks-semi-octets n r message s in
    record {
      semi_octets = t;
      long = with-checks-length n r message;
      holds = with-checks-holds n r message;
      valid = roots-valid d (with_checks n r message) a b t (λ j p h. with-checks-root n r message s l j p (omega arith));
    }

pub register-leaves : (n : ℕ) (message : List ℕ) → SemiOctets message → Leaves n message (register (feedback n) message)
register-leaves zero message s j p h = absurd (omega arith)
register-leaves (suc n) message s j p h = register-held n message (power 2 j) s (rooted-root (suc n) j p h)

pub register-codes : (d : ℕ) (message : List ℕ) → 1 ≤ d → d ≤ 16 → SemiOctets message
    → CodeWord d message (with_checks (d - 1) (register (feedback (d - 1)) message) message)
register-codes d message a b s = leaves-codes d (register (feedback (d - 1)) message) message a b s (register-leaves (d - 1) message s)
