-- The sum of what each data semi-octet adds is what the whole data leave: its digits in front of the data are the code word. Over the
-- degree n and the number of data; a table's entry is what one semi-octet alone leaves.
-- Assumes nothing.
use mathlib.Core.Bool.{cond}
use mathlib.Core.Path.{◌≡◌, refl, sym, ap, ap₂, ◌∙◌}
use mathlib.Core.List.{List, [], ◌∷◌, ◌++◌}
use Prim.Native.Nat.{ℕ, zero, suc, ◌+◌, ◌-◌, ◌*◌, ◌/◌, ◌%◌, ◌≤◌, ◌<◌}
use native.Mathlib.Omega.{arith}
use native.Mathlib.Nat.{add-zero, mod-eq_of_lt}
use native.Mathlib.Numerals.{add-one}
use lib.Bits.{bit_xor}
use lib.ListN.{length, get_or, take, drop, take-append-drop, drop_of_length-le}
use lib.Seq.{take-length, drop-cons, length-take-le}
use borrow.Author.Tests.{lt-ltb}
use Rattle.laws.specs.Tab.{tab}
use Rattle.laws.proofs.Tab.{get_or-tab, tab-same}
use Rattle.gf16.specs.Field.{sum, product, power}
use Rattle.gf16.proofs.Laws.{ring2, zero-sum, sum-zero, sum_same, product-sum, product-by-zero}
use Rattle.code_word_laws.specs.Polynomial.{value, rooted}
use Rattle.code_word_laws.specs.Word.{SemiOctets, apart}
use Rattle.code_word_laws.specs.Make.{coded}
use Rattle.code_word_laws.specs.Register.{gathered, feedback, register, with_checks}
use Rattle.code_word_laws.specs.Checks.{alone, check_of, check_rows, with_data, summed}
use Rattle.code_word_laws.proofs.Distance.{unique-values}
use Rattle.code_word_laws.proofs.Division.{rooted-root, semi-octet-at, value-append, valid-roots, take-semi-octets}
use Rattle.code_word_laws.proofs.Register.{
  held,
  held-xor,
  held-nothing,
  Empty,
  register-held,
  register-empty,
  register-leaves,
  Leaves,
  leaves-codes,
  with-checks-value,
  with-checks-semi-octets,
  with-checks-holds,
  with-checks-length,
  drop-semi-octets,
}
use Rattle.code_word_laws.proofs.Coded.{apart-front, coded-is, coded-only}

-- ---- the digits

pub digits-length : (n r : ℕ) → length (with_checks n r []) ≡ n
digits-length n r = with-checks-length n r [] ∙ add-zero n

digits_value : (n r x : ℕ) → value (with_checks n r []) x ≡ held n r x
digits_value n r x = with-checks-value n r [] x tt ∙ ap (λ (v : ℕ). sum (held n r x) v) (product-by-zero (power x n))
    ∙ sum-zero (held n r x)

-- ---- one semi-octet alone

alone-semi-octets : (k c : ℕ) → c < 16 → SemiOctets (alone k c)
unfolding alone
alone-semi-octets zero c h = (h, tt)
alone-semi-octets (suc k) c h = (omega arith, alone-semi-octets k c h)

-- a number without digits is 0
all-empty : (f r : ℕ) → r ≤ f → Empty 0 r → r ≡ 0
all-empty zero r h e = omega arith
all-empty (suc f) r h e =
    let low = e 0 (omega arith) in
    let high = all-empty f (r / 16) (omega arith) (λ j l. e (suc j) (omega arith)) in
    omega arith

-- a number's digits, packed again
with-checks-back : (n r : ℕ) (message : List ℕ) → Empty n r → gathered 0 (with_checks n r message) ≡ gathered r message
unfolding with_checks gathered
with-checks-back zero r message e = ap (λ (a : ℕ). gathered a message) (sym (all-empty r r (omega arith) e))
with-checks-back (suc n) r message e =
    let back : r % 16 + 16 * (r / 16) ≡ r = omega arith in
    with-checks-back n (r / 16) (r % 16 ∷ message) (λ j l. e (suc j) (omega arith)) ∙ ap (λ (a : ℕ). gathered a message) back

-- at a root, the check semi-octets have the value of x^n times the data
check-value : (n j : ℕ) (message : List ℕ) → SemiOctets message → 0 < j → j ≤ n
    → value (take n (coded (suc n) message)) (power 2 j) ≡ product (power (power 2 j) n) (value message (power 2 j))
check-value n j message s p h =
    let x = power 2 j in
    let w = coded (suc n) message in
    let c = coded-is (suc n) message s in
    let same : suc n - 1 ≡ n = omega arith in
    let holds : drop n w ≡ message = rw same at c.holds in
    let long = length-take-le n w (omega (arith, c.long)) in
    let split : sum (value (take n w) x) (product (power x n) (value message x)) ≡ 0 =
    ap₂ (λ (k : ℕ) (l : List ℕ). sum (value (take n w) x) (product (power x k) (value l x))) (sym long) (sym holds)
    ∙ sym (value-append (take n w) (drop n w) x (drop-semi-octets n w c.semi_octets))
    ∙ ap (λ (l : List ℕ). value l x) (take-append-drop n w)
    ∙ valid-roots (suc n) w c.semi_octets c.valid j p (omega arith) in
    sum_same (value (take n w) x) (product (power x n) (value message x)) split

-- what the register leaves is the check
pub register-check : (n : ℕ) (message : List ℕ) → n ≤ 15 → SemiOctets message → check_of n message ≡ register (feedback n) message
unfolding check_of gathered
register-check n message h s =
    let r = register (feedback n) message in
    let w = coded (suc n) message in
    let c = coded-is (suc n) message s in
    let v = with_checks n r [] in
    let long : length v ≡ n = digits-length n r in
    let short : length (take n w) ≡ n = length-take-le n w (omega (arith, c.long)) in
    let few : apart (take n w) v ≤ n =
    apart-front n (take n w) v (drop_of_length-le (take n w) {i = n} (omega arith) ∙ sym (drop_of_length-le v {i = n} (omega arith))) in
    let same : take n w ≡ v =
    unique-values (suc n) (take n w) v (short ∙ sym long) (omega arith) (take-semi-octets n w c.semi_octets)
    (with-checks-semi-octets n r [] tt)
    (λ j a b. check-value n j message s a (omega arith)
    ∙ sym (digits_value n r (power 2 j) ∙ register-leaves n message s j a (omega arith)))
    (omega arith) in
    ap (gathered 0) same ∙ with-checks-back n r [] (register-empty n message s)

-- .. so that the table can be computed by it
unfoldable pub register_rows : ℕ → List ℕ
register_rows n = tab (λ i. register (feedback n) (alone (i / 16) (i % 16))) 208

pub rows-register : (n : ℕ) → n ≤ 15 → check_rows n ≡ register_rows n
unfolding check_rows register_rows
rows-register n h =
    tab-same (λ i. check_of n (alone (i / 16) (i % 16))) (λ i. register (feedback n) (alone (i / 16) (i % 16))) 208
    (λ i l. register-check n (alone (i / 16) (i % 16)) h (alone-semi-octets (i / 16) (i % 16) (omega arith)))

row_at : (n k c : ℕ) → n ≤ 15 → k < 13 → get_or (check_rows n) (16 * k + c % 16) 0 ≡ register (feedback n) (alone k (c % 16))
unfolding register_rows
row_at n k c l h =
    let q : (16 * k + c % 16) / 16 ≡ k = omega arith in
    let r : (16 * k + c % 16) % 16 ≡ c % 16 = omega arith in
    ap (λ (t : List ℕ). get_or t (16 * k + c % 16) 0) (rows-register n l)
    ∙ get_or-tab (λ i. register (feedback n) (alone (i / 16) (i % 16))) 208 (16 * k + c % 16) (omega arith)
    ∙ ap₂ (λ (a b : ℕ). register (feedback n) (alone a b)) q r

more-step : (c x a b : ℕ) → sum c (product x (sum a b)) ≡ sum (sum c (product x a)) (sum 0 (product x b))
more-step c x a b = simp ring2

-- the value of the data with one semi-octet more
value-more : (message : List ℕ) (m x : ℕ) → m < length message
    → value (take (suc m) message) x ≡ sum (value (take m message) x) (value (alone m (get_or message m 0)) x)
unfolding alone
value-more [] m x h = absurd (omega arith)
value-more (c ∷ cs) zero x h = sym (zero-sum (sum c (product x 0)))
value-more (c ∷ cs) (suc m) x h =
    ap (λ (v : ℕ). sum c (product x v)) (value-more cs m x (omega arith))
    ∙ more-step c x (value (take m cs) x) (value (alone m (get_or cs m 0)) x)

-- ---- the sum

summed-more : (rows : List ℕ) (f : ℕ → ℕ) (m : ℕ) → m < 13
    → summed rows f (suc m) ≡ bit_xor (summed rows f m) (get_or rows (16 * m + f m % 16) 0)
unfolding summed with_data
summed-more rows f m h = ap (λ b. cond b (bit_xor (summed rows f m) (get_or rows (16 * m + f m % 16) 0)) (summed rows f m)) (lt-ltb m 13 h)

summed-held : (n m : ℕ) (message : List ℕ) (x : ℕ) → n < 15 → m ≤ length message → length message ≤ 13 → SemiOctets message
    → value (rooted (suc n)) x ≡ 0
    → held (suc n) (summed (check_rows (suc n)) (λ k. get_or message k 0) m) x ≡ product (power x (suc n)) (value (take m message) x)
unfolding summed
summed-held n zero message x b h l s z = held-nothing (suc n) x ∙ sym (product-by-zero (power x (suc n)))
summed-held n (suc m) message x b h l s z =
    let rows = check_rows (suc n) in
    let f : ℕ → ℕ = λ k. get_or message k 0 in
    let p = power x (suc n) in
    let c = get_or message m 0 in
    let e : c % 16 ≡ c = mod-eq_of_lt (semi-octet-at message m s) in
    let one : held (suc n) (get_or rows (16 * m + c % 16) 0) x ≡ product p (value (alone m c) x) =
    ap (λ (v : ℕ). held (suc n) v x) (row_at (suc n) m c (omega arith) (omega arith))
    ∙ register-held n (alone m (c % 16)) x (alone-semi-octets m (c % 16) (omega arith)) z
    ∙ ap (λ (v : ℕ). product p (value (alone m v) x)) e in
    ap (λ (v : ℕ). held (suc n) v x) (summed-more rows f m (omega arith))
    ∙ held-xor (suc n) (summed rows f m) (get_or rows (16 * m + c % 16) 0) x
    ∙ ap₂ sum (summed-held n m message x b (omega arith) l s z) one
    ∙ sym (product-sum p (value (take m message) x) (value (alone m c) x))
    ∙ ap (product p) (sym (value-more message m x (omega arith)))

summed-leaves : (n : ℕ) (message : List ℕ) → n ≤ 15 → length message ≤ 13 → SemiOctets message
    → Leaves n message (summed (check_rows n) (λ k. get_or message k 0) (length message))
summed-leaves zero message b l s j p h = absurd (omega arith)
summed-leaves (suc n) message b l s j p h =
    summed-held n (length message) message (power 2 j) (omega arith) (omega arith) l s (rooted-root (suc n) j p h)
    ∙ ap (λ (w : List ℕ). product (power (power 2 j) (suc n)) (value w (power 2 j))) (take-length message)

-- the digits of the sum, in front of the data, are the code word over them
pub summed-coded : (d : ℕ) (message : List ℕ) → 3 ≤ d → d - 1 + length message ≤ 15 → SemiOctets message
    → with_checks (d - 1) (summed (check_rows (d - 1)) (λ k. get_or message k 0) (length message)) message ≡ coded d message
summed-coded d message a l s =
    let r = summed (check_rows (d - 1)) (λ k. get_or message k 0) (length message) in
    coded-only d message (with_checks (d - 1) r message) (omega arith) l s
    (leaves-codes d r message (omega arith) (omega arith) s (summed-leaves (d - 1) message (omega arith) (omega arith) s))

-- ---- the sum as a loop makes it

pub summed-none : (rows : List ℕ) (f : ℕ → ℕ) → 0 ≡ summed rows f 0
unfolding summed
summed-none rows f = refl

pub summed-next : (rows : List ℕ) (f : ℕ → ℕ) (k c r s : ℕ) → c ≡ f k → r ≡ summed rows f k → s ≡ with_data rows k c r
    → s ≡ summed rows f (k + 1)
unfolding summed
summed-next rows f k c r s e h t = t ∙ ap₂ (with_data rows k) e h ∙ ap (summed rows f) (sym (add-one k))

-- ---- the digits one by one

pub digits-start : (n r : ℕ) → with_checks n r (drop n (with_checks n r [])) ≡ with_checks n r []
digits-start n r = ap (λ (l : List ℕ). with_checks n r l) (with-checks-holds n r [])

pub with-checks-append : (n r : ℕ) (xs ys : List ℕ) → with_checks n r (xs ++ ys) ≡ with_checks n r xs ++ ys
unfolding with_checks
with-checks-append zero r xs ys = refl
with-checks-append (suc n) r xs ys = with-checks-append n (r / 16) (r % 16 ∷ xs) ys

same_head : (x y : ℕ) (xs ys : List ℕ) → x ∷ xs ≡ y ∷ ys → x ≡ y
same_head x y xs ys e = ap (λ (l : List ℕ). get_or l 0 0) e

-- the lowest digit is the last that is still to be put
pub with-checks-turn : (k r : ℕ) (w : List ℕ) → 0 < k → k ≤ length w → with_checks k r (drop k w) ≡ w
    → (r % 16 ≡ get_or w (k - 1) 0) × (with_checks (k - 1) (r / 16) (drop (k - 1) w) ≡ w)
unfolding with_checks
with-checks-turn zero r w p h e = absurd (omega arith)
with-checks-turn (suc k) r w p h e =
    let same : suc k - 1 ≡ k = omega arith in
    let t : r % 16 ∷ drop (suc k) w ≡ drop k w = sym (with-checks-holds k (r / 16) (r % 16 ∷ drop (suc k) w)) ∙ ap (drop k) e in
    rw same (
      same_head (r % 16) (get_or w k 0) (drop (suc k) w) (drop (suc k) w) (t ∙ drop-cons w k 0 (omega arith)),
      ap (λ (l : List ℕ). with_checks k (r / 16) l) (sym t) ∙ e,
    )
