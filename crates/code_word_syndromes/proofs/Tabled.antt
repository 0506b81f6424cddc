-- The corrector's table as a definition: its entries are computed from the field, by gf16's product by logarithms, and the code's constant
-- is compared with them by one computation. Assumes nothing.
use mathlib.Core.Path.{◌≡◌, refl, sym, ap, ap₂, ◌∙◌}
use mathlib.Core.Bool.{Bool, true, false, cond}
use mathlib.Core.List.{List}
use Prim.Native.Nat.{ℕ, zero, suc, ◌+◌, ◌*◌, ◌/◌, ◌%◌, ◌^◌, ◌<◌}
use native.Mathlib.Omega.{arith}
use native.Mathlib.Nat.{pow-suc, div-div-eq-div-mul, mul_comm}
use lib.Dec.{eqb, ltb}
use lib.ListN.{get_or}
use borrow.Author.Tests.{lt-ltb, ne_eqb}
use Rattle.laws.specs.Tab.{tab}
use Rattle.laws.proofs.Tab.{get_or-tab}
use Rattle.gf16.specs.Field.{product, power}
use Rattle.gf16.proofs.Products.{looked, cond-lt, product-looked, looked-lt}
use Rattle.code_word_laws.specs.Packed.{nibble, packed}
use Rattle.code_word_laws.specs.Corrector.{both_of, Table}
use Rattle.code_word_laws.proofs.Changes.{both-few}
use Rattle.code_word_laws.proofs.Packed.{nibble-packed}

-- the power, computed on numbers
unfoldable pub quick : ℕ → ℕ → ℕ
quick x zero = 1
quick x (suc n) = looked (x % 16) (quick x n % 16)

quick-is : (x n : ℕ) → quick x n ≡ power x n
unfolding quick power
quick-is x zero = refl
quick-is x (suc n) = ap (λ (y : ℕ). looked (x % 16) (y % 16)) (quick-is x n) ∙ sym (product-looked x (power x n))

-- digit j of number 16 a + b, where x is 2^a and y is a times b
abbrev pub digit : ℕ → ℕ → ℕ → ℕ → ℕ
digit x y b j = cond (ltb j 15) (looked (b % 16) (quick x j % 16)) y

-- the low (h = 0) or high (h = 1) half of that number; x and y are arguments, so that they are computed once for its digits
abbrev pub packed_half : ℕ → ℕ → ℕ → ℕ → ℕ
packed_half x y b h = packed (λ j. digit x y b (8 * h + j)) 8

abbrev pub half : ℕ → ℕ → ℕ → ℕ
half a b h = packed_half (quick 2 a) (looked (a % 16) (b % 16)) b h

-- .. but at a = 15 the low half has both counts of an error of value b
abbrev pub half_of : ℕ → ℕ → ℕ → ℕ
half_of a b h = cond (eqb (2 * a + h) 30) (both_of b) (half a b h)

-- both halves
abbrev pub entry_of : ℕ → ℕ
entry_of p = half_of (p / 16) (p % 16) 0 + half_of (p / 16) (p % 16) 1 * 4294967296

unfoldable pub entries : List ℕ
entries = tab entry_of 256

entry-of : (a b : ℕ) → a < 16 → b < 16 → get_or entries (16 * a + b) 0 ≡ half_of a b 0 + half_of a b 1 * 4294967296
unfolding entries
entry-of a b ha hb =
    let q : (16 * a + b) / 16 ≡ a = omega arith in
    let r : (16 * a + b) % 16 ≡ b = omega arith in
    get_or-tab entry_of 256 (16 * a + b) (omega arith) ∙ ap₂ (λ (x y : ℕ). half_of x y 0 + half_of x y 1 * 4294967296) q r

half-at : (a b h : ℕ) → (2 * a + h ≡ 30 → ⊥) → half_of a b h ≡ half a b h
half-at a b h n = ap (λ (c : Bool). cond c (both_of b) (half a b h)) (ne_eqb (2 * a + h) 30 n)

abbrev cell : ℕ → ℕ → ℕ → ℕ
cell a b = digit (quick 2 a) (looked (a % 16) (b % 16)) b

cell-lt : (a b j : ℕ) → cell a b j < 16
cell-lt a b j = cond-lt (ltb j 15) _ _ 16 (looked-lt (b % 16) (quick (quick 2 a) j % 16)) (looked-lt (a % 16) (b % 16))

-- what a digit is in the field
cell-spread : (a b j : ℕ) → looked (b % 16) (quick (quick 2 a) j % 16) ≡ product b (power (power 2 a) j)
cell-spread a b j =
    sym (product-looked b (quick (quick 2 a) j))
    ∙ ap (λ (x : ℕ). product b x) (quick-is (quick 2 a) j ∙ ap (λ (x : ℕ). power x j) (quick-is 2 a))

halves : (f : ℕ → ℕ) → packed (λ j. f (8 * 0 + j)) 8 + packed (λ j. f (8 * 1 + j)) 8 * 4294967296 ≡ packed f 16
halves f = omega arith

number-at : (a b : ℕ) → a < 15 → b < 16 → get_or entries (16 * a + b) 0 ≡ packed (cell a b) 16
number-at a b ha hb =
    entry-of a b (omega arith) hb
    ∙ ap₂ (λ (x y : ℕ). x + y * 4294967296) (half-at a b 0 (λ e. omega arith)) (half-at a b 1 (λ e. omega arith))
    ∙ halves (cell a b)

-- the highest digit of a packed number
packed-top : (f : ℕ → ℕ) (n : ℕ) → ((i : ℕ) → f i < 16) → packed f (suc n) / 16 ^ n ≡ f n
packed-top f zero h = omega arith
packed-top f (suc n) h =
    let b = h 0 in
    let e : (f 0 + 16 * packed (λ i. f (suc i)) (suc n)) / 16 ≡ packed (λ i. f (suc i)) (suc n) = omega arith in
    ap (λ (x : ℕ). packed f (suc (suc n)) / x) (pow-suc 16 n ∙ mul_comm (16 ^ n) 16)
    ∙ sym (div-div-eq-div-mul (packed f (suc (suc n))) 16 (16 ^ n))
    ∙ ap (λ (x : ℕ). x / 16 ^ n) e
    ∙ packed-top (λ i. f (suc i)) n (λ i. h (suc i))

packed-lt : (f : ℕ → ℕ) (n : ℕ) → ((i : ℕ) → f i < 16) → packed f n < 16 ^ n
packed-lt f zero h = omega arith
packed-lt f (suc n) h =
    let b = h 0 in
    let r = packed-lt (λ i. f (suc i)) n (λ i. h (suc i)) in
    let e = pow-suc 16 n in
    omega (arith, b, r, e)

-- a low half is below 2^32
low-lt : (a b : ℕ) → b < 16 → (c : Bool) → cond c (both_of b) (half a b 0) < 4294967296
low-lt a b hb true = let f = both-few b in omega (arith, f)
low-lt a b hb false = packed-lt (λ j. cell a b (8 * 0 + j)) 8 (λ j. cell-lt a b (8 * 0 + j))

high-of : (x y : ℕ) → x < 4294967296 → (x + y * 4294967296) / 2 ^ 60 ≡ y / 268435456
high-of x y h = omega arith

low-of : (x y : ℕ) → x < 4294967296 → (x + y * 4294967296) % 4294967296 ≡ x
low-of x y h = omega arith

pub table-of-entries : Table entries
table-of-entries =
    record {
      spread = λ a b j ha hb hj.
          ap (λ (x : ℕ). nibble j x) (number-at a b ha hb)
          ∙ nibble-packed (cell a b) 16 j (cell-lt a b) (omega arith)
          ∙ ap (λ (c : Bool). cond c (looked (b % 16) (quick (quick 2 a) j % 16)) (looked (a % 16) (b % 16))) (lt-ltb j 15 hj)
          ∙ cell-spread a b j;
      times = λ a b ha hb.
          ap (λ (x : ℕ). x / 2 ^ 60) (entry-of a b ha hb)
          ∙ high-of (half_of a b 0) (half_of a b 1) (low-lt a b hb (eqb (2 * a + 0) 30))
          ∙ ap (λ (x : ℕ). x / 268435456) (half-at a b 1 (λ e. omega arith))
          ∙ packed-top (λ j. cell a b (8 * 1 + j)) 7 (λ j. cell-lt a b (8 * 1 + j))
          ∙ sym (product-looked a b);
      counts = λ v h.
          ap (λ (x : ℕ). x % 4294967296) (entry-of 15 v (omega arith) h)
          ∙ low-of (half_of 15 v 0) (half_of 15 v 1) (low-lt 15 v h (eqb 30 30));
    }
