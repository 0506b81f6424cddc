-- The laws of packed semi-octets. Sums are taken digit by digit, so a whole word is added in one exclusive or.
-- Assumes nothing.
use mathlib.Core.List.{[], ◌∷◌}
use mathlib.Core.Path.{◌≡◌, refl, ap, ◌∙◌}
use Prim.Native.Nat.{ℕ, zero, suc, ◌+◌, ◌*◌, ◌/◌, ◌^◌, ◌<◌}
use native.Mathlib.Omega.{arith}
use native.Mathlib.Nat.{pow-suc}
use lib.Bits.{bit_xor, xor_mod, xor_shr}
use Rattle.gf16.specs.Field.{sum}
use Rattle.code_word_laws.specs.Word.{SemiOctets}
use Rattle.code_word_laws.specs.Packed.{nibble, packed}

pub nibble-lt : (j a : ℕ) → nibble j a < 16
nibble-lt zero a = omega arith
nibble-lt (suc j) a = nibble-lt j (a / 16)

pub four-nibbles : (i j k l a : ℕ) → SemiOctets (nibble i a ∷ nibble j a ∷ nibble k a ∷ nibble l a ∷ [])
four-nibbles i j k l a = (nibble-lt i a, (nibble-lt j a, (nibble-lt k a, (nibble-lt l a, tt))))

pub six-elements : {a x b y c z : ℕ} → a < 16 → x < 16 → b < 16 → y < 16 → c < 16 → z < 16 → SemiOctets (a ∷ x ∷ b ∷ y ∷ c ∷ z ∷ [])
six-elements a x b y c z = (a, (x, (b, (y, (c, (z, tt))))))

pub nibble-zero : (j : ℕ) → nibble j 0 ≡ 0
nibble-zero zero = refl
nibble-zero (suc j) = nibble-zero j

pub nibble-xor : (j a b : ℕ) → nibble j (bit_xor a b) ≡ sum (nibble j a) (nibble j b)
unfolding sum
nibble-xor zero a b = xor_mod a b 4
nibble-xor (suc j) a b = ap (λ (x : ℕ). nibble j x) (xor_shr a b 4) ∙ nibble-xor j (a / 16) (b / 16)

pub nibble-packed : (f : ℕ → ℕ) (n j : ℕ) → ((i : ℕ) → f i < 16) → j < n → nibble j (packed f n) ≡ f j
nibble-packed f zero j h l = absurd (omega arith)
nibble-packed f (suc n) zero h l = let b = h 0 in omega arith
nibble-packed f (suc n) (suc j) h l =
    let b = h 0 in
    let e : (f 0 + 16 * packed (λ i. f (suc i)) n) / 16 ≡ packed (λ i. f (suc i)) n = omega arith in
    ap (λ (x : ℕ). nibble j x) e ∙ nibble-packed (λ i. f (suc i)) n j (λ i. h (suc i)) (omega arith)

pub packed_lt : (f : ℕ → ℕ) (n : ℕ) → ((i : ℕ) → f i < 16) → packed f n < 16 ^ n
packed_lt f zero h = omega arith
packed_lt f (suc n) h = let b = h 0 in let r = packed_lt (λ i. f (suc i)) n (λ i. h (suc i)) in omega (arith, pow-suc 16 n)
