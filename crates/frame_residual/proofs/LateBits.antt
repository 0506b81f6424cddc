-- A line's late low bits of LSB mode 1 (5.4.2.8), and its magnitude with them.
-- Assumes nothing.
use mathlib.Core.Path.{◌≡◌, refl, sym, ◌∙◌}
use mathlib.Core.Bool.{true, false}
use mathlib.Core.List.{List}
use Prim.Native.Nat.{ℕ, zero, suc, ◌+◌, ◌-◌, ◌<◌}
use native.Mathlib.Omega.{arith}
use lib.IntN.{ℤ, pos, negsuc}
use mir.Syntax.{w32}
use mir.Val.{SFits, of_z}
use borrow.Author.Tests.{eq-eqb, ne_eqb}
use Rattle.frame_bits.specs.Bits.{bit_of}
use Rattle.frame_residual.specs.Residual.{line, stop, is_zero, away, born_of, late_of}

-- ---- a line that is 0

pub zero-yes : (v : ℤ) → SFits w32 v → of_z w32 v ≡ 0 → is_zero v ≡ true
zero-yes (pos n) f e = eq-eqb n 0 e
zero-yes (negsuc n) f e =
    let b : n < 2147483648 = f.sfits in
    let d : 4294967296 - suc n ≡ 0 = e in
    absurd (omega arith)

pub zero-no : (v : ℤ) → (of_z w32 v ≡ 0 → ⊥) → is_zero v ≡ false
zero-no (pos n) h = ne_eqb n 0 h
zero-no (negsuc n) h = refl

-- ---- one line

pub late-none : (s : List ℕ) (v : ℤ) (p left : ℕ) → left ≡ 0 → stop ≡ late_of s v p left
unfolding late_of
late-none s v p left e = rw e

-- b is the low bit
module _ (s : List ℕ) (v : ℤ) (p : ℕ) (b : ℕ) (i : b ≡ bit_of s p) where
  pub late-same : (w : ℤ) (left fewer : ℕ) → fewer ≡ left - 1 → w ≡ v → (left ≡ 0 → ⊥) → b ≡ 0
      → line w (p + 1) fewer ≡ late_of s v p left
  unfolding late_of
  late-same w zero fewer f e h z = absurd (h refl)
  late-same w (suc n) fewer f e h z = let q : fewer ≡ n = omega arith in rw (e, q, eq-eqb (bit_of s p) 0 (sym i ∙ z))

  pub late-born : (left fewer : ℕ) → fewer ≡ left - 1 → (left ≡ 0 → ⊥) → (b ≡ 0 → ⊥) → is_zero v ≡ true
      → born_of s (p + 1) fewer ≡ late_of s v p left
  unfolding late_of
  late-born zero fewer f h z e = absurd (h refl)
  late-born (suc n) fewer f h z e = let q : fewer ≡ n = omega arith in rw (q, ne_eqb (bit_of s p) 0 (λ d. z (i ∙ d)), e)

  pub late-away : (w : ℤ) (left fewer : ℕ) → fewer ≡ left - 1 → w ≡ away v → (left ≡ 0 → ⊥) → (b ≡ 0 → ⊥) → is_zero v ≡ false
      → line w (p + 1) fewer ≡ late_of s v p left
  unfolding late_of
  late-away w zero fewer f e h z d = absurd (h refl)
  late-away w (suc n) fewer f e h z d = let q : fewer ≡ n = omega arith in rw (e, q, ne_eqb (bit_of s p) 0 (λ d. z (i ∙ d)), d)
