-- The loops of the bits left and of the residual bits (5.4.2.8), each way through a turn.
-- Assumes nothing.
use mathlib.Core.Path.{◌≡◌, refl}
use mathlib.Core.Bool.{Bool, true, false, cond}
use mathlib.Core.List.{List}
use Prim.Native.Nat.{ℕ, zero, suc, ◌+◌, ◌-◌, ◌*◌, ◌^◌, ◌≤◌, ◌<◌, min}
use native.Mathlib.Omega.{arith}
use native.Mathlib.Nat.{two-pow-succ}
use lib.Dec.{ltb}
use Rattle.std.proofs.lemmas.Nat.{pow_pos}
use Rattle.std.proofs.Math.Pow.{pow_mono}
use lib.ListN.{get_or, set, length, take}
use Rattle.std.proofs.lemmas.List.{get_or-take, length-take}
use lib.IntN.{ℤ, pos}
use borrow.Author.Tests.{ltb-true, ltb-false, le-leb, lt-leb, le-ltb, lt-ltb}
use Rattle.frame_bits.specs.Bits.{bit_of}
use Rattle.std.specs.Prelude.{Option, Some, None, Result, SomeIff}
use Rattle.std.specs.Option.{ok_or}
use Rattle.refusals.specs.declared.Cause.{Cause}
use Rattle.refusals.specs.declared.Cause.TheVariants as why
use Rattle.frame_bits.specs.Read.{value, cause}
use Rattle.frame_residual.specs.Residual.{log2_of, left_given, is_zero, residual_of}

-- ---- floor (log2 r)

pub log2-zero : (n : ℕ) → 0 ≡ log2_of 0 n
unfolding log2_of
log2-zero zero = refl
log2-zero (suc n) = rw (lt-leb (2 ^ suc n) 0 (pow_pos (suc n))) (log2-zero n)

-- k is the exponent of the largest power
log2-step : (r k n : ℕ) → 2 ^ k ≤ r → r < 2 * 2 ^ k → min k n ≡ log2_of r n → (t : Bool) → ltb k (suc n) ≡ t
    → min k (suc n) ≡ log2_of r (suc n)
unfolding log2_of
log2-step r k n h l m true e =
    let i : k < suc n = ltb-true k (suc n) e in
    let w : 2 ^ suc k ≤ 2 ^ suc n = pow_mono i in
    let d = two-pow-succ k in
    rw (lt-leb (2 ^ suc n) r (omega arith), ← m) (omega arith)
log2-step r k n h l m false e =
    let i : suc n ≤ k = ltb-false k (suc n) e in
    let w : 2 ^ suc n ≤ 2 ^ k = pow_mono i in
    rw (le-leb (2 ^ suc n) r (omega arith)) (omega arith)

-- k is the exponent of the largest power
pub log2-power : (r k n : ℕ) → 2 ^ k ≤ r → r < 2 * 2 ^ k → min k n ≡ log2_of r n
unfolding log2_of
log2-power r k zero h l = omega arith
log2-power r k (suc n) h l = log2-step r k n h l (log2-power r k n h l) (ltb k (suc n)) refl

-- the bits left, or cause 7
pub left-says : (all used p : ℕ) (x : Option ℕ) (r : Result ℕ Cause) → SomeIff x (used ≤ all) (all - used) → r ≡ ok_or x why.Residual
    → left_given r p ≡ cond (ltb all used) (cause 7) (value (all - used) p)
left-says all used p (Some n) r h e = rw (e, le-ltb all used h.0, h.1)
left-says all used p None r h e = rw (e, lt-ltb all used (omega arith))

-- ---- residual bits: lines k .. n - 1 are to come

-- line k of the first n
pub front-line : (n k : ℕ) (lines : List ℤ) → n ≤ length lines → k < length (take n lines)
    → (k < n) × (get_or (take n lines) k (pos 0) ≡ get_or lines k (pos 0))
front-line n k lines h l =
    let e = length-take n lines in
    let i : k < n = omega arith in
    (i, get_or-take n lines k (pos 0) i)

pub front-end : (n k : ℕ) (lines : List ℤ) → n ≤ length lines → length (take n lines) ≤ k → n ≤ k
front-end n k lines h l = omega (arith, length-take n lines)

pub residual-done : (s : List ℕ) (lines : List ℤ) (p left n k count : ℕ) (bits : List ℕ) → n ≤ k
    → residual_of s lines p left (n - k) k count bits ≡ record { number = count; bits = bits }
unfolding residual_of
residual-done s lines p left n k count bits h = let e : n - k ≡ 0 = omega arith in rw e

pub residual-full : (s : List ℕ) (lines : List ℤ) (p left n k count : ℕ) (bits : List ℕ) → k < n → is_zero (get_or lines k (pos 0)) ≡ false
    → left ≤ count → residual_of s lines p left (n - k) k count bits ≡ record { number = count; bits = bits }
unfolding residual_of
residual-full s lines p left n k count bits h z l =
    let e : n - k ≡ suc (n - (k + 1)) = omega arith in
    rw (e, z, le-leb left count l)

pub residual-skip : (s : List ℕ) (lines : List ℤ) (p left n k count : ℕ) (bits : List ℕ) → k < n → is_zero (get_or lines k (pos 0)) ≡ true
    → residual_of s lines p left (n - (k + 1)) (k + 1) count bits ≡ residual_of s lines p left (n - k) k count bits
unfolding residual_of
residual-skip s lines p left n k count bits h z = go (n - k) (n - (k + 1)) (k + 1) (omega arith) (omega arith)
  where
    go : (a b j : ℕ) → a ≡ suc b → j ≡ suc k → residual_of s lines p left b j count bits ≡ residual_of s lines p left a k count bits
    go a b j e f = rw (e, f, z)

pub residual-more : (s : List ℕ) (lines : List ℤ) (p left n k count b : ℕ) (bits : List ℕ) → k < n
    → is_zero (get_or lines k (pos 0)) ≡ false → count < left → b ≡ bit_of s (p + count)
    → residual_of s lines p left (n - (k + 1)) (k + 1) (count + 1) (set bits count b) ≡ residual_of s lines p left (n - k) k count bits
unfolding residual_of
residual-more s lines p left n k count b bits h z l q = go (n - k) (n - (k + 1)) (k + 1) (count + 1) (omega arith) (omega arith)
    (omega arith)
  where
    go : (a m j i : ℕ) → a ≡ suc m → j ≡ suc k → i ≡ suc count
        → residual_of s lines p left m j i (set bits count b) ≡ residual_of s lines p left a k count bits
    go a m j i e f g = rw (e, f, g, z, lt-leb left count l, q)
