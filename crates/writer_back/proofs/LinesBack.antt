-- The lines and the residual bits read back: the stored lines are those given, and of the residual bits those that were sent come first.
-- Assumes nothing.
use mathlib.Core.Path.{◌≡◌, refl, sym, ap, ◌∙◌}
use mathlib.Core.Bool.{Bool, true, false, cond}
use mathlib.Core.List.{List}
use Prim.Native.Nat.{ℕ, zero, suc, ◌+◌, ◌-◌, ◌≤◌, ◌<◌}
use native.Mathlib.Omega.{arith}
use lib.Dec.{ltb, leb}
use lib.ListN.{length, get_or, set, take, replicate}
use lib.Seq.{ext_get_or, get_or-take, length-take-le, take-suc, append_snoc, set_at}
use lib.IntN.{ℤ, pos}
use borrow.Author.Tests.{lt-ltb, le-ltb, leb-true, leb-false}
use Rattle.frame_bits.specs.Bits.{bit_of}
use Rattle.frame_residual.specs.Residual.{is_zero, residual_of, residual_given}
use Rattle.writer_laws.specs.Fits.{non_zero_from}
use Rattle.writer_back.specs.Back.{kept_bits}

-- lines that agree with those given are those given
pub lines-back :
    (n : ℕ) (stored xs : List ℤ) → length xs ≡ n → n ≤ length stored
    → ((i : ℕ) → i < n → get_or stored i (pos 0) ≡ get_or xs i (pos 0)) → take n stored ≡ xs
lines-back n stored xs e h a =
    let d = length-take-le n stored h in
    ext_get_or (pos 0) (take n stored) xs (d ∙ sym e) (λ i l. go i (omega arith))
  where
    go : (i : ℕ) → i < n → get_or (take n stored) i (pos 0) ≡ get_or xs i (pos 0)
    go i l = get_or-take n stored i (pos 0) l ∙ a i l

-- one residual bit more
pub kept_next : (given : List ℕ) (k b : ℕ) → k < length given → b ≡ get_or given k 0 → set (kept_bits k given) k b ≡ kept_bits (suc k) given
kept_next given k b h e =
    let m = length given - suc k in
    let d : length given - k ≡ suc m = omega arith in
    let t = length-take-le k given (omega arith) in
    let u = take-suc given k 0 h in
    rw (d, e, u)
    (set_at (take k given) 0 (replicate m 0) (get_or given k 0) k t
    ∙ sym (append_snoc (take k given) (get_or given k 0) (replicate m 0)))

-- the smaller of the two
abbrev pub least : ℕ → ℕ → ℕ
least left all = cond (ltb left all) left all

least_above : (i left all : ℕ) → i < left → i < all → i < least left all
least_above i left all h k = go (ltb left all)
  where
    go : (t : Bool) → i < cond t left all
    go true = h
    go false = k

-- the residual bits: one for each line that is not 0, while bits are left
pub residual-back :
    (s : List ℕ) (lines xs : List ℤ) (p left all : ℕ) (given : List ℕ) (n k count : ℕ) → all ≡ count + non_zero_from xs n k → count ≤ left
    → all ≤ length given → ((i : ℕ) → i < k + n → get_or lines i (pos 0) ≡ get_or xs i (pos 0))
    → ((i : ℕ) → i < least left all → bit_of s (p + i) ≡ get_or given i 0)
    → residual_of s lines p left n k count (kept_bits count given) ≡ residual_given (least left all) (kept_bits (least left all) given)
unfolding residual_of non_zero_from
residual-back s lines xs p left all given zero k count e h long agree sent =
    let d : all ≡ count = omega arith in
    let l : least left all ≡ count = rw (d, le-ltb left count h) in
    rw l
residual-back s lines xs p left all given (suc n) k count e h long agree sent =
    go (is_zero (get_or xs k (pos 0))) (leb left count) refl refl
    (λ f. residual-back s lines xs p left all given n (suc k) count f h long (λ i u. agree i (omega arith)) sent)
    (λ f c. residual-back s lines xs p left all given n (suc k) (suc count) f c long (λ i u. agree i (omega arith)) sent)
  where
    go :
        (t u : Bool) → is_zero (get_or xs k (pos 0)) ≡ t → leb left count ≡ u
        → (all ≡ count + non_zero_from xs n (suc k)
        → residual_of s lines p left n (suc k) count (kept_bits count given)
        ≡ residual_given (least left all) (kept_bits (least left all) given))
        → (all ≡ suc count + non_zero_from xs n (suc k) → suc count ≤ left
        → residual_of s lines p left n (suc k) (suc count) (kept_bits (suc count) given)
        ≡ residual_given (least left all) (kept_bits (least left all) given))
        → cond (is_zero (get_or lines k (pos 0))) (residual_of s lines p left n (suc k) count (kept_bits count given))
        (cond (leb left count) (residual_given count (kept_bits count given))
        (residual_of s lines p left n (suc k) (suc count) (set (kept_bits count given) count (bit_of s (p + count)))))
        ≡ residual_given (least left all) (kept_bits (least left all) given)
    go true u z l skip next =
        let y : is_zero (get_or lines k (pos 0)) ≡ true = ap is_zero (agree k (omega arith)) ∙ z in
        let d = rw z at e in
        rw y (skip (omega arith))
    go false true z l skip next =
        let y : is_zero (get_or lines k (pos 0)) ≡ false = ap is_zero (agree k (omega arith)) ∙ z in
        let d = rw z at e in
        let c = leb-true left count l in
        let f : left ≡ count = omega arith in
        let m : least left all ≡ count = rw (lt-ltb left all (omega arith)) f in
        rw (y, l, m)
    go false false z l skip next =
        let y : is_zero (get_or lines k (pos 0)) ≡ false = ap is_zero (agree k (omega arith)) ∙ z in
        let d = rw z at e in
        let c = leb-false left count l in
        let m = kept_next given count (bit_of s (p + count)) (omega arith) (sent count (least_above count left all c (omega arith))) in
        rw (y, l, m) (next (omega arith) c)
