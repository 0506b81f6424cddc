-- A line's magnitude by two signed tests, and the lines that are not 0, from a place on (request 02 §5). Assumes nothing.
use mathlib.Core.Path.{◌≡◌, refl, sym, ap, ap₂, ◌∙◌}
use mathlib.Core.Bool.{Bool, true, false, cond, ◌&&◌}
use mathlib.Core.List.{List}
use Prim.Native.Nat.{ℕ, zero, suc, ◌+◌, ◌-◌, ◌≤◌, ◌<◌}
use native.Mathlib.Omega.{arith}
use native.Mathlib.Numerals.{add-one}
use native.Mathlib.Nat.{sub-zero, add-zero, zero-add}
use lib.Dec.{leb, leb-zero, leb-suc-zero, leb-suc-suc}
use lib.IntN.{ℤ, pos, negsuc, neg_ℤ, nat_abs, ◌-ℤ◌, +ℤ_idl}
use lib.ListN.{get_or}
use lib.Signed.{le_z}
use mir.Syntax.{w32}
use mir.Val.{SFits, of_z, to_z}
use mir.ValLaws.{to_z-of_z, to_z_pos}
use Rattle.frame_residual.specs.Residual.{is_zero}
use Rattle.frame_residual.proofs.LateBits.{zero-yes, zero-no}
use Rattle.writer_laws.specs.Fits.{non_zero_from}
use Rattle.writer_fits.proofs.RunsFit.{and-true}

-- ---- at most m and at least -m

between : (v : ℤ) (m : ℕ) → le_z (neg_ℤ (pos m)) v && le_z v (pos m) ≡ leb (nat_abs v) m
between (pos n) zero = rw (leb-zero n)
between (pos n) (suc m) = refl
between (negsuc n) zero = sym (leb-suc-zero n)
between (negsuc n) (suc m) = rw (leb-suc-suc n m) (and-true (leb n m))

minus-fits : (m : ℕ) → m ≤ 32767 → SFits w32 (neg_ℤ (pos m))
minus-fits zero h = let p : 0 < 2147483648 = omega arith in record { sfits = p }
minus-fits (suc m) h = let p : m < 2147483648 = omega arith in record { sfits = p }

minus_is : (m : ℕ) → m ≤ 32767 → pos 0 -ℤ to_z w32 m ≡ neg_ℤ (pos m)
minus_is m h = let p : m < 2147483648 = omega arith in rw (to_z_pos w32 m p) (+ℤ_idl (neg_ℤ (pos m)))

pub limit-fits : (m : ℕ) → m ≤ 32767 → SFits w32 (pos 0 -ℤ to_z w32 m)
limit-fits m h = rw (minus_is m h) (minus-fits m h)

pub magnitude-test : (v : ℤ) (m : ℕ) → SFits w32 v → m ≤ 32767
    → le_z (to_z w32 (of_z w32 (pos 0 -ℤ to_z w32 m))) (to_z w32 (of_z w32 v)) && le_z (to_z w32 (of_z w32 v)) (to_z w32 m)
    ≡ leb (nat_abs v) m
magnitude-test v m f h =
    let p : m < 2147483648 = omega arith in
    rw (minus_is m h, to_z-of_z w32 (neg_ℤ (pos m)) (minus-fits m h), to_z-of_z w32 v f, to_z_pos w32 m p) (between v m)

-- ---- the lines that are not 0

pub counted-one : (v : ℤ) (a : ℕ) {b : ℕ} → (of_z w32 v ≡ 0 → ⊥) → b ≡ a + 1 → b ≡ a + cond (is_zero v) 0 1
counted-one v a h e = rw (zero-no v h) e

pub counted_none : (v : ℤ) (a : ℕ) {b : ℕ} → SFits w32 v → of_z w32 v ≡ 0 → b ≡ a → b ≡ a + cond (is_zero v) 0 1
counted_none v a f h e = rw (zero-yes v f h) (e ∙ sym (add-zero a))

pub counted-most : (v : ℤ) (a : ℕ) {b : ℕ} → b ≡ a + cond (is_zero v) 0 1 → b ≤ a + 1
counted-most v a {b} e = go (is_zero v) e
  where
    go : (t : Bool) → b ≡ a + cond t 0 1 → b ≤ a + 1
    go true d = omega arith
    go false d = omega arith

-- lines up to m, from any place on: a of those before k are not 0
module _ (xs : List ℤ) (m : ℕ) where
  pub count_next : (k a : ℕ) {b : ℕ} → k < m → b ≡ a + cond (is_zero (get_or xs k (pos 0))) 0 1
      → b + non_zero_from xs (m - (k + 1)) (k + 1) ≡ a + non_zero_from xs (m - k) k
  unfolding non_zero_from
  count_next k a h e =
      let p : m - k ≡ suc (m - (k + 1)) = omega arith in
      rw (p, add-one k, e) (omega arith)

  pub count-done : (k a : ℕ) → m ≤ k → a + non_zero_from xs (m - k) k ≡ a
  unfolding non_zero_from
  count-done k a h = let p : m - k ≡ 0 = omega arith in rw p (add-zero a)

-- two runs, one behind the other
count-both : (xs : List ℤ) (a b k : ℕ) → non_zero_from xs (a + b) k ≡ non_zero_from xs a k + non_zero_from xs b (k + a)
unfolding non_zero_from
count-both xs zero b k =
    ap₂ (λ (i j : ℕ). non_zero_from xs i j) (zero-add b) (sym (add-zero k)) ∙ sym (zero-add (non_zero_from xs b (k + 0)))
count-both xs (suc a) b k =
    let e : suc k + a ≡ k + suc a = omega arith in
    let d : suc a + b ≡ suc (a + b) = omega arith in
    let r = count-both xs a b (suc k) in
    rw (d, r, e) (omega arith)

pub count_runs : (xs : List ℤ) (all m : ℕ) → m ≤ all → non_zero_from xs all 0 ≡ non_zero_from xs (m - 0) 0 + non_zero_from xs (all - m) m
count_runs xs all m h =
    let s : m + (all - m) ≡ all = omega arith in
    ap (λ (i : ℕ). non_zero_from xs i 0) (sym s) ∙ (count-both xs m (all - m) 0
    ∙ ap₂ (λ (i j : ℕ). non_zero_from xs i 0 + non_zero_from xs (all - m) j) (sym (sub-zero m)) (zero-add m))
