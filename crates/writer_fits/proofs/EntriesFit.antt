-- Entries in their ranges (request 02 §5): the definition's test is true where each entry is within its limit. Assumes nothing.
use mathlib.Core.Path.{◌≡◌, refl}
use mathlib.Core.Logic.{◌↔◌}
use mathlib.Core.Bool.{Bool, true, false, cond, ◌&&◌}
use Prim.Native.Nat.{ℕ, zero, suc, ◌+◌, ◌≤◌, ◌<◌}
use native.Mathlib.Omega.{arith}
use lib.Dec.{ltb, leb, eqb}
use borrow.Author.Tests.{le-leb, leb-true, eqb-true, eqb-false, lt-ltb, le-ltb}
use Rattle.std.proofs.lemmas.Bool.Decides.{same_from_decides}
use Rattle.writer_laws.specs.Fits.{fits_from}
use Rattle.writer_laws.proofs.Given.{both_hold}

module _ (most n : ℕ) (entry : ℕ → ℕ) where
  -- the entries from place k up to place j are within their limits
  abbrev pub Within : ℕ → ℕ → Type 0
  Within k j = (i : ℕ) → k ≤ i → i < j → entry i ≤ cond (ltb i n) most 0

  within_from : (m k : ℕ) → fits_from most n entry m k ≡ true → Within k (k + m)
  unfolding fits_from
  within_from zero k h i p q = absurd (omega arith)
  within_from (suc m) k h i p q =
      let b = both_hold (leb (entry k) (cond (ltb k n) most 0)) (fits_from most n entry m (suc k)) h in
      go b.0 (λ l. within_from m (suc k) b.1 i l (omega arith)) (eqb i k) refl
    where
      go : leb (entry k) (cond (ltb k n) most 0) ≡ true → (suc k ≤ i → entry i ≤ cond (ltb i n) most 0) → (t : Bool) → eqb i k ≡ t
          → entry i ≤ cond (ltb i n) most 0
      go here rest true t = rw (eqb-true i k t) (leb-true (entry k) (cond (ltb k n) most 0) here)
      go here rest false t = let e = eqb-false i k t in rest (omega arith)

  fits-within : (m k : ℕ) → Within k (k + m) → fits_from most n entry m k ≡ true
  unfolding fits_from
  fits-within zero k h = refl
  fits-within (suc m) k h =
      let r = fits-within m (suc k) (λ i p q. h i (omega arith) (omega arith)) in
      rw (le-leb (entry k) (cond (ltb k n) most 0) (h k (omega arith) (omega arith)), r) refl

  -- one entry more is tested
  pub each-more : (k : ℕ) (b : Bool) {x limit : ℕ} → (b ≡ true) ↔ Within 0 k → x ≡ entry k → limit ≡ cond (ltb k n) most 0
      → (b && leb x limit ≡ true) ↔ Within 0 (k + 1)
  each-more k b {x} {limit} h e d = (
    (λ t. let p = both_hold b (leb x limit) t in
        below p (leb-true x limit p.1)),
    (λ w. let here : x ≤ limit = rw (e, d) (w k (omega arith) (omega arith)) in
        rw (h.1 (λ i p q. w i p (omega arith)), le-leb x limit here) refl),
  )
    where
      below : (b ≡ true) × (leb x limit ≡ true) → x ≤ limit → Within 0 (k + 1)
      below p l i o q = go (eqb i k) refl
        where
          go : (t : Bool) → eqb i k ≡ t → entry i ≤ cond (ltb i n) most 0
          go true t = rw (eqb-true i k t) (rw (e, d) at l)
          go false t = let f = eqb-false i k t in h.0 p.0 i o (omega arith)

  -- a test that says so is the definition's
  pub fits-is : (b : Bool) (m : ℕ) → (b ≡ true) ↔ Within 0 m → b ≡ fits_from most n entry m 0
  fits-is b m h =
      same_from_decides b (fits_from most n entry m 0) h
      ((λ e i p q. within_from m 0 e i p (omega arith)), (λ w. fits-within m 0 (λ i p q. w i p (omega arith))))

pub limit_low : (most k n : ℕ) {x : ℕ} → k < n → x ≡ most → x ≡ cond (ltb k n) most 0
limit_low most k n h e = rw (lt-ltb k n h) e

pub limit_high : (most k n : ℕ) {x : ℕ} → n ≤ k → x ≡ 0 → x ≡ cond (ltb k n) most 0
limit_high most k n h e = rw (le-ltb k n h) e
