-- Entries in their ranges, run by run (request 02 §5): the first, the next and the last turn of a loop over them. Assumes nothing.
use mathlib.Core.Path.{◌≡◌, refl, sym, ap, ap₂, ◌∙◌}
use mathlib.Core.Logic.{◌⊎◌, inl, inr}
use mathlib.Core.Bool.{Bool, true, false, cond, ◌&&◌}
use Prim.Native.Nat.{ℕ, zero, suc, ◌+◌, ◌-◌, ◌≤◌, ◌<◌}
use native.Mathlib.Omega.{arith}
use native.Mathlib.Numerals.{add-one}
use native.Mathlib.Nat.{sub-zero, add-zero, zero-add}
use lib.Dec.{ltb, leb}
use borrow.Author.Tests.{lt-ltb, le-ltb, ltb-true, ltb-false}
use Rattle.writer_laws.specs.Fits.{fits_from}

pub and-true : (b : Bool) → b && true ≡ b
and-true true = refl
and-true false = refl

and_assoc : (a b c : Bool) → a && b && c ≡ a && (b && c)
and_assoc true b c = refl
and_assoc false b c = refl

-- ---- the limit of an entry

pub limit-low : (most k n : ℕ) {x : ℕ} → k < n → x ≡ most → x ≡ cond (ltb k n) most 0
limit-low most k n h e = rw (lt-ltb k n h) e

pub limit-high : (most k n : ℕ) {x : ℕ} → n ≤ k → x ≡ 0 → x ≡ cond (ltb k n) most 0
limit-high most k n h e = rw (le-ltb k n h) e

-- the limit of all entries up to a place
pub limit-all : (behind : Bool) {x : ℕ} → ((behind ≡ true) × (x ≡ 0)) ⊎ ((behind ≡ false) × (x ≡ 32767)) → x ≡ cond behind 0 32767
limit-all behind (inl w) = rw w.0 w.1
limit-all behind (inr w) = rw w.0 w.1

pub limit-few : (behind : Bool) {x : ℕ} → x ≡ cond behind 0 32767 → x ≤ 32767
limit-few true e = omega arith
limit-few false e = omega arith

-- ---- one turn

-- entries up to m, from any place on: `fits` says of those before k whether they fit
module _ (most n : ℕ) (entry : ℕ → ℕ) (m : ℕ) where
  pub entries-first : true && fits_from most n entry (m - 0) 0 ≡ fits_from most n entry m 0
  entries-first = rw (sub-zero m)

  pub entries_next : (k : ℕ) (fits : Bool) {x limit : ℕ} → k < m → x ≡ entry k → limit ≡ cond (ltb k n) most 0
      → fits && leb x limit && fits_from most n entry (m - (k + 1)) (k + 1) ≡ fits && fits_from most n entry (m - k) k
  unfolding fits_from
  entries_next k fits {x} {limit} h e d =
      let p : m - k ≡ suc (m - (k + 1)) = omega arith in
      rw (p, add-one k, e, d) (and_assoc fits _ _)

  pub entries-done : (k : ℕ) (fits : Bool) → m ≤ k → fits && fits_from most n entry (m - k) k ≡ fits
  unfolding fits_from
  entries-done k fits h = let p : m - k ≡ 0 = omega arith in rw p (and-true fits)

-- ---- two runs, one behind the other

fits_both : (most n : ℕ) (entry : ℕ → ℕ) (a b k : ℕ)
    → fits_from most n entry (a + b) k ≡ fits_from most n entry a k && fits_from most n entry b (k + a)
unfolding fits_from
fits_both most n entry zero b k = ap₂ (λ (i j : ℕ). fits_from most n entry i j) (zero-add b) (sym (add-zero k))
fits_both most n entry (suc a) b k =
    let e : suc k + a ≡ k + suc a = omega arith in
    let d : suc a + b ≡ suc (a + b) = omega arith in
    rw (d, fits_both most n entry a b (suc k), e)
    (sym (and_assoc (leb (entry k) (cond (ltb k n) most 0)) (fits_from most n entry a (suc k)) (fits_from most n entry b (k + suc a))))

-- entries below the place, whatever that is; and entries from it on
fits_low : (most n p : ℕ) (entry : ℕ → ℕ) (a k : ℕ) → k + a ≤ n → k + a ≤ p → fits_from most n entry a k ≡ fits_from most p entry a k
unfolding fits_from
fits_low most n p entry zero k h g = refl
fits_low most n p entry (suc a) k h g =
    rw (lt-ltb k n (omega arith), lt-ltb k p (omega arith), fits_low most n p entry a (suc k) (omega arith) (omega arith))

fits-high : (most n p : ℕ) (entry : ℕ → ℕ) (a k : ℕ) → n ≤ k → fits_from most n entry a k ≡ fits_from 0 p entry a k
unfolding fits_from
fits-high most n p entry zero k h = refl
fits-high most n p entry (suc a) k h = rw (le-ltb k n h, fits-high most n p entry a (suc k) (omega arith)) (none (ltb k p))
  where
    none : (t : Bool) → leb (entry k) 0 && fits_from 0 p entry a (suc k) ≡ leb (entry k) (cond t 0 0) && fits_from 0 p entry a (suc k)
    none true = refl
    none false = refl

-- m is the place n, or the end where that comes first
pub record Least (n all m : ℕ) : Type 0 where
  pub end : m ≤ all
  pub place : m ≤ n
  pub first : m < all → m ≡ n

pub least-is : (n all : ℕ) {m : ℕ} → ((n < all) × (m ≡ n)) ⊎ ((all ≤ n) × (m ≡ all)) → Least n all m
least-is n all (inl w) =
    let h = w.0 in let e = w.1 in record { end = omega arith; place = omega arith; first = λ k. e }
least-is n all (inr w) =
    let h = w.0 in let e = w.1 in record { end = omega arith; place = omega arith; first = λ k. absurd (omega arith) }

pub fits-runs : (most n : ℕ) (entry : ℕ → ℕ) (all m : ℕ) → Least n all m
    → fits_from most n entry all 0 ≡ fits_from most m entry (m - 0) 0 && fits_from 0 all entry (all - m) m
unfolding fits_from
fits-runs most n entry all m l = go (ltb m all) refl l.end l.place
  where
    split : m ≤ all → fits_from most n entry all 0 ≡ fits_from most n entry m 0 && fits_from most n entry (all - m) m
    split h =
        let s : m + (all - m) ≡ all = omega arith in
        ap (λ (i : ℕ). fits_from most n entry i 0) (sym s)
        ∙ (fits_both most n entry m (all - m) 0
        ∙ ap (λ (i : ℕ). fits_from most n entry m 0 && fits_from most n entry (all - m) i) (zero-add m))

    low : m ≤ n → fits_from most n entry m 0 ≡ fits_from most m entry (m - 0) 0
    low g = fits_low most n m entry m 0 (omega arith) (omega arith) ∙ ap (λ (i : ℕ). fits_from most m entry i 0) (sym (sub-zero m))

    go : (t : Bool) → ltb m all ≡ t → m ≤ all → m ≤ n
        → fits_from most n entry all 0 ≡ fits_from most m entry (m - 0) 0 && fits_from 0 all entry (all - m) m
    go true d h g =
        let p = l.first (ltb-true m all d) in
        split h ∙ ap₂ ◌&&◌ (low g) (fits-high most n all entry (all - m) m (omega arith))
    go false d h g =
        let p = ltb-false m all d in
        let q : all - m ≡ 0 = omega arith in
        split h ∙ ap₂ ◌&&◌ (low g) (ap (λ (i : ℕ). fits_from most n entry i m) q ∙ ap (λ (i : ℕ). fits_from 0 all entry i m) (sym q))
