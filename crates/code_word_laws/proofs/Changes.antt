-- The changes between two words, counted by any f, by semi-octets and by bits: none between a word and itself, bits no fewer than
-- semi-octets and at most four times them, and both in one number.
-- Assumes nothing.
use mathlib.Core.Path.{◌≡◌, refl, sym, ap, ap₂, ◌∙◌}
use mathlib.Core.Bool.{Bool, true, false}
use mathlib.Core.Logic.{◌≢◌}
use mathlib.Core.List.{List, [], ◌∷◌}
use Prim.Native.Nat.{ℕ, zero, suc, ◌+◌, ◌-◌, ◌*◌, ◌/◌, ◌%◌, ◌≤◌, ◌<◌}
use native.Mathlib.Omega.{arith}
use lib.Dec.{eqb, eqb→eq}
use lib.ListN.{length}
use borrow.Author.Tests.{eqb-true, eqb-false, eq-eqb, ne_eqb}
use Rattle.laws.proofs.Every.{at}
use Rattle.gf16.specs.Field.{sum}
use Rattle.gf16.proofs.Laws.{sum_lt, sum_same, sum_self, sum-zero, cancel}
use Rattle.code_word_laws.specs.Word.{unequal, semi_octet_changed, ones, bits_changed, changes_by, apart, bits_apart}
use Rattle.code_word_laws.specs.Corrector.{both_changed, both_of}

-- ---- a word and itself

pub changes-self : (f : ℕ → ℕ → ℕ) → ((x : ℕ) → f x x ≡ 0) → (xs : List ℕ) → changes_by f xs xs ≡ 0
changes-self f z [] = refl
changes-self f z (x ∷ xs) = let e = z x in let r = changes-self f z xs in omega arith

pub semi-octet-same : (x : ℕ) → semi_octet_changed x x ≡ 0
semi-octet-same x = ap unequal (eq-eqb x x refl)

pub bits-same : (x : ℕ) → bits_changed x x ≡ 0
unfolding ones
bits-same x = ap ones (sum_self x)

pub apart-self : (xs : List ℕ) → apart xs xs ≡ 0
apart-self xs = changes-self semi_octet_changed semi-octet-same xs

pub bits-apart-self : (xs : List ℕ) → bits_apart xs xs ≡ 0
bits-apart-self xs = changes-self bits_changed bits-same xs

-- ---- a semi-octet

pub unequal-le : (b : Bool) → unequal b ≤ 1
unequal-le true = omega arith
unequal-le false = omega arith

pub apart-few : (xs ys : List ℕ) → apart xs ys ≤ length xs
apart-few [] ys = omega arith
apart-few (x ∷ xs) [] = omega arith
apart-few (x ∷ xs) (y ∷ ys) = let r = apart-few xs ys in let u = unequal-le (eqb x y) in omega arith

ones-most : (c : ℕ) → ones c ≤ 4
unfolding ones
ones-most c = omega arith

some-test : ℕ → Bool
some-test c = eqb (1 - ones (suc c)) 0

pub ones-some : (c : ℕ) → c < 16 → c ≢ 0 → 1 ≤ ones c
unfolding some-test ones
ones-some zero h n = absurd (n refl)
ones-some (suc c) h n = let e = eqb→eq (1 - ones (suc c)) 0 (at 15 some-test tt c (omega arith)) in omega arith

-- a changed semi-octet has one to four changed bits, and one that is not has none
pub bits-between : (x y : ℕ) → x < 16 → y < 16
    → (semi_octet_changed x y ≤ bits_changed x y) × (bits_changed x y ≤ 4 * semi_octet_changed x y)
bits-between x y h l = go (eqb x y) refl
  where
    go : (b : Bool) → eqb x y ≡ b → (unequal b ≤ bits_changed x y) × (bits_changed x y ≤ 4 * unequal b)
    go true e =
        let z : bits_changed x y ≡ 0 = ap (λ (c : ℕ). bits_changed x c) (sym (eqb-true x y e)) ∙ bits-same x in
        (omega arith, omega arith)
    go false e =
        let s = ones-some (sum x y) (sum_lt x y h l) (λ z. eqb-false x y e (sum_same x y z)) in
        let m = ones-most (sum x y) in
        (omega arith, omega arith)

-- ---- an error of value v

pub error-changed : (w v : ℕ) → semi_octet_changed w (sum w v) ≡ unequal (eqb v 0)
error-changed w zero = ap unequal (eq-eqb w (sum w 0) (sym (sum-zero w)))
error-changed w (suc v) = ap unequal (ne_eqb w (sum w (suc v)) differs ∙ sym (ne_eqb (suc v) 0 (λ e. omega arith)))
  where
    differs : w ≡ sum w (suc v) → ⊥
    differs e = let z : 0 ≡ suc v = sym (sum_self w) ∙ ap (λ (x : ℕ). sum w x) e ∙ cancel w (suc v) in omega arith

pub error-bits : (w v : ℕ) → bits_changed w (sum w v) ≡ ones v
error-bits w v = ap ones (cancel w v)

-- ---- both in one number

pub both-changed : (w v : ℕ) → both_changed w (sum w v) ≡ both_of v
unfolding both_of
both-changed w v = ap₂ (λ (a b : ℕ). a + 16 * b) (error-changed w v) (error-bits w v)

pub both-few : (v : ℕ) → both_of v ≤ 65
unfolding both_of
both-few v = let u = unequal-le (eqb v 0) in let m = ones-most v in omega arith

-- its bits and its one semi-octet again
pub both_bits : (v : ℕ) → both_of v / 16 ≡ ones v
unfolding both_of
both_bits v = let u = unequal-le (eqb v 0) in omega arith

pub both_one : (v : ℕ) → v ≢ 0 → both_of v % 16 ≡ 1
unfolding both_of
both_one v n = let u : unequal (eqb v 0) ≡ 1 = ap unequal (ne_eqb v 0 n) in omega arith

changes-both : (xs ys : List ℕ) → changes_by both_changed xs ys ≡ apart xs ys + 16 * bits_apart xs ys
changes-both [] ys = refl
changes-both (x ∷ xs) [] = refl
changes-both (x ∷ xs) (y ∷ ys) = let r = changes-both xs ys in omega arith

pub both-apart : (xs ys : List ℕ) (n : ℕ) → length xs ≤ 15 → n ≡ changes_by both_changed xs ys
    → (n % 16 ≡ apart xs ys) × (n / 16 ≡ bits_apart xs ys)
both-apart xs ys n h e =
    let b = e ∙ changes-both xs ys in
    let f = apart-few xs ys in
    (omega arith, omega arith)
