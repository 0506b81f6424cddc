-- One error taken off: a word's values change by those of the error alone, so what is left of its syndromes tells whether the word without
-- it is valid.
-- Assumes nothing.
use mathlib.Core.Path.{◌≡◌, sym, ap, ap₂, ◌∙◌}
use mathlib.Core.Logic.{◌≢◌}
use mathlib.Core.List.{List, [], ◌∷◌}
use Prim.Native.Nat.{ℕ, zero, suc, ◌+◌, ◌/◌, ◌%◌, ◌≤◌, ◌<◌}
use native.Mathlib.Omega.{arith}
use native.Mathlib.Nat.{mod-eq_of_lt}
use lib.Bits.{bit_xor}
use lib.ListN.{length, get_or, set, length-set}
use borrow.Author.Tests.{ne_eqb}
use Rattle.gf16.specs.Field.{sum, product, power}
use Rattle.gf16.proofs.Laws.{ring, sum_lt, product-one, power-power}
use Rattle.code_word_laws.specs.Polynomial.{value}
use Rattle.code_word_laws.specs.Word.{
  SemiOctets,
  Roots,
  unequal,
  semi_octet_changed,
  ones,
  bits_changed,
  changes_by,
  apart,
  bits_apart,
}
use Rattle.code_word_laws.specs.Correct.{WordCorrected}
use Rattle.code_word_laws.specs.Corrector.{Row, Syndromes, Clear, both_of}
use Rattle.code_word_laws.proofs.Packed.{nibble-xor}
use Rattle.code_word_laws.proofs.Changes.{
  changes-self,
  semi-octet-same,
  bits-same,
  error-changed,
  error-bits,
  both_bits,
  both_one,
}
use Rattle.code_word_laws.proofs.Correcting.{near_by, found-is}

-- v added at place k
abbrev changed-at : List ℕ → ℕ → ℕ → List ℕ
changed-at w k v = set w k (sum (get_or w k 0) v)

at_first : (c v y : ℕ) → sum (sum c v) y ≡ sum (sum c y) v
at_first c v y = simp ring

at-later : (c x y v p : ℕ) → sum c (product x (sum y (product v p))) ≡ sum (sum c (product x y)) (product v (product x p))
at-later c x y v p = simp ring

value-changed : (w : List ℕ) (k v x : ℕ) → k < length w → v < 16 → value (changed-at w k v) x ≡ sum (value w x) (product v (power x k))
unfolding power
value-changed [] k v x h l = absurd (omega arith)
value-changed (c ∷ cs) zero v x h l =
    at_first c v (product x (value cs x)) ∙ ap (λ (z : ℕ). sum (sum c (product x (value cs x))) z) (sym (product-one v ∙ mod-eq_of_lt l))
value-changed (c ∷ cs) (suc k) v x h l =
    ap (λ (z : ℕ). sum c (product x z)) (value-changed cs k v x (omega arith) l) ∙ at-later c x (value cs x) v (power x k)

semi-octets-changed : (w : List ℕ) (k v : ℕ) → k < length w → v < 16 → SemiOctets w → SemiOctets (changed-at w k v)
semi-octets-changed [] k v h l s = absurd (omega arith)
semi-octets-changed (c ∷ cs) zero v h l s = (sum_lt c v s.0 l, s.1)
semi-octets-changed (c ∷ cs) (suc k) v h l s = (s.0, semi-octets-changed cs k v (omega arith) l s.1)

-- one place changed: what f counts there
changes-changed : (f : ℕ → ℕ → ℕ) → ((x : ℕ) → f x x ≡ 0) → (w : List ℕ) (k v : ℕ) → k < length w
    → changes_by f w (changed-at w k v) ≡ f (get_or w k 0) (sum (get_or w k 0) v)
changes-changed f z [] k v h = absurd (omega arith)
changes-changed f z (c ∷ cs) zero v h = let r = changes-self f z cs in omega arith
changes-changed f z (c ∷ cs) (suc k) v h =
    let r = changes-changed f z cs k v (omega arith) in
    omega (arith, z c)

apart-changed : (w : List ℕ) (k v : ℕ) → k < length w → v ≢ 0 → apart w (changed-at w k v) ≡ 1
apart-changed w k v h n =
    changes-changed semi_octet_changed semi-octet-same w k v h ∙ error-changed (get_or w k 0) v ∙ ap unequal (ne_eqb v 0 n)

bits-apart-changed : (w : List ℕ) (k v : ℕ) → k < length w → bits_apart w (changed-at w k v) ≡ ones v
bits-apart-changed w k v h = changes-changed bits_changed bits-same w k v h ∙ error-bits (get_or w k 0) v

-- the word is corrected where the rest of its syndromes is clear
pub taken-off-one : (t : ℕ) (old : List ℕ) (s k v r : ℕ) → 1 ≤ t → t ≤ 3 → length old ≤ 15 → SemiOctets old → Syndromes old s
    → k < length old → v < 16 → v ≢ 0
    → Row k v r → Clear (t + t) (bit_xor s r) → WordCorrected (t + 1) old (set old k (bit_xor (get_or old k 0) v)) 1 (ones v)
unfolding sum
taken-off-one t old s k v r from to short semi syndromes h l n row clear =
    found-is t old to short semi (changed-at old k v) 1 (ones v) (sym one) (sym (bits-apart-changed old k v h))
    (near_by t old to short semi (changed-at old k v) (semi-octets-changed old k v h l semi)
    (length-set old k (sum (get_or old k 0) v)) roots
    (omega (arith, one)))
  where
    one : apart old (changed-at old k v) ≡ 1
    one = apart-changed old k v h n

    roots : Roots (t + t + 1) (changed-at old k v)
    roots j p q =
        value-changed old k v (power 2 j) h l
        ∙ ap₂ sum (sym (syndromes j (omega arith))) (ap (λ (x : ℕ). product v x) (power-power 2 j k) ∙ sym (row j (omega arith)))
        ∙ sym (nibble-xor j s r)
        ∙ clear j p (omega arith)

-- the bits of an error, from both its counts
pub bits-of : (v b : ℕ) → v < 16 → b ≡ both_of (v % 16) → b / 16 ≡ ones v
bits-of v b l e = ap (λ (x : ℕ). x / 16) (e ∙ ap both_of (mod-eq_of_lt l)) ∙ both_bits v

-- one semi-octet
pub count_of : (v b : ℕ) → v < 16 → v ≢ 0 → b ≡ both_of (v % 16) → b % 16 ≡ 1
count_of v b l n e = ap (λ (x : ℕ). x % 16) (e ∙ ap both_of (mod-eq_of_lt l)) ∙ both_one v n
