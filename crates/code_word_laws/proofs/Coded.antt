-- The code word over the data, by division, is a code word, and the only one of its length over these data. It rests on the division of
-- Division.antt, and on the distance: two words over the same data differ in the d - 1 check semi-octets at most.
-- Assumes nothing.
use mathlib.Core.Path.{◌≡◌, sym, ap, ◌∙◌}
use mathlib.Core.List.{List, [], ◌∷◌, ◌++◌}
use Prim.Native.Nat.{ℕ, zero, suc, ◌+◌, ◌-◌, ◌≤◌}
use native.Mathlib.Omega.{arith}
use lib.Dec.{eqb}
use lib.ListN.{length, get_or, drop, replicate, length-append}
use lib.Seq.{drop_at}
use Rattle.gf16.specs.Field.{sum}
use Rattle.gf16.proofs.Laws.{sum-undone, sum-zero, zero-sum}
use Rattle.code_word_laws.specs.Polynomial.{multiplied, rooted, generator}
use Rattle.code_word_laws.specs.Word.{SemiOctets, apart}
use Rattle.code_word_laws.specs.Make.{remainder, coded, CodeWord}
use Rattle.code_word_laws.proofs.Changes.{unequal-le, apart-self}
use Rattle.code_word_laws.proofs.Division.{
  unique,
  divided,
  quotient_by,
  rooted-monic,
  remainder-length,
  remainder-semi-octets,
  zeros-semi-octets,
}

pub append-semi-octets : (xs ys : List ℕ) → SemiOctets xs → SemiOctets ys → SemiOctets (xs ++ ys)
append-semi-octets [] ys s t = t
append-semi-octets (x ∷ xs) ys s t = (s.0, append-semi-octets xs ys s.1 t)

-- what stands in front of the data is added at powers where the shifted data have none
front : (n : ℕ) (rs message : List ℕ) (k : ℕ) → length rs ≡ n
    → get_or (rs ++ message) k 0 ≡ sum (get_or (replicate n 0 ++ message) k 0) (get_or rs k 0)
front zero [] message k e = sym (sum-zero (get_or message k 0))
front zero (r ∷ rs) message k e = absurd (omega arith)
front (suc n) [] message k e = absurd (omega arith)
front (suc n) (r ∷ rs) message zero e = sym (zero-sum r)
front (suc n) (r ∷ rs) message (suc k) e = front n rs message k (omega arith)

pub coded-is : (d : ℕ) (message : List ℕ) → SemiOctets message → CodeWord d message (coded d message)
unfolding coded generator
coded-is d message s =
    let n = d - 1 in
    let g = rooted n in
    let z = replicate n 0 ++ message in
    let t = append-semi-octets (replicate n 0) message (zeros-semi-octets n) s in
    let l = remainder-length n g z in
    record {
      semi_octets = append-semi-octets (remainder n g z) message (remainder-semi-octets n g z t) s;
      long = length-append (remainder n g z) message ∙ ap (λ (k : ℕ). k + length message) l;
      holds = drop_at (remainder n g z) message n l;
      valid = record {
        quotient = quotient_by n g z;
        same = λ k.
            sym (sum-undone (get_or (multiplied (quotient_by n g z) g) k 0) (get_or (remainder n g z) k 0))
            ∙ ap (λ (v : ℕ). sum v (get_or (remainder n g z) k 0)) (divided n g z (rooted-monic n) t k)
            ∙ sym (front n (remainder n g z) message k l);
      };
    }

-- words with the same data differ in front of them at most
pub apart-front : (n : ℕ) (xs ys : List ℕ) → drop n xs ≡ drop n ys → apart xs ys ≤ n
apart-front zero xs ys e = let h : apart xs ys ≡ 0 = ap (λ (l : List ℕ). apart l ys) e ∙ apart-self ys in omega arith
apart-front (suc n) [] ys e = omega arith
apart-front (suc n) (x ∷ xs) [] e = omega arith
apart-front (suc n) (x ∷ xs) (y ∷ ys) e = let r = apart-front n xs ys e in let u = unequal-le (eqb x y) in omega arith

-- two code words over the same data
pub code-word-only : (d : ℕ) (message v w : List ℕ) → 2 ≤ d → d - 1 + length message ≤ 15 → CodeWord d message v → CodeWord d message w
    → v ≡ w
code-word-only d message v w a l p q =
    let f = apart-front (d - 1) v w (p.holds ∙ sym q.holds) in
    unique d v w (p.long ∙ sym q.long) (omega (arith, p.long)) p.semi_octets q.semi_octets p.valid q.valid (omega arith)

pub coded-only : (d : ℕ) (message w : List ℕ) → 2 ≤ d → d - 1 + length message ≤ 15 → SemiOctets message → CodeWord d message w
    → w ≡ coded d message
coded-only d message w a l s p = code-word-only d message w (coded d message) a l p (coded-is d message s)
