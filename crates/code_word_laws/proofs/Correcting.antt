-- From the rule to the word: any errors that explain a word's sums are the digits that the steps find, so the word with them taken off is
-- the valid word near it, if there is one. That the word found is valid and near is tested; so soundness is that test, and completeness is
-- here.
-- Assumes nothing.
use mathlib.Core.Path.{◌≡◌, refl, sym, ap, ap₂, ◌∙◌, fun_ext, subst}
use mathlib.Core.Bool.{Bool, true, false, false≢true}
use mathlib.Core.List.{List, [], ◌∷◌}
use Prim.Native.Nat.{ℕ, zero, suc, ◌+◌, ◌/◌, ◌%◌, ◌≤◌, ◌<◌}
use native.Mathlib.Omega.{arith}
use lib.ListN.{length, get_or}
use Rattle.laws.specs.Decides.{Decides}
use Rattle.gf16.specs.Field.{sum, power}
use Rattle.gf16.proofs.Laws.{sum_lt, sum-assoc, sum_self, sum-zero, cancel}
use Rattle.code_word_laws.specs.Polynomial.{value, added}
use Rattle.code_word_laws.specs.Word.{SemiOctets, Roots, apart, bits_apart, distance}
use Rattle.code_word_laws.specs.Correct.{Near, WordCorrected}
use Rattle.code_word_laws.specs.Packed.{nibble}
use Rattle.code_word_laws.specs.Corrector.{
  Syndromes,
  Clear,
  Acceptable,
  weight,
  Explains,
  Recurs,
  Continues,
  back,
  Transformed,
  ErrorWord,
  taken_off,
}
use Rattle.code_word_laws.proofs.Changes.{apart-self, bits-apart-self}
use Rattle.code_word_laws.proofs.Distance.{
  support,
  support-rising,
  support-few,
  added-length,
  added-semi-octets,
  value-added,
  value-total,
}
use Rattle.code_word_laws.proofs.Division.{valid-roots, roots-valid, nearest}
use Rattle.code_word_laws.proofs.Transform.{undone}
use Rattle.code_word_laws.proofs.Locator.{Follows}

-- ---- errors as a word, and as a function of the place over a list of places

support-weight : (es : List ℕ) (k : ℕ) → length (support k es) ≡ weight es
support-weight [] k = refl
support-weight (zero ∷ es) k = support-weight es (suc k)
support-weight (suc e ∷ es) k = ap suc (support-weight es (suc k))

abbrev digits : ℕ → List ℕ
digits s = nibble 1 s ∷ nibble 2 s ∷ nibble 3 s ∷ nibble 4 s ∷ nibble 5 s ∷ nibble 6 s ∷ []

digit_at : (s j : ℕ) → j < 6 → nibble (suc j) s ≡ get_or (digits s) j 0
digit_at s zero h = refl
digit_at s (suc zero) h = refl
digit_at s (suc (suc zero)) h = refl
digit_at s (suc (suc (suc zero))) h = refl
digit_at s (suc (suc (suc (suc zero)))) h = refl
digit_at s (suc (suc (suc (suc (suc zero))))) h = refl
digit_at s (suc (suc (suc (suc (suc (suc j)))))) h = absurd (omega arith)

pub locator-by : (t s r1 r2 r3 u : ℕ) → t ≤ 3 → Follows t (digits s) r1 r2 r3 u → Continues t s r1 r2 r3 u
locator-by t s r1 r2 r3 u to h es x =
    subst (λ (v : ℕ → ℕ). Recurs r1 r2 r3 v × (v 3 ≡ u)) (sym (fun_ext (λ n. value-total es n x.semi_octets)))
    (h (λ i. get_or es i 0) (support 0 es) (support-rising es 0 (omega (arith, x.short))) (omega (arith, support-weight es 0, x.few))
    (λ j l. sym (value-total es (suc j) x.semi_octets) ∙ x.sums (suc j) (omega arith) (omega arith) ∙ digit_at s j (omega arith)))

pub error-word-is : (t s r1 r2 r3 u e : ℕ) → 1 ≤ t → Continues t s r1 r2 r3 u → Transformed r1 r2 r3 (nibble 1 s) (nibble 2 s) u e
    → ErrorWord t s e
error-word-is t s r1 r2 r3 u e from h g es x k l =
    g (λ n. value es (power 2 n)) (h es x).0 (x.sums 1 (omega arith) (omega arith)) (x.sums 2 (omega arith) (omega arith)) (h es x).1 k
    l
    ∙ ap (λ (v : ℕ → ℕ). back v k 15) (fun_ext (λ n. value-total es n x.semi_octets))
    ∙ undone es k x.short x.semi_octets l

-- ---- a word with errors taken off

pub taken-off-length : (w : List ℕ) (e : ℕ) → length (taken_off w e) ≡ length w
taken-off-length [] e = refl
taken-off-length (c ∷ cs) e = ap suc (taken-off-length cs (e / 16))

pub taken-off-semi-octets : (w : List ℕ) (e : ℕ) → SemiOctets w → SemiOctets (taken_off w e)
taken-off-semi-octets [] e s = tt
taken-off-semi-octets (c ∷ cs) e s = (sum_lt c (e % 16) s.0 (omega arith), taken-off-semi-octets cs (e / 16) s.1)

-- taking the errors off twice gives the word again
pub taken-off-twice : (w : List ℕ) (e : ℕ) → taken_off (taken_off w e) e ≡ w
taken-off-twice [] e = refl
taken-off-twice (c ∷ cs) e =
    ap₂ (λ (a : ℕ) (l : List ℕ). a ∷ l) (sum-assoc c (e % 16) (e % 16) ∙ ap (λ (x : ℕ). sum c x) (sum_self (e % 16)) ∙ sum-zero c)
    (taken-off-twice cs (e / 16))

taken-off-is : (w cs : List ℕ) (e : ℕ) → length w ≡ length cs → ((k : ℕ) → k < length w → nibble k e ≡ get_or (added w cs) k 0)
    → taken_off w e ≡ cs
unfolding added
taken-off-is [] [] e l h = refl
taken-off-is [] (c ∷ cs) e l h = absurd (omega arith)
taken-off-is (a ∷ w) [] e l h = absurd (omega arith)
taken-off-is (a ∷ w) (c ∷ cs) e l h =
    ap₂ (λ (x : ℕ) (m : List ℕ). x ∷ m) (ap (λ (x : ℕ). sum a x) (h 0 (omega arith)) ∙ cancel a c)
    (taken-off-is w cs (e / 16) (omega arith) (λ k b. h (suc k) (omega arith)))

-- ---- completeness

few-added : (xs ys : List ℕ) → length xs ≡ length ys → weight (added xs ys) ≤ apart xs ys
few-added xs ys l = rw (sym (support-weight (added xs ys) 0)) (support-few xs ys 0 l)

module _ (t : ℕ) (w : List ℕ) (s e : ℕ) (to : t ≤ 3) (short : length w ≤ 15) (semi : SemiOctets w) (syndromes : Syndromes w s) where
  explains : (cs : List ℕ) → length w ≡ length cs → SemiOctets cs → Roots (t + t + 1) cs → apart w cs ≤ t → Explains t s (added w cs)
  explains cs l c r n =
      record {
        short = omega (arith, added-length w cs l);
        semi_octets = added-semi-octets w cs semi c;
        few = omega (arith, few-added w cs l);
        sums = λ j p q.
            value-added w cs (power 2 j)
            ∙ ap (λ (x : ℕ). sum (value w (power 2 j)) x) (r j p (omega arith))
            ∙ sum-zero (value w (power 2 j))
            ∙ sym (syndromes j (omega arith));
      }

  pub complete : ErrorWord t s e → (cs : List ℕ) → length w ≡ length cs → SemiOctets cs → Roots (t + t + 1) cs → apart w cs ≤ t
      → taken_off w e ≡ cs
  complete g cs l c r n = taken-off-is w cs e l (λ k b. g (added w cs) (explains cs l c r n) k (omega arith))

-- ---- what the corrector answers

-- the syndromes are 0 exactly where the word has the roots
clear-roots : (t : ℕ) (w : List ℕ) (s : ℕ) → t ≤ 3 → Syndromes w s → Clear (t + t) s → Roots (t + t + 1) w
clear-roots t w s to syndromes clear j p q = sym (syndromes j (omega arith)) ∙ clear j p (omega arith)

roots-clear : (t : ℕ) (w : List ℕ) (s : ℕ) → t ≤ 3 → Syndromes w s → Roots (t + t + 1) w → Clear (t + t) s
roots-clear t w s to syndromes roots j p q = syndromes j (omega arith) ∙ roots j p (omega arith)

pub accepts-not : (t n : ℕ) (w : List ℕ) → t < n → Decides (Acceptable t n w) false
accepts-not t n w h = record { holds = λ e. absurd (false≢true e); fails = λ e a. omega (arith, a.few) }

pub accepts-clear : (t n : ℕ) (w : List ℕ) (s : ℕ) {r : Bool} → t ≤ 3 → n ≤ t → Syndromes w s → Decides (Clear (t + t) s) r
    → Decides (Acceptable t n w) r
accepts-clear t n w s to h syndromes c =
    record {
      holds = λ e. record { few = h; roots = clear-roots t w s to syndromes (c.holds e) };
      fails = λ e a. c.fails e (roots-clear t w s to syndromes a.roots);
    }

module _ (t : ℕ) (old : List ℕ) (to : t ≤ 3) (short : length old ≤ 15) (semi : SemiOctets old) where
  pub near_by : (w : List ℕ) → SemiOctets w → length w ≡ length old → Roots (t + t + 1) w → apart old w ≤ t → Near (t + 1) old w
  near_by w s l roots n =
      record {
        semi_octets = s;
        long = l;
        valid = roots-valid (distance (t + 1)) w (omega arith) (omega arith) s (λ j p q. roots j p (omega arith));
        near = omega arith;
      }

  pub found-is : (w : List ℕ) (n b : ℕ) → n ≡ apart old w → b ≡ bits_apart old w → Near (t + 1) old w → WordCorrected (t + 1) old w n b
  found-is w n b e f near =
      record {
        found = λ l. near;
        only = λ l v m. nearest (t + 1) old v w short m near;
        counted = λ l. e;
        bits_counted = λ l. f;
        none = λ l. absurd (omega (arith, near.near));
        kept = λ l. absurd (omega (arith, near.near));
        told = λ l. absurd (omega (arith, near.near));
        no_bits = λ l. absurd (omega (arith, near.near));
      }

  -- a valid word has no change
  pub taken-off-clean : (s : ℕ) → Syndromes old s → Clear (t + t) s → WordCorrected (t + 1) old old 0 0
  taken-off-clean s syndromes clear =
      found-is old 0 0 (sym (apart-self old)) (sym (bits-apart-self old))
      (near_by old semi refl (clear-roots t old s to syndromes clear) (omega (arith, apart-self old)))

  module _ (e n : ℕ) (counted : n ≡ apart old (taken_off old e)) where
    pub taken-off-accepted : (b : ℕ) → b ≡ bits_apart old (taken_off old e) → n ≤ t → Roots (t + t + 1) (taken_off old e)
        → WordCorrected (t + 1) old (taken_off old e) n b
    taken-off-accepted b bits few roots =
        found-is (taken_off old e) n b counted bits
        (near_by (taken_off old e) (taken-off-semi-octets old e semi) (taken-off-length old e) roots (omega arith))

    -- a valid word near it would have been found
    pub taken-off-refused : (s k : ℕ) → k ≡ t + 1 → Syndromes old s → ErrorWord t s e → (n ≤ t → Roots (t + t + 1) (taken_off old e) → ⊥)
        → WordCorrected (t + 1) old (taken_off (taken_off old e) e) k 0
    taken-off-refused s k is syndromes error-word not =
        record {
          found = λ b. absurd (omega arith);
          only = λ b. absurd (omega arith);
          counted = λ b. absurd (omega arith);
          bits_counted = λ b. absurd (omega arith);
          none = λ b w near.
              let r : Roots (distance (t + 1)) w = valid-roots (distance (t + 1)) w near.semi_octets near.valid in
              let e' : taken_off old e ≡ w =
              complete t old s e to short semi syndromes error-word w (sym near.long) near.semi_octets (λ j p q. r j p (omega arith))
              (omega (arith, near.near)) in
              not (omega (arith, near.near, counted ∙ ap (λ (l : List ℕ). apart old l) e'))
              (λ j p q. ap (λ (l : List ℕ). value l (power 2 j)) e' ∙ r j p (omega arith));
          kept = λ b. taken-off-twice old e;
          told = λ b. is;
          no_bits = λ b. refl;
        }

  module _ (e n : ℕ) (new : List ℕ) {r : Bool} (en : new ≡ taken_off old e) (counted : n ≡ apart old new)
      (a : Decides (Acceptable t n new) r) where
    pub correct-word-accepted : (b : ℕ) → b ≡ bits_apart old new → r ≡ true → WordCorrected (t + 1) old new n b
    correct-word-accepted b bits taken =
        rw en (taken-off-accepted e n (rw en at counted) b (rw en at bits) (a.holds taken).few (rw en at (a.holds taken).roots))

    -- k is the count that is answered then
    pub correct-word-refused : (s k : ℕ) (last : List ℕ) → last ≡ taken_off new e → k ≡ t + 1 → Syndromes old s → ErrorWord t s e
        → r ≡ false → WordCorrected (t + 1) old last k 0
    correct-word-refused s k last el is syndromes error-word left =
        let back : last ≡ taken_off (taken_off old e) e = el ∙ ap (λ (l : List ℕ). taken_off l e) en in
        rw back (taken-off-refused e n (rw en at counted) s k is syndromes error-word
        (λ few roots. a.fails left (record { few = few; roots = rw en roots })))
