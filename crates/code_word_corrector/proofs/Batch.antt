-- Many words that stand one after the other, as even in length as can be: where each starts, that all of them are the whole, and what a
-- turn of the loop over them keeps.
-- Assumes nothing.
use mathlib.Core.Path.{◌≡◌, refl, sym, ap, ap₂, ◌∙◌}
use mathlib.Core.Bool.{Bool, true, false, cond}
use mathlib.Core.List.{List, [], ◌∷◌, ◌++◌}
use Prim.Native.Nat.{ℕ, zero, suc, ◌+◌, ◌*◌, ◌/◌, ◌%◌, ◌≤◌, ◌<◌, min}
use native.Mathlib.Omega.{arith}
use native.Mathlib.Nat.{le_refl, mul-suc, mul-zero, mod-lt, div-add-mod'}
use native.Mathlib.Decide.{le_ind}
use lib.Dec.{eqb, ltb}
use lib.ListN.{length, get_or, take, drop, set, length-set, length-append, length-drop}
use lib.Seq.{get_or-set_same, get_or-set_other, length-take-le, take_at, drop_at, drop-drop}
use borrow.Author.Tests.{eqb-true, eqb-false, ltb-true, ltb-false}
use Rattle.std.specs.Prelude.{Option, Some, None, MatchOption}
use Rattle.std.specs.Option.{unwrap_or}
use Rattle.code_word_laws.specs.Word.{SemiOctets}
use Rattle.code_word_laws.specs.Correct.{WordCorrected, length_at, start_at}
use Rattle.code_word_laws.specs.Corrector.{Dealt}
use Rattle.code_word_laws.proofs.Register.{drop-semi-octets}
use Rattle.code_word_laws.proofs.Division.{take-semi-octets}

-- ---- where words start

one_more : (q r i : ℕ) (b : Bool) → ltb i r ≡ b → q * i + min i r + cond b (q + 1) q ≡ q * suc i + min (suc i) r
one_more q r i true e = let h = ltb-true i r e in omega (arith, mul-suc q i)
one_more q r i false e = let h = ltb-false i r e in omega (arith, mul-suc q i)

start_is : (many n i : ℕ) → start_at many n i ≡ many / n * i + min i (many % n)
start_is many n zero = omega (arith, mul-zero (many / n))
start_is many n (suc i) = ap (λ (x : ℕ). x + length_at many n i) (start_is many n i)
    ∙ one_more (many / n) (many % n) i (ltb i (many % n)) refl

-- the last word ends where the semi-octets do
start-end : (many n : ℕ) → 1 ≤ n → start_at many n n ≡ many
start-end many n h = start_is many n n ∙ omega (arith, mod-lt many h, div-add-mod' many n)

start-rises : (many n i j : ℕ) → i ≤ j → start_at many n i ≤ start_at many n j
start-rises many n i j h =
    le_ind (λ (m : ℕ). start_at many n i ≤ start_at many n m) (le_refl (start_at many n i)) (λ m k p. omega (arith, p)) j h

-- a part that lies in the front is the front's
part-of-front : (a n m : ℕ) (xs : List ℕ) → a + n ≤ m → take n (drop a (take m xs)) ≡ take n (drop a xs)
part-of-front zero zero m xs h = refl
part-of-front zero (suc n) zero xs h = absurd (omega arith)
part-of-front zero (suc n) (suc m) [] h = refl
part-of-front zero (suc n) (suc m) (x ∷ xs) h = ap (λ (l : List ℕ). x ∷ l) (part-of-front zero n m xs (omega arith))
part-of-front (suc a) n zero xs h = absurd (omega arith)
part-of-front (suc a) n (suc m) [] h = refl
part-of-front (suc a) n (suc m) (x ∷ xs) h = part-of-front a n m xs (omega arith)

-- ---- the loop

-- word i, where the semi-octets are so many
abbrev pub piece : ℕ → ℕ → ℕ → List ℕ → List ℕ
piece many n i words = take (length_at many n i) (drop (start_at many n i) words)

-- the first i words are done, and the rest is as it was
pub record MendedTo (mode many n : ℕ) (old : List ℕ) (i at : ℕ) (new counts bits : List ℕ) : Type 0 where
  pub place : at ≡ start_at many n i
  pub as_long : length new ≡ many
  pub as_many : length counts ≡ n
  pub as_many_bits : length bits ≡ n
  pub behind : drop at new ≡ drop at old
  pub each : (j : ℕ) → j < i → WordCorrected mode (piece many n j old) (piece many n j new) (get_or counts j 0) (get_or bits j 0)

module _ (mode many n : ℕ) (old : List ℕ) (i at : ℕ) (new counts bits : List ℕ) (k : MendedTo mode many n old i at new counts bits) where
  module _ (long : ℕ) (is : long ≡ length_at many n i) (i-in : i < n) where
    -- the end of word i lies in the words
    pub batch-inside : at + long ≤ length new
    batch-inside =
        let e : at + long ≡ start_at many n (suc i) = ap₂ (λ (x y : ℕ). x + y) k.place is in
        omega (arith, start-rises many n (suc i) n i-in, start-end many n (omega arith), k.as_long)

    -- word i as it stands is word i as it was
    pub batch-word : take long (drop at new) ≡ piece many n i old
    batch-word = ap (λ (l : List ℕ). take long l) k.behind ∙ ap₂ (λ (x y : ℕ). take x (drop y old)) is k.place

    pub batch-semi : SemiOctets old → SemiOctets (take long (drop at new))
    batch-semi s = rw k.behind (take-semi-octets long (drop at old) (drop-semi-octets at old s))

    module _ (last : List ℕ) (r b : ℕ) (long-last : length last ≡ long)
        (corrected : WordCorrected mode (take long (drop at new)) last r b) where
      abbrev rest : List ℕ
      rest = drop long (drop at new)

      abbrev after : List ℕ
      after = take at new ++ (last ++ rest)

      front : take at after ≡ take at new
      front = take_at (take at new) (last ++ rest) at (length-take-le at new (omega (arith, batch-inside)))

      rear : drop at after ≡ last ++ rest
      rear = drop_at (take at new) (last ++ rest) at (length-take-le at new (omega (arith, batch-inside)))

      done : (j : ℕ) → j < i → piece many n j after ≡ piece many n j new
      done j h =
          let b : start_at many n j + length_at many n j ≤ at = omega (arith, k.place, start-rises many n (suc j) i h) in
          sym (part-of-front (start_at many n j) (length_at many n j) at after b)
          ∙ ap (λ (l : List ℕ). take (length_at many n j) (drop (start_at many n j) l)) front
          ∙ part-of-front (start_at many n j) (length_at many n j) at new b

      now-done : piece many n i after ≡ last
      now-done =
          ap₂ (λ (x y : ℕ). take x (drop y after)) (sym is) (sym k.place)
          ∙ ap (λ (l : List ℕ). take long l) rear
          ∙ take_at last rest long long-last

      each_next : (j : ℕ) → j < suc i → (t : Bool) → eqb j i ≡ t
          → WordCorrected mode (piece many n j old) (piece many n j after) (get_or (set counts i r) j 0) (get_or (set bits i b) j 0)
      each_next j h true e =
          let s = eqb-true j i e in
          let n = get_or-set_same counts i r 0 (omega (arith, k.as_many)) in
          let m = get_or-set_same bits i b 0 (omega (arith, k.as_many_bits)) in
          rw (s, now-done, n, m)
          (rw batch-word at corrected)
      each_next j h false e =
          let d : (j ≡ i → ⊥) = eqb-false j i e in
          rw (done j (omega arith), get_or-set_other counts i j r 0 d, get_or-set_other bits i j b 0 d) (k.each j (omega arith))

      pub batch-next : MendedTo mode many n old (suc i) (at + long) after (set counts i r) (set bits i b)
      batch-next =
          record {
            place = ap₂ (λ (x y : ℕ). x + y) k.place is;
            as_long =
                length-append (take at new) (last ++ rest)
                ∙ ap₂ (λ (x y : ℕ). x + y) (length-take-le at new (omega (arith, batch-inside))) (length-append last rest)
                ∙ omega (arith, long-last, length-drop long (drop at new), length-drop at new, k.as_long, batch-inside);
            as_many = length-set counts i r ∙ k.as_many;
            as_many_bits = length-set bits i b ∙ k.as_many_bits;
            behind =
                sym (drop-drop long at after)
                ∙ ap (λ (l : List ℕ). drop long l) rear
                ∙ drop_at last rest long long-last
                ∙ ap (λ (l : List ℕ). drop long l) k.behind
                ∙ drop-drop long at old;
            each = λ j h. each_next j h (eqb j i) refl;
          }

-- ---- the settings of a batch

pub dealt-is : {many n long over r : ℕ} (i : ℕ) → Dealt many n long over → r ≡ cond (ltb i over) (long + 1) long → r ≡ length_at many n i
dealt-is i d e = e ∙ ap₂ (λ (x y : ℕ). cond (ltb i x) (y + 1) y) d.rest d.quotient

-- ---- the counts of a word

-- those that are left of a word are its own, or t + 1 and 0 where it has none
pub told : (t : ℕ) (old new : List ℕ) (r : Option ℕ) (f : ℕ) → t ≤ 3 → f ≡ unwrap_or r (t + 1)
    → MatchOption r (WordCorrected (t + 1) old new (t + 1) 0)
    (λ both. (both ≤ 975) × (both % 16 ≤ t) × WordCorrected (t + 1) old new (both % 16) (both / 16))
    → WordCorrected (t + 1) old new (f % 16) (f / 16)
told t old new None f l e m =
    let n : f % 16 ≡ t + 1 = omega arith in
    let b : f / 16 ≡ 0 = omega arith in
    rw (n, b) m
told t old new (Some both) f l e m = rw e m.2

-- .. and small enough for a byte
pub told-small : (t : ℕ) (old new : List ℕ) (r : Option ℕ) (f : ℕ) → t ≤ 3 → f ≡ unwrap_or r (t + 1)
    → MatchOption r (WordCorrected (t + 1) old new (t + 1) 0)
    (λ both. (both ≤ 975) × (both % 16 ≤ t) × WordCorrected (t + 1) old new (both % 16) (both / 16))
    → f ≤ 975
told-small t old new None f l e m = omega arith
told-small t old new (Some both) f l e m = rw e m.0
