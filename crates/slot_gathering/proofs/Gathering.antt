-- What the code that gathers the data of corrected words asks: a word's data in their room, and one count more in each sum.
-- Assumes nothing.
use mathlib.Core.Path.{◌≡◌, refl, sym, ap, ap₂, ◌∙◌}
use mathlib.Core.Bool.{Bool, true, false}
use mathlib.Core.List.{List, [], ◌∷◌}
use Prim.Native.Nat.{ℕ, zero, suc, ◌+◌, ◌*◌, ◌-◌, ◌≤◌, ◌<◌}
use native.Mathlib.Omega.{arith}
use native.Mathlib.Numerals.{add-one}
use lib.Dec.{eqb}
use lib.ListN.{length, get_or, take, drop, length-drop}
use lib.Seq.{drop-drop}
use borrow.Author.Tests.{eqb-true, eqb-false}
use borrow.Rule.Slice.PartMut.{put_mid}
use Rattle.laws.specs.Tab.{total, Below}
use Rattle.laws.proofs.Tab.{total-next, total-none, total-up, below-drop}
use Rattle.code_word_laws.specs.Word.{distance, IsDistance}
use Rattle.slot_laws.specs.Sizes.{words, word_length, data_length}
use Rattle.slot_laws.specs.Words.{piece, data_word}
use Rattle.slot_laws.specs.Order.{Data}
use Rattle.slot_clean.specs.Inner.{SemiOctetsOf}
use Rattle.slot_gathering.specs.Inner.{GatheredTo}
use Rattle.slot_laws.proofs.Sizes.{lengths, checks-fit}
use Rattle.slot_laws.proofs.Words.{length-piece, below-piece}
use Rattle.slot_laws.proofs.RoomSteps.{WordPart, new-data, new_word, same-words-before}

-- ---- the data of a word put where they belong

-- what is behind the first c of the first n
behind-front : (c m n : ℕ) (xs : List ℕ) → n ≡ c + m → take m (drop c xs) ≡ drop c (take n xs)
behind-front zero m n xs e = let k : m ≡ n = omega arith in ap (λ (x : ℕ). take x xs) k
behind-front (suc c) m zero xs e = absurd (omega arith)
behind-front (suc c) zero (suc n) [] e = refl
behind-front (suc c) (suc m) (suc n) [] e = refl
behind-front (suc c) m (suc n) (x ∷ xs) e = behind-front c m n xs (omega arith)

-- one count more in a sum of counts
one_more : (counts : List ℕ) (i : ℕ) {sum count : ℕ} → sum ≡ total (λ j. get_or counts j 0) i → count ≡ get_or counts i 0
    → sum + count ≡ total (λ j. get_or counts j 0) (i + 1)
one_more counts i s c =
    ap₂ (λ (x y : ℕ). x + y) s c ∙ sym (total-next (λ j. get_or counts j 0) i) ∙ ap (total (λ j. get_or counts j 0)) (sym (add-one i))

-- the data of word i, which starts at from of all, go to their room
module _ {size mode i at n e from d : ℕ} {old all : List ℕ} (part : WordPart size mode i at n e old) (whole : SemiOctetsOf size mode all)
    (from_is : from ≡ total (word_length size) i) (is : IsDistance mode d) where
  pub ends-in : from + n ≤ 2 * size
  ends-in =
      let u = total-up (word_length size) (suc i) (words size) part.inside in
      let t = total-next (word_length size) i in
      omega (arith, lengths size part.range.size_from, part.is)

  -- the whole word is there
  pub fits-in : from + n ≤ length all
  fits-in = let b = ends-in in omega (arith, whole.long)

  abbrev word : List ℕ
  word = piece (word_length size) all i

  word-long : length word ≡ word_length size i
  word-long =
      let t = total-next (word_length size) i in
      length-piece (word_length size) all i (omega (arith, ends-in, whole.long, part.is))

  module _ {last : List ℕ} (copied : last ≡ take (from + n - (from + (d - 1))) (drop (from + (d - 1)) all)) where
    last-is : last ≡ drop (distance mode - 1) word
    unfolding piece
    last-is =
        let f = checks-fit size mode i part.range part.inside in
        let m : from + n - (from + (d - 1)) ≡ data_length size mode i = omega (arith, part.is, is.is) in
        copied
        ∙ ap₂ (λ (x y : ℕ). take x (drop (from + (y - 1)) all)) m is.is
        ∙ ap (take (data_length size mode i)) (sym (drop-drop (distance mode - 1) from all))
        ∙ behind-front (distance mode - 1) (data_length size mode i) (word_length size i) (drop from all) (sym f)
        ∙ ap (λ (y : ℕ). drop (distance mode - 1) (take (word_length size i) (drop y all))) from_is

    last-long : length last ≡ data_length size mode i
    last-long =
        let f = checks-fit size mode i part.range part.inside in
        let d = length-drop (distance mode - 1) word in
        ap (λ (s : List ℕ). length s) last-is ∙ d ∙ omega (arith, word-long)

    below_last : Below 16 last
    below_last = rw last-is (below-drop 16 (distance mode - 1) word (below-piece 16 (word_length size) all i (omega arith) whole.below))

    pub gathered_next : {counts bits : List ℕ} {sum bit-sum count bit-count : ℕ} → GatheredTo size mode all counts bits old i sum bit-sum
        → count ≡ get_or counts i 0 → bit-count ≡ get_or bits i 0 → count < mode
        → GatheredTo size mode all counts bits (put_mid at (e - at) old last) (i + 1) (sum + count) (bit-sum + bit-count)
    gathered_next {counts} {bits} {sum} {bit-sum} {count} {bit-count} g c b l = record {
      given = new-data part last last-long below_last;
      each = λ j h. each_next j h (eqb j i) refl;
      few = λ j h. few-next j h (eqb j i) refl;
      counted = one_more counts i g.counted c;
      bits_counted = one_more bits i g.bits_counted b;
    }
      where
        each_next : (j : ℕ) → j < i + 1 → (b : Bool) → eqb j i ≡ b
            → data_word size mode (put_mid at (e - at) old last) j ≡ drop (distance mode - 1) (piece (word_length size) all j)
        each_next j h true t = rw (eqb-true j i t) (new_word part last last-long below_last ∙ last-is)
        each_next j h false t =
            let d : (j ≡ i → ⊥) = eqb-false j i t in
            let k : j < i = omega arith in
            same-words-before part last last-long below_last j k ∙ g.each j k

        few-next : (j : ℕ) → j < i + 1 → (b : Bool) → eqb j i ≡ b → get_or counts j 0 < mode
        few-next j h true t = rw (eqb-true j i t) (rw c at l)
        few-next j h false t = let d : (j ≡ i → ⊥) = eqb-false j i t in g.few j (omega arith)

pub gathered-first : (size mode : ℕ) (all counts bits message : List ℕ) → Data size mode message
    → GatheredTo size mode all counts bits message 0 0 0
gathered-first size mode all counts bits message d = record {
  given = d;
  each = λ j h. absurd (omega arith);
  few = λ j h. absurd (omega arith);
  counted = sym (total-none (λ j. get_or counts j 0));
  bits_counted = sym (total-none (λ j. get_or bits j 0));
}
