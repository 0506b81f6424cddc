-- A word's data in their place among the data of the slot: where they end, the room that they have, and what is read there once they are
-- put. Assumes nothing.
use mathlib.Core.Path.{◌≡◌, sym, ap, ◌∙◌}
use mathlib.Core.List.{List, ◌++◌}
use Prim.Native.Nat.{ℕ, suc, ◌+◌, ◌-◌, ◌≤◌, ◌<◌}
use native.Mathlib.Omega.{arith}
use native.Mathlib.Numerals.{add-one}
use lib.ListN.{length, take, drop, length-drop, take-append-drop}
use lib.Seq.{length-take-le, take_at, drop_at}
use borrow.Rule.Slice.PartMut.{mid_of, put_mid, same_len_mid}
use Rattle.laws.specs.Tab.{total, Below}
use Rattle.laws.proofs.Tab.{total-none, total-next, total-up, below-append, below-take, below-drop}
use Rattle.code_word_laws.specs.Word.{distance, IsDistance}
use Rattle.slot_laws.specs.Sizes.{InRange, words, word_length, data_length}
use Rattle.slot_laws.specs.Words.{piece, data_word}
use Rattle.slot_laws.specs.Order.{Data}
use Rattle.slot_laws.proofs.Sizes.{checks-fit, sizes, data-lengths}
use Rattle.slot_laws.proofs.Words.{piece-front}

-- the data of word i are those from at to e - 1 of all data; n is the word's length
pub record WordPart (size mode i at n e : ℕ) (old : List ℕ) : Type 0 where
  pub range : InRange size mode
  pub inside : i < words size
  pub start : at ≡ total (data_length size mode) i
  pub given : Data size mode old
  pub is : n ≡ word_length size i
  pub end : e ≡ at + (n - (distance mode - 1))

-- .. as the loops over the words know it
pub word-part : {size mode count i at n d : ℕ} {old : List ℕ} → InRange size mode → count ≡ words size → i < count
    → at ≡ total (data_length size mode) i → Data size mode old → n ≡ word_length size i → IsDistance mode d
    → WordPart size mode i at n (at + (n - (d - 1))) old
word-part range count_is inside start given is distance_is = record {
  range = range;
  inside = omega arith;
  start = start;
  given = given;
  is = is;
  end = omega (arith, distance_is.is);
}

pub start_first : (size mode : ℕ) → 0 ≡ total (data_length size mode) 0
start_first size mode = sym (total-none (data_length size mode))

module _ {size mode i at n e : ℕ} {old : List ℕ} (part : WordPart size mode i at n e old) where
  pub end_is : e ≡ at + data_length size mode i
  end_is = let f = checks-fit size mode i part.range part.inside in omega arith

  pub next_start : e ≡ total (data_length size mode) (i + 1)
  next_start =
      let t = total-next (data_length size mode) i in
      let s = end_is in
      rw add-one (omega arith)

  pub before-end : e ≤ length old
  before-end =
      let u = total-up (data_length size mode) (suc i) (words size) part.inside in
      let n = total-next (data_length size mode) i in
      let t = data-lengths size mode part.range in
      let l = part.given.long in
      let s = end_is in
      omega arith

  -- so that it is far from the largest number
  pub end-few : e ≤ 800
  end-few = omega (arith, before-end, part.given.long, sizes size mode part.range, part.range.size_to)

  pub room-is : length (mid_of at (e - at) old) ≡ data_length size mode i
  room-is =
      let d = length-drop at old in
      let b = before-end in
      let s = end_is in
      length-take-le (e - at) (drop at old) (omega arith) ∙ omega arith

  -- last, as long as the room, in its place
  module _ (last : List ℕ) (last-long : length last ≡ data_length size mode i) (below_last : Below 16 last) where
    pub new-data : Data size mode (put_mid at (e - at) old last)
    new-data = record {
      long = same_len_mid at (e - at) old last (last-long ∙ sym room-is) ∙ part.given.long;
      below =
          below-append 16 (take at old) (last ++ drop (e - at) (drop at old)) (below-take 16 at old (omega arith) part.given.below)
          (below-append 16 last (drop (e - at) (drop at old)) below_last
          (below-drop 16 (e - at) (drop at old) (below-drop 16 at old part.given.below)));
    }

    front_long : length (take at old) ≡ at
    front_long = let b = before-end in length-take-le at old (omega arith)

    pub new_word : data_word size mode (put_mid at (e - at) old last) i ≡ last
    unfolding data_word piece
    new_word =
        ap (λ (n : ℕ). take (data_length size mode i) (drop n (put_mid at (e - at) old last))) (sym part.start)
        ∙ ap (take (data_length size mode i)) (drop_at (take at old) (last ++ drop (e - at) (drop at old)) at front_long)
        ∙ take_at last (drop (e - at) (drop at old)) (data_length size mode i) last-long

    pub same-words-before : (j : ℕ) → j < i → data_word size mode (put_mid at (e - at) old last) j ≡ data_word size mode old j
    unfolding data_word
    same-words-before j l =
        let u = total-up (data_length size mode) (suc j) i l in
        let b : total (data_length size mode) (suc j) ≤ length (take at old) = omega (arith, front_long) in
        piece-front (data_length size mode) (take at old) (last ++ drop (e - at) (drop at old)) j b
        ∙ sym (piece-front (data_length size mode) (take at old) (drop at old) j b)
        ∙ ap (λ (s : List ℕ). piece (data_length size mode) s j) (take-append-drop at old)
