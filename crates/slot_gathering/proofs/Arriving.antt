-- What the code that takes the words of a received slot from their places asks: one word, and all of them one after the other.
-- Assumes nothing.
use mathlib.Core.Path.{◌≡◌, refl, sym, ap, ap₂, ◌∙◌}
use mathlib.Core.List.{List, ◌++◌, append_assoc}
use Prim.Native.Nat.{ℕ, suc, ◌+◌, ◌*◌, ◌-◌, ◌≤◌, ◌<◌}
use native.Mathlib.Omega.{arith}
use native.Mathlib.Numerals.{add-one}
use lib.ListN.{length, get_or, take, drop, length-append, length-drop}
use lib.Seq.{length-take-le, take_all, take_at}
use borrow.Rule.Slice.PartMut.{mid_of, put_mid, same_len_mid}
use Rattle.laws.specs.Tab.{total, Below}
use Rattle.laws.proofs.Tab.{total-next, total-none, total-up, tab-is}
use Rattle.slot_laws.specs.Sizes.{InRange, words, word_length}
use Rattle.slot_laws.specs.Words.{piece}
use Rattle.slot_clean.specs.Inner.{word_from}
use Rattle.slot_gathering.specs.Inner.{AllArrived}
use Rattle.slot_laws.proofs.Sizes.{lengths}
use Rattle.slot_laws.proofs.Words.{joined, below-joined, piece-joined}
use Rattle.slot_clean.proofs.Unpacking.{length_from, words-from}
use Rattle.laws.proofs.Fill.{Filled, filled-last}

-- ---- a word received

pub arrived-last : (size mode i n k : ℕ) (places w : List ℕ) → n ≡ word_length size i → n ≤ k
    → Filled (λ j. get_or (word_from size mode places i) j 0) n k w → w ≡ word_from size mode places i
arrived-last size mode i n k places w e l f =
    let word = word_from size mode places i in
    filled-last (λ j. get_or word j 0) n k w f l
    ∙ tab-is (λ j. get_or word j 0) n word (length_from size mode places i ∙ sym e) (λ j m. refl)

-- where the next word starts
pub next-from : (size i from n : ℕ) → from ≡ total (word_length size) i → n ≡ word_length size i
    → from + n ≡ total (word_length size) (i + 1)
next-from size i from n e l =
    ap₂ (λ (x y : ℕ). x + y) e l ∙ sym (total-next (word_length size) i) ∙ ap (total (word_length size)) (sym (add-one i))

-- ---- the words as received, one after the other

-- the first i words stand in front
pub record ArrivedTo (size mode : ℕ) (places : List ℕ) (i at : ℕ) (all : List ℕ) : Type 0 where
  pub place : at ≡ total (word_length size) i
  pub long : length all ≡ 2 * size
  pub front : take at all ≡ joined (word_from size mode places) i

pub arrived-none : (size mode : ℕ) (places all : List ℕ) → length all ≡ 2 * size → ArrivedTo size mode places 0 0 all
unfolding joined
arrived-none size mode places all l = record { place = sym (total-none (word_length size)); long = l; front = refl }

two-in-front : (a b : ℕ) (xs ys zs : List ℕ) → length xs ≡ a → length ys ≡ b → take (a + b) (xs ++ (ys ++ zs)) ≡ xs ++ ys
two-in-front a b xs ys zs e f =
    ap (take (a + b)) (sym (append_assoc xs ys zs)) ∙ take_at (xs ++ ys) zs (a + b) (length-append xs ys ∙ ap₂ (λ (x y : ℕ). x + y) e f)

-- word i comes next, to the places from at to e - 1; n is its length
pub record WordRoom (size mode i at n e : ℕ) (places all : List ℕ) : Type 0 where
  pub range : InRange size mode
  pub inside : i < words size
  pub arrived : ArrivedTo size mode places i at all
  pub long : n ≡ word_length size i
  pub end : e ≡ at + n

module _ {size mode i at n e : ℕ} {places all : List ℕ} (room : WordRoom size mode i at n e places all) where
  pub arrives-end : e ≤ 2 * size
  arrives-end =
      let u = total-up (word_length size) (suc i) (words size) room.inside in
      let t = total-next (word_length size) i in
      let s = lengths size room.range.size_from in
      let p = room.arrived.place in
      omega arith

  pub arrives-room : length (mid_of at (e - at) all) ≡ word_length size i
  arrives-room =
      let d = length-drop at all in
      let b = arrives-end in
      let l = room.arrived.long in
      length-take-le (e - at) (drop at all) (omega arith) ∙ omega arith

  pub arrived-one : (last : List ℕ) → last ≡ word_from size mode places i
      → ArrivedTo size mode places (i + 1) e (put_mid at (e - at) all last)
  unfolding joined
  arrived-one last is =
      let k : length last ≡ word_length size i = ap (λ (x : List ℕ). length x) is ∙ length_from size mode places i in
      let b = arrives-end in
      let l = room.arrived.long in
      record {
        place = room.end ∙ next-from size i at n room.arrived.place room.long;
        long = same_len_mid at (e - at) all last (k ∙ sym arrives-room) ∙ l;
        front =
            ap (λ (x : ℕ). take x (put_mid at (e - at) all last)) room.end
            ∙ two-in-front at n (take at all) last (drop (e - at) (drop at all)) (length-take-le at all (omega arith))
            (k ∙ sym room.long)
            ∙ ap₂ (λ (x y : List ℕ). x ++ y) room.arrived.front is
            ∙ ap (joined (word_from size mode places)) (sym (add-one i));
      }

pub arrived-all : (size mode i at : ℕ) (places all : List ℕ) → InRange size mode → Below 16 places → i ≡ words size
    → ArrivedTo size mode places i at all
    → AllArrived size mode places all
arrived-all size mode i at places all r b e k =
    let w = words-from size mode places b in
    let t : at ≡ 2 * size = k.place ∙ ap (total (word_length size)) e ∙ lengths size r.size_from in
    let l = k.long in
    let g : all ≡ joined (word_from size mode places) (words size) =
    sym (take_all at all (omega arith)) ∙ k.front ∙ ap (joined (word_from size mode places)) e in
    record {
      long = k.long;
      below = rw g (below-joined 16 (word_from size mode places) (words size) (omega arith) (λ i l. w.below i l));
      each = λ i l.
          ap (λ (x : List ℕ). piece (word_length size) x i) g
          ∙ piece-joined (word_from size mode places) (word_length size) (words size) i l (λ j m. w.long j m);
    }
