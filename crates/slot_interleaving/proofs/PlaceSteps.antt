-- What the code of the interleaving asks: turns of the loops that scatter and pack, and a word with its checks made.
-- Assumes nothing.
use mathlib.Core.Path.{◌≡◌, refl, sym, ap, ap₂, ◌∙◌}
use mathlib.Core.Bool.{Bool, true, false}
use mathlib.Core.List.{List, [], ◌∷◌, ◌++◌}
use Prim.Native.Nat.{ℕ, zero, suc, ◌+◌, ◌*◌, ◌-◌, ◌≤◌, ◌<◌}
use native.Mathlib.Omega.{arith}
use lib.Bits.{bit_xor}
use lib.Dec.{eqb, ltb}
use lib.ListN.{length, get_or, take, drop, set, length-set, length-append, replicate, get_or-append}
use lib.Seq.{get_or-set_same, get_or-set_other, get_or-append-add}
use borrow.Author.Tests.{eqb-true, eqb-false, ltb-true, ltb-false, lt-ltb, le-ltb}
use Rattle.laws.specs.Tab.{Below}
use Rattle.laws.proofs.Fill.{Filled, filled-last}
use Rattle.gf16.specs.Field.{sum}
use Rattle.code_word_laws.specs.Word.{distance, IsDistance}
use Rattle.code_word_laws.specs.Make.{coded}
use Rattle.code_word_laws.specs.Register.{with_checks}
use Rattle.code_word_laws.specs.Checks.{check_rows, summed}
use Rattle.code_word_laws.proofs.Checks.{summed-coded, with-checks-append, digits-length}
use Rattle.slot_laws.specs.Sizes.{InRange, words, word_length, data_length}
use Rattle.slot_laws.specs.Semi.{pack}
use Rattle.slot_laws.specs.Words.{piece, data_word, signature_row, signature, place_of, word_of, number_in, slot_from}
use Rattle.slot_laws.specs.Order.{Data}
use Rattle.slot_laws.specs.Slot.{code_word, slot_with}
use Rattle.slot_interleaving.specs.Inner.{
  HasPlace,
  AtWord,
  WithRows,
  Spanned,
  DataSpanned,
  ChecksSpanned,
  Scattered,
  WordScattered,
  Placed,
}
use Rattle.slot_laws.proofs.Sizes.{place_in, length_high, checks-fit}
use Rattle.slot_laws.proofs.Semi.{pack-same, semi-octets-of}
use Rattle.slot_laws.proofs.Places.{AllWords, place-lt, place-word, place-number, place-back, word_lt, number_lt, slot_lt}
use Rattle.slot_laws.proofs.Slot.{all_words, length-word}
use Rattle.slot_laws.proofs.RoomSteps.{WordPart, end_is}

-- ---- the signature

pub zeros-at : (n k : ℕ) → ◌≡◌ {A = ℕ} (get_or (replicate n 0) k 0) 0
zeros-at zero k = refl
zeros-at (suc n) zero = refl
zeros-at (suc n) (suc k) = zeros-at n k

pub signature-none : (mode i k : ℕ) → 6 ≤ i → ◌≡◌ {A = ℕ} (get_or (replicate 15 0) k 0) (signature mode i k)
unfolding signature
signature-none mode i k h = rw (le-ltb i 6 h) (zeros-at 15 k)

pub signature-some : (mode i : ℕ) (l : List ℕ) → i < 6 → l ≡ signature_row mode → (k : ℕ) → get_or l k 0 ≡ signature mode i k
unfolding signature
signature-some mode i l h e k = rw (lt-ltb i 6 h) (ap (λ (x : List ℕ). get_or x k 0) e)

pub row-two : (mode : ℕ) → mode ≡ 2 → 7 ∷ 15 ∷ 5 ∷ 6 ∷ 14 ∷ 9 ∷ 1 ∷ 3 ∷ 12 ∷ 10 ∷ 13 ∷ 3 ∷ 2 ∷ 0 ∷ 0 ∷ [] ≡ signature_row mode
unfolding signature_row
row-two mode e = rw e

pub row-three : (mode : ℕ) → mode ≡ 3 → 7 ∷ 11 ∷ 14 ∷ 1 ∷ 2 ∷ 3 ∷ 12 ∷ 11 ∷ 6 ∷ 15 ∷ 7 ∷ 6 ∷ 12 ∷ 0 ∷ 0 ∷ [] ≡ signature_row mode
unfolding signature_row
row-three mode e = rw e

pub row-four : (mode : ℕ) → mode ≡ 4 → 6 ∷ 15 ∷ 12 ∷ 2 ∷ 9 ∷ 15 ∷ 2 ∷ 8 ∷ 12 ∷ 3 ∷ 10 ∷ 5 ∷ 4 ∷ 0 ∷ 0 ∷ [] ≡ signature_row mode
unfolding signature_row
row-four mode e = rw e

pub added-row : (x y z : ℕ) → y ≡ z → bit_xor x y ≡ sum x z
unfolding sum
added-row x y z e = ap (bit_xor x) e

-- ---- a word scattered

pub place_is : (size count i k : ℕ) → count ≡ words size → 2 * size - count * k - i - 1 ≡ place_of size i k
unfolding place_of
place_is size count i k e = ap (λ (x : ℕ). 2 * size - x * k - i - 1) e

-- the place of semi-octet k is one
pub place-below : (size count i k : ℕ) → 40 ≤ size → count ≡ words size → i < words size → k < word_length size i → count * k + i < 2 * size
place-below size count i k h e l p = rw e (place_in size i k h l p)

-- what the functions that go over a word ask of one another
module _ {size mode i n : ℕ} {row places : List ℕ} (word : AtWord size mode i n row places) where
  pub check-in : {k : ℕ} → k < distance mode - 1 → k < word_length size i
  check-in l = let f = checks-fit size mode i word.range word.word_below in omega arith

  pub data-in : {d k : ℕ} → IsDistance mode d → k < data_length size mode i → d - 1 + k < word_length size i
  data-in d l = let f = checks-fit size mode i word.range word.word_below in omega (arith, d.is)

  pub has-place : {count k : ℕ} → count ≡ words size → k < word_length size i → HasPlace size count i k
  has-place e l = record {
    size_from = word.range.size_from;
    size_to = word.range.size_to;
    count_is = e;
    word_below = word.word_below;
    in_word = l;
  }

  pub in_row : {k : ℕ} → k < word_length size i → k < length row
  in_row l = let h = length_high size i word.range.size_from in omega (arith, word.row_long)

pub span_none : {size : ℕ} {g : ℕ → ℕ → ℕ} {i : ℕ} {f : ℕ → ℕ} {lo hi : ℕ} {old : List ℕ} → hi ≤ lo → Spanned size g i f lo hi old old
span_none h = record { long = refl; mine = λ k a b. absurd (omega arith); rest = λ k a n. refl; others = λ p h n. refl }

-- semi-octet m beside those that stand: every other one of the wider span was in the narrower
module _ {size mode i lo hi lo' hi' m v p : ℕ} {f : ℕ → ℕ} {row old new : List ℕ} (word : AtWord size mode i 800 row old)
    (s : Spanned size (signature mode) i f lo hi old new) (in_word : m < word_length size i) (is-place : p ≡ place_of size i m)
    (is-value : v ≡ sum (f m) (signature mode i m)) (with-m : (lo' ≤ m) × (m < hi'))
    (were : (k : ℕ) → lo' ≤ k → k < hi' → (k ≡ m → ⊥) → (lo ≤ k) × (k < hi)) (wider : (lo' ≤ lo) × (hi ≤ hi')) where
  abbrev at : ℕ
  at = place_of size i m

  from : 40 ≤ size
  from = word.range.size_from

  inside : i < words size
  inside = word.word_below

  at_in : at < length new
  at_in = let b = place-lt size i m from inside in_word in omega (arith, s.long, word.range.size_to, word.places_long)

  elsewhere : (k : ℕ) → k < word_length size i → (k ≡ m → ⊥)
      → get_or (set new at v) (place_of size i k) 0 ≡ get_or new (place_of size i k) 0
  elsewhere k a d =
      get_or-set_other new at (place_of size i k) v 0
      (λ x. d (sym (place-number size i k from inside a) ∙ ap (number_in size) x ∙ place-number size i m from inside in_word))

  set-mine : hi' ≤ word_length size i → (k : ℕ) → lo' ≤ k → k < hi' → (b : Bool) → eqb k m ≡ b
      → get_or (set new at v) (place_of size i k) 0 ≡ sum (f k) (signature mode i k)
  set-mine h k a c true t = rw (eqb-true k m t) (get_or-set_same new at v 0 at_in ∙ is-value)
  set-mine h k a c false t =
      let d : (k ≡ m → ⊥) = eqb-false k m t in
      let w = were k a c d in
      elsewhere k (omega arith) d ∙ s.mine k w.0 w.1

  span_set : hi' ≤ word_length size i → Spanned size (signature mode) i f lo' hi' old (set new p v)
  span_set h =
      rw is-place
      (record {
        long = length-set new at v ∙ s.long;
        mine = λ k a c. set-mine h k a c (eqb k m) refl;
        rest = λ k a n.
            elsewhere k a (λ e. n (omega (arith, with-m.0)) (omega (arith, with-m.1)))
            ∙ s.rest k a (λ x y. n (omega (arith, wider.0)) (omega (arith, wider.1)));
        others = λ r q d.
            get_or-set_other new at r v 0 (λ x. d (ap (word_of size) x ∙ place-word size i m from inside in_word))
            ∙ s.others r q d;
      })

-- .. as the code puts it: x is the semi-octet, and the signature's row is added
module _ {size mode i lo hi m x p : ℕ} {f : ℕ → ℕ} {row old new : List ℕ} (word : AtWord size mode i 800 row old)
    (s : Spanned size (signature mode) i f lo hi old new) (is-place : p ≡ place_of size i m) (is-value : x ≡ f m) where
  put_is : bit_xor x (get_or row m 0) ≡ sum (f m) (signature mode i m)
  put_is = added-row x (get_or row m 0) (signature mode i m) (word.row_is m) ∙ ap (λ (y : ℕ). sum y (signature mode i m)) is-value

  pub span-up : {hi' : ℕ} → hi' ≡ hi + 1 → m ≡ hi → lo ≤ hi → hi < word_length size i
      → Spanned size (signature mode) i f lo hi' old (set new p (bit_xor x (get_or row m 0)))
  span-up u e a h =
      span_set word s (omega arith) is-place put_is
      (omega arith, omega arith) (λ k b c d. (omega arith, omega arith)) (omega arith, omega arith) (omega arith)

  pub span-down : m + 1 ≡ lo → lo ≤ hi → hi ≤ word_length size i
      → Spanned size (signature mode) i f m hi old (set new p (bit_xor x (get_or row m 0)))
  span-down e a h =
      span_set word s (omega arith) is-place put_is
      (omega arith, omega arith) (λ k b c d. (omega arith, omega arith)) (omega arith, omega arith) h

-- data and check semi-octets together are the word
pub span-both : (size : ℕ) (g : ℕ → ℕ → ℕ) (i n : ℕ) (checks message w old mid new : List ℕ) → w ≡ checks ++ message → length checks ≡ n
    → length w ≡ word_length size i → Spanned size g i (λ k. get_or message (k - n) 0) n (word_length size i) old mid
    → Spanned size g i (λ k. get_or checks k 0) 0 n mid new → Scattered size g i w old new
span-both size g i n checks message w old mid new e c l a b = record {
  long = b.long ∙ a.long;
  mine = λ k h. at k h (ltb k n) refl;
  others = λ p h d. b.others p h d ∙ a.others p h d;
}
  where
    at : (k : ℕ) → k < length w → (t : Bool) → ltb k n ≡ t → get_or new (place_of size i k) 0 ≡ sum (get_or w k 0) (g i k)
    at k h true t =
        let q : k < n = ltb-true k n t in
        b.mine k (omega arith) q ∙ ap (λ (x : ℕ). sum x (g i k))
        (sym (ap (λ (x : List ℕ). get_or x k 0) e ∙ get_or-append checks message 0 k (omega arith)))
    at k h false t =
        let q : n ≤ k = ltb-false k n t in
        let s : k ≡ length checks + (k - n) = omega arith in
        b.rest k (omega arith) (λ x y. omega arith) ∙ a.mine k q (omega arith)
        ∙ ap (λ (x : ℕ). sum x (g i k)) (sym (ap₂ (λ (x : List ℕ) (y : ℕ). get_or x y 0) e s ∙ get_or-append-add checks message (k - n) 0))

-- ---- words placed

pub placed_first : {size : ℕ} {g : ℕ → ℕ → ℕ} {w : ℕ → List ℕ} {places : List ℕ} → length places ≡ 800 → Placed size g w 0 places
placed_first e = record { long = e; stands = λ p h l. absurd (omega arith) }

module _ {size n : ℕ} {g : ℕ → ℕ → ℕ} {w : ℕ → List ℕ} {old : List ℕ} (from : 40 ≤ size) (all : AllWords size w) (h : Placed size g w n old)
  where
    step-stands : (new : List ℕ) → n < words size → Scattered size g n (w n) old new
        → (p : ℕ) → p < 2 * size → word_of size p < n + 1 → (b : Bool) → eqb (word_of size p) n ≡ b
        → get_or new p 0 ≡ sum (get_or (w (word_of size p)) (number_in size p) 0) (g (word_of size p) (number_in size p))
    step-stands new l s p q m true t =
        let e : word_of size p ≡ n = eqb-true (word_of size p) n t in
        let k : number_in size p < length (w n) = rw (all.long n l) (rw e at (number_lt size p from q)) in
        let b : place_of size n (number_in size p) ≡ p = rw e at (place-back size p q) in
        rw e (ap (λ (x : ℕ). get_or new x 0) (sym b) ∙ s.mine (number_in size p) k)
    step-stands new l s p q m false t =
        let d : (word_of size p ≡ n → ⊥) = eqb-false (word_of size p) n t in
        s.others p q d ∙ h.stands p q (omega arith)

    pub placed-next : {new : List ℕ} → n < words size → Scattered size g n (w n) old new → Placed size g w (n + 1) new
    placed-next {new} l s = record {
      long = s.long ∙ h.long;
      stands = λ p q m. step-stands new l s p q m (eqb (word_of size p) n) refl;
    }

    pub placed_below : ((i k : ℕ) → g i k < 16) → words size ≤ n → (p : ℕ) → p < 2 * size → get_or old p 0 < 16
    placed_below small l p q = rw (h.stands p q (omega (arith, word_lt size p from))) (slot_lt size g from small w all p q)

    placed-last : (slot : List ℕ) → words size ≤ n → slot ≡ pack (λ p. get_or old p 0) size → slot ≡ slot_from size g w
    unfolding slot_from
    placed-last slot l e =
        e ∙ pack-same (λ p. get_or old p 0) _ size (λ p q. h.stands p q (omega (arith, word_lt size p from)))

-- ---- two places to a byte

pub pack-is : (f : ℕ → ℕ) (n k : ℕ) (slot : List ℕ) → n ≤ k → Filled (λ j. f (2 * j) + 16 * f (2 * j + 1)) n k slot → slot ≡ pack f n
unfolding pack
pack-is f n k slot h s = filled-last (λ j. f (2 * j) + 16 * f (2 * j + 1)) n k slot s h

-- ---- a word with its checks

module _ (mode : ℕ) (message : List ℕ) (from : 2 ≤ mode) (to : mode ≤ 4) (short : distance mode - 1 + length message ≤ 15)
    (small : Below 16 message) where
  -- the check semi-octets summed up over the data, in front of them, are the code word
  pub summed-word : (rows : List ℕ) (r : ℕ) → rows ≡ check_rows (distance mode - 1)
      → r ≡ summed rows (λ k. get_or message k 0) (length message)
      → coded (distance mode) message ≡ with_checks (distance mode - 1) r [] ++ message
  summed-word rows r e d =
      sym (summed-coded (distance mode) message (omega arith) (omega arith) (semi-octets-of message small))
      ∙ ap (λ (x : ℕ). with_checks (distance mode - 1) x message)
      (sym (d ∙ ap (λ (x : List ℕ). summed x (λ k. get_or message k 0) (length message)) e))
      ∙ with-checks-append (distance mode - 1) r [] message

pub word-scattered : (size mode i r : ℕ) (rows message old mid new : List ℕ) → WithRows size mode i 800 message rows old → Below 16 message
    → r ≡ summed rows (λ k. get_or message k 0) (length message) → DataSpanned size mode i message (data_length size mode i) old mid
    → ChecksSpanned size mode i r 0 mid new → WordScattered size mode i message old new
word-scattered size mode i r rows message old mid new given small d a b =
    let range = given.range in
    let n : ℕ = distance mode - 1 in
    let f = checks-fit size mode i range given.word_below in
    let h = length_high size i range.size_from in
    let l = digits-length n r in
    let w = summed-word mode message range.mode_from range.mode_to (omega arith) small rows r given.rows_are d in
    span-both size (signature mode) i n (with_checks n r []) message (coded (distance mode) message) old mid new w l
    (ap (λ (x : List ℕ). length x) w ∙ length-append (with_checks n r []) message ∙ omega arith)
    (rw f at a) b

-- ---- the loop over the words

-- the part of the data that is lent for word i
module _ {size mode i at n e : ℕ} {message : List ℕ} (part : WordPart size mode i at n e message) where
  part-is : take (e - at) (drop at message) ≡ data_word size mode message i
  unfolding data_word piece
  part-is =
      let d : e - at ≡ data_length size mode i = omega (arith, end_is part) in
      ap₂ (λ (x y : ℕ). take x (drop y message)) d part.start

  pub part-long : length (take (e - at) (drop at message)) ≡ data_length size mode i
  part-long = ap (λ (x : List ℕ). length x) part-is ∙ length-word size mode message part.range part.given i part.inside

  pub part-scattered : (old new : List ℕ) → WordScattered size mode i (take (e - at) (drop at message)) old new
      → Scattered size (signature mode) i (code_word size mode message i) old new
  unfolding code_word
  part-scattered old new s = rw part-is at s

-- all words at their places, packed, are the slot
pub written : {size mode n : ℕ} {message places slot : List ℕ} (lent : List ℕ) → InRange size mode → Data size mode message
    → length lent ≡ size
    → Placed size (signature mode) (code_word size mode message) n places → words size ≤ n
    → slot ≡ pack (λ p. get_or places p 0) (length lent)
    → slot ≡ slot_with size mode message
unfolding slot_with
written {size} {mode} {n} {message} {places} {slot} lent r d l p h e =
    placed-last r.size_from (all_words size mode message r d) p slot h (e ∙ ap (pack (λ p. get_or places p 0)) l)
