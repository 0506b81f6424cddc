-- The interleaving and the mode signature undone give the words back, and the words give the slot back. The changed places of a slot are
-- those of its words. The signature is any g with semi-octets for values. Assumes nothing.
use mathlib.Core.Path.{◌≡◌, refl, sym, ap, ap₂, ◌∙◌}
use mathlib.Core.Bool.{Bool, true, false, cond}
use mathlib.Core.List.{List}
use Prim.Native.Nat.{ℕ, zero, suc, ◌+◌, ◌*◌, ◌-◌, ◌%◌, ◌≤◌, ◌<◌}
use native.Mathlib.Omega.{arith}
use native.Mathlib.Nat.{mul_comm, div-add-mod, mod-lt}
use lib.Arith.{digits_div, digits_mod}
use lib.Dec.{eqb}
use lib.ListN.{length, get_or}
use borrow.Author.Tests.{eqb-true, eqb-false, eq-eqb, ne_eqb}
use Rattle.laws.specs.Tab.{tab, total, Below}
use Rattle.laws.proofs.Tab.{length-tab, get_or-tab, tab-is, below-tab, total-same, total-front, total-turned, total-none, total-times}
use Rattle.laws.proofs.Spread.{part, spread, spread-one}
use Rattle.gf16.specs.Field.{sum}
use Rattle.gf16.proofs.Laws.{sum-assoc, sum_comm, sum-undone, sum_lt, cancel}
use Rattle.code_word_laws.specs.Word.{unequal, semi_octet_changed, ones, bits_changed, changes_by, apart}
use Rattle.code_word_laws.proofs.Changes.{bits-between}
use Rattle.slot_laws.specs.Sizes.{words, word_length}
use Rattle.slot_laws.specs.Semi.{Bytes, semi}
use Rattle.slot_laws.specs.Words.{place_of, word_of, number_in, slot_from, received}
use Rattle.slot_laws.specs.Changes.{changed, slot_changes, changes, bit_changes, changes_in}
use Rattle.slot_laws.proofs.Sizes.{words-low, length-share, place_in, in_place}
use Rattle.slot_laws.proofs.Semi.{semi-lt, semi-pack, pack-same, pack-semi, bytes-pack}

-- words that fit a slot: each of its length, and of semi-octets
pub record AllWords (size : ℕ) (w : ℕ → List ℕ) : Type 0 where
  pub long : (i : ℕ) → i < words size → length (w i) ≡ word_length size i
  pub below : (i : ℕ) → i < words size → Below 16 (w i)

-- ---- places

pub word_lt : (size p : ℕ) → 40 ≤ size → word_of size p < words size
unfolding word_of
word_lt size p h = let w : 0 < words size = omega (arith, words-low size h) in mod-lt (2 * size - 1 - p) w

pub number_lt : (size p : ℕ) → 40 ≤ size → p < 2 * size → number_in size p < word_length size (word_of size p)
unfolding word_of number_in
number_lt size p h l =
    in_place size (word_of size p) (number_in size p) h (word_lt size p h) (omega (arith, div-add-mod (2 * size - 1 - p) (words size)))

pub place-lt : (size i k : ℕ) → 40 ≤ size → i < words size → k < word_length size i → place_of size i k < 2 * size
unfolding place_of
place-lt size i k h l m = omega arith

-- A.51 and the word and number of a place are inverse to each other
pub place-word : (size i k : ℕ) → 40 ≤ size → i < words size → k < word_length size i → word_of size (place_of size i k) ≡ i
unfolding word_of place_of
place-word size i k h l m =
    let q = place_in size i k h l m in
    let c = mul_comm (words size) k in
    let e : 2 * size - 1 - (2 * size - words size * k - i - 1) ≡ k * words size + i = omega arith in
    rw e (digits_mod k l)

pub place-number : (size i k : ℕ) → 40 ≤ size → i < words size → k < word_length size i → number_in size (place_of size i k) ≡ k
unfolding number_in place_of
place-number size i k h l m =
    let q = place_in size i k h l m in
    let c = mul_comm (words size) k in
    let e : 2 * size - 1 - (2 * size - words size * k - i - 1) ≡ k * words size + i = omega arith in
    rw e (digits_div k l)

pub place-back : (size p : ℕ) → p < 2 * size → place_of size (word_of size p) (number_in size p) ≡ p
unfolding word_of number_in place_of
place-back size p l = omega (arith, div-add-mod (2 * size - 1 - p) (words size))

-- ---- words to a slot and back

module _ (size : ℕ) (g : ℕ → ℕ → ℕ) (from : 40 ≤ size) (small : (i k : ℕ) → g i k < 16) where
  pub slot_lt : (w : ℕ → List ℕ) → AllWords size w → (p : ℕ) → p < 2 * size
      → sum (get_or (w (word_of size p)) (number_in size p) 0) (g (word_of size p) (number_in size p)) < 16
  slot_lt w a p l =
      sum_lt _ _ (a.below (word_of size p) (word_lt size p from) (number_in size p)) (small (word_of size p) (number_in size p))

  pub bytes-slot : (w : ℕ → List ℕ) → AllWords size w → Bytes size (slot_from size g w)
  unfolding slot_from
  bytes-slot w a = bytes-pack _ size (slot_lt w a)

  -- the words of a slot are those it was made of
  pub received-slot : (w : ℕ → List ℕ) (i : ℕ) → AllWords size w → i < words size → received size g (slot_from size g w) i ≡ w i
  unfolding received slot_from
  received-slot w i a l =
      tab-is _ (word_length size i) (w i) (a.long i l)
      (λ k m.
      ap (λ (x : ℕ). sum x (g i k))
      (semi-pack (λ p. sum (get_or (w (word_of size p)) (number_in size p) 0) (g (word_of size p) (number_in size p))) size
      (place_of size i k)
      (slot_lt w a) (place-lt size i k from l m)
      ∙ ap₂ (λ (x y : ℕ). sum (get_or (w x) y 0) (g x y)) (place-word size i k from l m) (place-number size i k from l m))
      ∙ sum-undone (get_or (w i) k 0) (g i k))

  -- a slot is made of its words
  pub slot-received : (slot : List ℕ) → Bytes size slot → slot_from size g (received size g slot) ≡ slot
  unfolding received slot_from
  slot-received slot b =
      pack-same _ (semi slot) size
      (λ p l.
      let i = word_of size p in
      let k = number_in size p in
      ap (λ (x : ℕ). sum x (g i k))
      (get_or-tab (λ k. sum (semi slot (place_of size i k)) (g i k)) (word_length size i) k (number_lt size p from l))
      ∙ sum-undone (semi slot (place_of size i k)) (g i k)
      ∙ ap (semi slot) (place-back size p l))
      ∙ pack-semi slot size b

  pub words-received : (slot : List ℕ) → AllWords size (received size g slot)
  unfolding received
  words-received slot = record {
    long = λ i l. length-tab _ (word_length size i);
    below = λ i l. below-tab 16 _ (word_length size i) (omega arith) (λ k m. sum_lt _ _ (semi-lt slot (place_of size i k)) (small i k));
  }

-- the slots of the same words are the same
pub slot_same : (size : ℕ) (g : ℕ → ℕ → ℕ) (v w : ℕ → List ℕ) → 40 ≤ size → ((i : ℕ) → i < words size → v i ≡ w i)
    → slot_from size g v ≡ slot_from size g w
unfolding slot_from
slot_same size g v w h e =
    pack-same _ _ size
    (λ p l. ap (λ (x : List ℕ). sum (get_or x (number_in size p) 0) (g (word_of size p) (number_in size p)))
    (e (word_of size p) (word_lt size p h)))

-- ---- changed places

-- f counts no change in what is added to both
abbrev pub Shifted : (ℕ → ℕ → ℕ) → Type 0
Shifted f = (a b c : ℕ) → f (sum a c) (sum b c) ≡ f a b

-- the signature hides no change and makes none
shift-eqb : (a b c : ℕ) → eqb (sum a c) (sum b c) ≡ eqb a b
shift-eqb a b c = go (eqb a b) refl
  where
    go : (t : Bool) → eqb a b ≡ t → eqb (sum a c) (sum b c) ≡ t
    go true e = eq-eqb (sum a c) (sum b c) (ap (λ (x : ℕ). sum x c) (eqb-true a b e))
    go false e =
        ne_eqb (sum a c) (sum b c)
        (λ x. eqb-false a b e (sym (sum-undone a c) ∙ ap (λ (y : ℕ). sum y c) x ∙ sum-undone b c))

pub semi-octets-shifted : Shifted semi_octet_changed
semi-octets-shifted a b c = ap unequal (shift-eqb a b c)

pub bits-shifted : Shifted bits_changed
bits-shifted a b c =
    ap ones (ap (λ (x : ℕ). sum (sum a c) x) (sum_comm b c) ∙ sum-assoc a c (sum c b) ∙ ap (λ (x : ℕ). sum a x) (cancel c b))

changes-tab : (m : ℕ → ℕ → ℕ) (f g : ℕ → ℕ) (n : ℕ) → changes_by m (tab f n) (tab g n) ≡ total (λ k. m (f k) (g k)) n
unfolding tab
changes-tab m f g zero = sym (total-none (λ k. m (f k) (g k)))
changes-tab m f g (suc n) =
    ap (λ (x : ℕ). m (f 0) (g 0) + x) (changes-tab m (λ k. f (suc k)) (λ k. g (suc k)) n) ∙ sym (total-front (λ k. m (f k) (g k)) n)

-- what a word holds of the places from the last down
part-word : (size : ℕ) (f : ℕ → ℕ) (i : ℕ) → 40 ≤ size → i < words size
    → part (λ j. f (2 * size - 1 - j)) (words size) (2 * size) i ≡ total (λ k. f (place_of size i k)) (word_length size i)
unfolding part place_of
part-word size f i h l =
    ap (total (λ k. f (2 * size - 1 - (words size * k + i)))) (sym (length-share size i h l))
    ∙ total-same _ _ (word_length size i)
    (λ k m. let e : 2 * size - 1 - (words size * k + i) ≡ 2 * size - words size * k - i - 1 = omega arith in ap f e)

module _ (m : ℕ → ℕ → ℕ) (shifted : Shifted m) (size : ℕ) (g : ℕ → ℕ → ℕ) (s r : List ℕ) where
  -- the changes of a word are those at its places
  changes-received : (i : ℕ)
      → changes_by m (received size g s i) (received size g r i) ≡ total (λ k. changed m s r (place_of size i k)) (word_length size i)
  unfolding received changed
  changes-received i =
      changes-tab m (λ k. sum (semi s (place_of size i k)) (g i k)) (λ k. sum (semi r (place_of size i k)) (g i k)) (word_length size i)
      ∙ total-same _ _ (word_length size i) (λ k l. shifted (semi s (place_of size i k)) (semi r (place_of size i k)) (g i k))

  -- the changes of a slot are those of its words
  pub changes-words : 40 ≤ size
      → slot_changes m size s r ≡ total (λ i. changes_by m (received size g s i) (received size g r i)) (words size)
  unfolding slot_changes
  changes-words h =
      total-turned (changed m s r) (2 * size)
      ∙ spread (λ j. changed m s r (2 * size - 1 - j)) (words size) (2 * size) (omega (arith, words-low size h))
      ∙ total-same _ _ (words size) (λ i l. part-word size (changed m s r) i h l ∙ sym (changes-received i))

-- .. and the changed places that belong to a word are those of that word
pub changes-word : (size : ℕ) (g : ℕ → ℕ → ℕ) (s r : List ℕ) (i : ℕ) → 40 ≤ size → i < words size
    → changes_in size s r i ≡ apart (received size g s i) (received size g r i)
unfolding changes_in word_of
changes-word size g s r i h l =
    total-turned (λ p. cond (eqb (word_of size p) i) (changed semi_octet_changed s r p) 0) (2 * size)
    ∙ total-same _ (λ j. cond (eqb (j % words size) i) (changed semi_octet_changed s r (2 * size - 1 - j)) 0) (2 * size)
    (λ j m.
    let e : 2 * size - 1 - (2 * size - 1 - j) ≡ j = omega arith in
    ap (λ (x : ℕ). cond (eqb (x % words size) i) (changed semi_octet_changed s r (2 * size - 1 - j)) 0) e)
    ∙ spread-one (λ j. changed semi_octet_changed s r (2 * size - 1 - j)) (words size) (2 * size) i l
    ∙ part-word size (changed semi_octet_changed s r) i h l
    ∙ sym (changes-received semi_octet_changed semi-octets-shifted size g s r i)

-- a slot's changed bits are no fewer than its changed semi-octets, and at most four times them
pub bit-changes-between : (size : ℕ) (s r : List ℕ)
    → (changes size s r ≤ bit_changes size s r) × (bit_changes size s r ≤ 4 * changes size s r)
unfolding slot_changes changed
bit-changes-between size s r =
    let l = total-times (changed semi_octet_changed s r) (changed bits_changed s r) 1 (2 * size) (λ p h. omega (arith, (between p).0)) in
    let m = total-times (changed bits_changed s r) (changed semi_octet_changed s r) 4 (2 * size) (λ p h. (between p).1) in
    (omega arith, omega arith)
  where
    between : (p : ℕ) → (semi_octet_changed (semi s p) (semi r p) ≤ bits_changed (semi s p) (semi r p))
        × (bits_changed (semi s p) (semi r p) ≤ 4 * semi_octet_changed (semi s p) (semi r p))
    between p = bits-between (semi s p) (semi r p) (semi-lt s p) (semi-lt r p)
