-- A slot unpacked, a byte to two places, and the words as received from these. Assumes nothing.
use mathlib.Core.Path.{◌≡◌, refl, ap, ◌∙◌}
use mathlib.Core.List.{List, ◌++◌}
use Prim.Native.Nat.{ℕ, ◌+◌, ◌*◌, ◌/◌, ◌%◌, ◌≤◌, ◌<◌}
use native.Mathlib.Omega.{arith}
use lib.ListN.{length, get_or, take, set}
use lib.Seq.{take_at}
use Rattle.laws.specs.Tab.{tab, Below}
use Rattle.laws.proofs.Tab.{length-tab, get_or-tab, tab-same, below-tab}
use Rattle.laws.proofs.Fill.{Filled, filled_next, filled-last}
use Rattle.gf16.specs.Field.{sum}
use Rattle.gf16.proofs.Laws.{sum_lt}
use Rattle.slot_laws.specs.Sizes.{InRange, words, word_length}
use Rattle.slot_laws.specs.Semi.{half, semi}
use Rattle.slot_laws.specs.Words.{signature, place_of, received}
use Rattle.slot_laws.specs.Slot.{word_in}
use Rattle.slot_clean.specs.Inner.{SemiOctetsOf, unpacked, word_from}
use Rattle.slot_laws.proofs.Semi.{semi-lt}
use Rattle.slot_laws.proofs.Places.{AllWords}
use Rattle.slot_laws.proofs.Slot.{signature-lt}
use Rattle.slot_interleaving.proofs.PlaceSteps.{place_is}

semi-even : (s : List ℕ) (j : ℕ) → get_or s j 0 % 16 ≡ semi s (2 * j)
unfolding semi half
semi-even s j = let a : 2 * j % 2 ≡ 0 = omega arith in let b : 2 * j / 2 ≡ j = omega arith in rw (a, b)

semi-odd : (s : List ℕ) (j : ℕ) → get_or s j 0 < 256 → get_or s j 0 / 16 ≡ semi s (2 * j + 1)
unfolding semi half
semi-odd s j l = let a : (2 * j + 1) % 2 ≡ 1 = omega arith in let b : (2 * j + 1) / 2 ≡ j = omega arith in rw (a, b) (omega arith)

-- both semi-octets of a byte
pub unpacked-next : (s : List ℕ) (n j : ℕ) (l : List ℕ) → Filled (semi s) n (2 * j) l → 2 * j + 1 < n → get_or s j 0 < 256
    → Filled (semi s) n (2 * (j + 1)) (set (set l (2 * j) (get_or s j 0 % 16)) (2 * j + 1) (get_or s j 0 / 16))
unpacked-next s n j l f h b =
    let low = filled_next (semi s) n (2 * j) l (get_or s j 0 % 16) f (omega arith) (semi-even s j) in
    let e : 2 * (j + 1) ≡ 2 * j + 1 + 1 = omega arith in
    rw e (filled_next (semi s) n (2 * j + 1) (set l (2 * j) (get_or s j 0 % 16)) (get_or s j 0 / 16) low h (semi-odd s j b))

pub unpacked-last : (s : List ℕ) (n k : ℕ) (l : List ℕ) → n ≡ 2 * length s → n ≤ k → Filled (semi s) n k l → l ≡ unpacked s
unfolding unpacked
unpacked-last s n k l e h f = filled-last (semi s) n k l f h ∙ ap (tab (semi s)) e

length-unpacked : (s : List ℕ) → length (unpacked s) ≡ 2 * length s
unfolding unpacked
length-unpacked s = length-tab (semi s) (2 * length s)

below-unpacked : (s : List ℕ) → Below 16 (unpacked s)
unfolding unpacked
below-unpacked s = below-tab 16 (semi s) (2 * length s) (omega arith) (λ i l. semi-lt s i)

unpacked-long : (size : ℕ) (slot places : List ℕ) → length slot ≡ size → places ≡ unpacked slot → length places ≡ 2 * size
unpacked-long size slot places long is = ap (λ (l : List ℕ). length l) is ∙ length-unpacked slot ∙ ap (λ (n : ℕ). 2 * n) long

pub unpacked-whole : {mode : ℕ} (size : ℕ) (slot places : List ℕ) → length slot ≡ size → places ≡ unpacked slot → InRange size mode
    → SemiOctetsOf size mode places
unpacked-whole size slot places long is r = record {
  range = r;
  long = unpacked-long size slot places long is;
  below = rw is (below-unpacked slot);
}

-- .. in front of what was lent with them
pub lent_is : (size : ℕ) (slot last rest : List ℕ) → length slot ≡ size → last ≡ unpacked slot
    → take (2 * size) (last ++ rest) ≡ unpacked slot
lent_is size slot last rest long is = take_at last rest (2 * size) (unpacked-long size slot last long is) ∙ is

-- the words of a slot, from its semi-octets
pub word-from : (size mode : ℕ) (slot places : List ℕ) (i : ℕ) → 40 ≤ size → length slot ≡ size → places ≡ unpacked slot
    → word_from size mode places i ≡ word_in size mode slot i
unfolding unpacked word_from word_in received
word-from size mode slot places i h e p =
    tab-same (λ k. sum (get_or places (place_of size i k) 0) (signature mode i k))
    (λ k. sum (semi slot (place_of size i k)) (signature mode i k))
    (word_length size i)
    (λ k m.
    let q = place_is size (words size) i k refl in
    ap (λ (x : ℕ). sum x (signature mode i k))
    (ap (λ (x : List ℕ). get_or x (place_of size i k) 0) p ∙ get_or-tab (semi slot) (2 * length slot) (place_of size i k) (omega arith)))

pub length_from : (size mode : ℕ) (places : List ℕ) (i : ℕ) → length (word_from size mode places i) ≡ word_length size i
unfolding word_from
length_from size mode places i = length-tab (λ k. sum (get_or places (place_of size i k) 0) (signature mode i k)) (word_length size i)

-- words taken from semi-octets fit
pub words-from : (size mode : ℕ) (places : List ℕ) → Below 16 places → AllWords size (word_from size mode places)
unfolding word_from
words-from size mode places b = record {
  long = λ i l. length_from size mode places i;
  below = λ i l.
      below-tab 16 (λ k. sum (get_or places (place_of size i k) 0) (signature mode i k)) (word_length size i) (omega arith)
      (λ k m. sum_lt _ _ (b (place_of size i k)) (signature-lt mode i k));
}
