-- What the code that tells a clean slot asks: the data of a word and its check semi-octets taken from their places, the check semi-octets
-- made anew and compared, and the loop over the words. Assumes nothing.
use mathlib.Core.Path.{◌≡◌, refl, sym, ap, ◌∙◌}
use mathlib.Core.Bool.{Bool, true, false}
use mathlib.Core.List.{List, [], ◌∷◌, ◌++◌}
use Prim.Native.Nat.{ℕ, zero, suc, ◌+◌, ◌*◌, ◌-◌, ◌/◌, ◌%◌, ◌≤◌, ◌<◌}
use native.Mathlib.Omega.{arith}
use lib.Bits.{bit_xor, bit_or, or_add_and, and_le_l, and_le_r}
use lib.Dec.{eqb}
use lib.ListN.{length, get_or, drop, length-drop, take-append-drop}
use lib.Seq.{length-take-le, get_or-take, get_or-drop, drop-cons}
use borrow.Author.Tests.{eqb-true, eqb-false}
use borrow.Rule.Slice.PartMut.{put_mid}
use Rattle.laws.specs.Tab.{Below}
use Rattle.laws.proofs.Tab.{get_or-tab, tab-is, below-drop}
use Rattle.laws.proofs.Fill.{Filled, filled-last}
use Rattle.gf16.specs.Field.{sum}
use Rattle.gf16.proofs.Laws.{sum_same}
use Rattle.code_word_laws.specs.Word.{distance, IsDistance}
use Rattle.code_word_laws.specs.Make.{coded}
use Rattle.code_word_laws.specs.Register.{with_checks}
use Rattle.code_word_laws.specs.Checks.{summed}
use Rattle.slot_laws.specs.Sizes.{InRange, words, word_length, data_length}
use Rattle.slot_laws.specs.Words.{data_word, signature, place_of}
use Rattle.slot_laws.specs.Order.{Data}
use Rattle.slot_laws.specs.Slot.{code_word}
use Rattle.slot_clean.specs.Inner.{word_from, checks_from, data_from, ChecksSummed, ChecksAre, CleanOver, AllClean}
use Rattle.slot_interleaving.specs.Inner.{AtWord, WithRows}
use Rattle.slot_laws.proofs.Sizes.{length_high, checks-fit}
use Rattle.slot_interleaving.proofs.PlaceSteps.{added-row, check-in, data-in, summed-word}
use Rattle.slot_clean.proofs.Unpacking.{length_from, words-from}
use Rattle.slot_laws.proofs.RoomSteps.{WordPart, new-data, new_word, same-words-before}

-- ---- a word's check semi-octets and data

length-data : (size mode i : ℕ) (places : List ℕ) → InRange size mode → i < words size
    → length (data_from size mode places i) ≡ data_length size mode i
length-data size mode i places range inside =
    let f = checks-fit size mode i range inside in
    length-drop (distance mode - 1) (word_from size mode places i)
    ∙ ap (λ (n : ℕ). n - (distance mode - 1)) (length_from size mode places i)
    ∙ omega arith

module _ {size mode i n : ℕ} {row places : List ℕ} (word : AtWord size mode i n row places) where
  -- semi-octet k of word i, taken from its place p with the signature's row
  pub from_at : {k p : ℕ} → k < word_length size i → p ≡ place_of size i k
      → bit_xor (get_or places p 0) (get_or row k 0) ≡ get_or (word_from size mode places i) k 0
  unfolding word_from
  from_at {k} {p} l e =
      added-row (get_or places p 0) (get_or row k 0) (signature mode i k) (word.row_is k)
      ∙ ap (λ (z : ℕ). sum (get_or places z 0) (signature mode i k)) e
      ∙ sym (get_or-tab (λ k. sum (get_or places (place_of size i k) 0) (signature mode i k)) (word_length size i) k l)

  -- .. of the check semi-octets, and of the data behind them
  pub check-at : {k p : ℕ} → k < distance mode - 1 → p ≡ place_of size i k
      → bit_xor (get_or places p 0) (get_or row k 0) ≡ get_or (checks_from size mode places i) k 0
  check-at {k} l e = from_at (check-in word l) e ∙ sym (get_or-take (distance mode - 1) (word_from size mode places i) k 0 l)

  pub data-at : {d k p : ℕ} → IsDistance mode d → k < data_length size mode i → p ≡ place_of size i (d - 1 + k)
      → bit_xor (get_or places p 0) (get_or row (d - 1 + k) 0) ≡ get_or (data_from size mode places i) k 0
  data-at {d} {k} is l e =
      from_at (data-in word is l) e
      ∙ ap (λ (d : ℕ). get_or (word_from size mode places i) (d - 1 + k) 0) is.is
      ∙ sym (get_or-drop (distance mode - 1) (word_from size mode places i) k 0)

  pub length-checks : length (checks_from size mode places i) ≡ distance mode - 1
  length-checks =
      let f = checks-fit size mode i word.range word.word_below in
      length-take-le (distance mode - 1) (word_from size mode places i) (omega (arith, length_from size mode places i))

  pub data-last : {l k : ℕ} {w : List ℕ} → l ≡ data_length size mode i → Filled (λ k. get_or (data_from size mode places i) k 0) l k w
      → l ≤ k
      → w ≡ data_from size mode places i
  data-last {l} {k} {w} e f m =
      filled-last (λ k. get_or (data_from size mode places i) k 0) l k w f m
      ∙ tab-is (λ k. get_or (data_from size mode places i) k 0) l (data_from size mode places i)
      (length-data size mode i places word.range word.word_below ∙ sym e) (λ k m. refl)

-- ---- the check semi-octets compared

-- where two have no bit together, neither has one
no_bits : (a b : ℕ) → bit_or a b ≡ 0 → (a ≡ 0) × (b ≡ 0)
no_bits a b e =
    let s = or_add_and a b in
    let l = and_le_l a b in
    let r = and_le_r a b in
    (omega arith, omega arith)

-- a digit that is the last check semi-octet still to be compared
with-checks-step : (k r : ℕ) (w : List ℕ) → 0 < k → k ≤ length w → get_or w (k - 1) 0 ≡ r % 16
    → with_checks k r (drop k w) ≡ with_checks (k - 1) (r / 16) (drop (k - 1) w)
unfolding with_checks
with-checks-step zero r w p h e = absurd (omega arith)
with-checks-step (suc k) r w p h e =
    let same : suc k - 1 ≡ k = omega arith in
    let d : get_or w k 0 ≡ r % 16 = rw same at e in
    rw same (ap (λ (l : List ℕ). with_checks k (r / 16) l)
    (ap (λ (x : ℕ). x ∷ drop (suc k) w) (sym d) ∙ sym (drop-cons w k 0 (omega arith))))

-- as far as place k the check semi-octets are the digits, where no bit was found
abbrev pub Compared : ℕ → ℕ → List ℕ → ℕ → ℕ → ℕ → Type 0
Compared n r w k rest bits = bits ≡ 0 → with_checks n r [] ≡ with_checks k rest (drop k w)

pub compared-next : (n r : ℕ) (w : List ℕ) (k rest bits x : ℕ) → length w ≡ n → k ≤ n → 0 < k → x ≡ get_or w (k - 1) 0
    → Compared n r w k rest bits
    → Compared n r w (k - 1) (rest / 16) (bit_or bits (bit_xor x (rest % 16)))
unfolding sum
compared-next n r w k rest bits x l h p e c z =
    let b = no_bits bits (bit_xor x (rest % 16)) z in
    c b.0 ∙ with-checks-step k rest w p (omega arith) (sym e ∙ sum_same x (rest % 16) b.1)

pub compared-last : (n r : ℕ) (w : List ℕ) (k rest bits : ℕ) → k ≡ 0 → Compared n r w k rest bits → eqb bits 0 ≡ true
    → w ≡ with_checks n r []
unfolding with_checks
compared-last n r w k rest bits e c z = sym (c (eqb-true bits 0 z) ∙ ap (λ (m : ℕ). with_checks m rest (drop m w)) e)

-- ---- a clean word

pub clean-coded : {size mode i r : ℕ} {places rows w last : List ℕ} → WithRows size mode i (2 * size) w rows places → Below 16 places
    → last ≡ data_from size mode places i → ChecksSummed size mode places i rows r → ChecksAre size mode places i r
    → CleanOver size mode places i last
clean-coded {size} {mode} {i} {r} {places} {rows} given b e s c =
    let word = word_from size mode places i in
    let message = data_from size mode places i in
    let range = given.range in
    let l = given.word_below in
    let long = length-data size mode i places range l in
    let f = checks-fit size mode i range l in
    let h = length_high size i range.size_from in
    let small = below-drop 16 (distance mode - 1) word ((words-from size mode places b).below i l) in
    let sums : r ≡ summed rows (λ k. get_or message k 0) (length message) = s ∙ ap (summed rows (λ k. get_or message k 0)) (sym long) in
    sym (take-append-drop (distance mode - 1) word)
    ∙ ap (λ (x : List ℕ). x ++ message) c
    ∙ sym (summed-word mode message range.mode_from range.mode_to (omega (arith, long)) small rows r given.rows_are sums)
    ∙ ap (coded (distance mode)) (sym e)

-- ---- the loop over the words

pub clean-first : (size mode : ℕ) (places message : List ℕ) → AllClean size mode places message 0
clean-first size mode places message j l = absurd (omega arith)

module _ (places : List ℕ) {size mode i at n e : ℕ} {old last : List ℕ} (part : WordPart size mode i at n e old) (small : Below 16 places)
    (taken : last ≡ data_from size mode places i) where
  taken-long : length last ≡ data_length size mode i
  taken-long = ap (λ (x : List ℕ). length x) taken ∙ length-data size mode i places part.range part.inside

  taken-below : Below 16 last
  taken-below = rw taken (below-drop 16 (distance mode - 1) (word_from size mode places i)
      ((words-from size mode places small).below i part.inside))

  pub clean-data : Data size mode (put_mid at (e - at) old last)
  clean-data = new-data part last taken-long taken-below

  pub clean-next : AllClean size mode places old i → CleanOver size mode places i last
      → AllClean size mode places (put_mid at (e - at) old last) (i + 1)
  unfolding code_word
  clean-next a c j l = go (eqb j i) refl
    where
      go : (b : Bool) → eqb j i ≡ b
          → coded (distance mode) (data_word size mode (put_mid at (e - at) old last) j) ≡ word_from size mode places j
      go true t = rw (eqb-true j i t) (ap (coded (distance mode)) (new_word part last taken-long taken-below) ∙ sym c)
      go false t =
          let d : (j ≡ i → ⊥) = eqb-false j i t in
          let k : j < i = omega arith in
          ap (coded (distance mode)) (same-words-before part last taken-long taken-below j k) ∙ a j k
