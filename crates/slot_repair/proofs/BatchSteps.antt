-- What the code that corrects a slot's words all at once asks: what correcting them in one call leaves of each, and the slot's answer from
-- that.
-- Assumes nothing.
use mathlib.Core.Path.{◌≡◌, refl, sym, ap, ap₂, ◌∙◌, subst}
use mathlib.Core.Bool.{Bool, true, false, cond}
use mathlib.Core.List.{List}
use Prim.Native.Nat.{ℕ, zero, suc, ◌+◌, ◌*◌, ◌-◌, ◌/◌, ◌%◌, ◌≤◌, ◌<◌}
use native.Mathlib.Omega.{arith}
use native.Mathlib.Nat.{suc-mul, mul_comm, div-add-mod', mod-lt}
use native.Mathlib.Numerals.{add-one}
use lib.Arith.{digits_div}
use lib.Dec.{ltb}
use lib.ListN.{length, get_or, take, drop, length-drop}
use lib.Seq.{take_all}
use borrow.Author.Tests.{le-ltb, ltb-true, ltb-false}
use Rattle.laws.specs.Tab.{total, Below}
use Rattle.laws.proofs.Tab.{total-same, total-next, total-none, below-drop}
use Rattle.laws.proofs.Spread.{share}
use Rattle.code_word_laws.specs.Word.{semi_octet_changed, bits_changed, changes_by, distance}
use Rattle.code_word_laws.specs.Make.{coded}
use Rattle.code_word_laws.specs.Correct.{Near, WordCorrected, EachCorrected, length_at, start_at, word_at}
use Rattle.code_word_laws.specs.Corrector.{Dealt}
use Rattle.code_word_laws.proofs.Coded.{coded-only}
use Rattle.slot_laws.specs.Sizes.{InRange, words, word_length}
use Rattle.slot_laws.specs.Words.{piece, data_word}
use Rattle.slot_laws.specs.Slot.{code_word, word_in}
use Rattle.slot_clean.specs.Inner.{unpacked, word_from}
use Rattle.slot_gathering.specs.Inner.{AllArrived, IsGathered}
use Rattle.slot_repair.specs.Inner.{changes_to, IsRepairFrom}
use Rattle.std.specs.Prelude.{Option, Some, None}
use Rattle.slot_gathering.specs.declared.Outcome.{Outcome}
use Rattle.slot_laws.proofs.Sizes.{words-low, length-share, lengths, length_high, checks-fit}
use Rattle.slot_laws.proofs.Semi.{semi-octets-of, below_of}
use Rattle.slot_laws.proofs.Words.{joined, below-joined, below-piece, joined-piece}
use Rattle.slot_laws.proofs.Slot.{words-in}
use Rattle.slot_clean.proofs.Unpacking.{word-from}

-- ---- the lengths and the places of the words in one row

-- semi-octets dealt out as evenly as can be, the longer words first: the shares
share-at : (t n i : ℕ) → i < n → share t n i ≡ length_at t n i
unfolding share
share-at t n i h = go (ltb i (t % n)) refl
  where
    p : 0 < n
    p = omega arith

    go : (b : Bool) → ltb i (t % n) ≡ b → (t + (n - 1 - i)) / n ≡ cond b (t / n + 1) (t / n)
    go true e =
        let d = div-add-mod' t n in
        let r = mod-lt t p in
        let l = ltb-true i (t % n) e in
        let s = suc-mul (t / n) n in
        let a : t + (n - 1 - i) ≡ suc (t / n) * n + (t % n - i - 1) = omega arith in
        let u : t % n - i - 1 < n = omega arith in
        ap (λ (x : ℕ). x / n) a ∙ digits_div (suc (t / n)) u ∙ sym (add-one (t / n))
    go false e =
        let d = div-add-mod' t n in
        let r = mod-lt t p in
        let l = ltb-false i (t % n) e in
        let a : t + (n - 1 - i) ≡ t / n * n + (t % n + (n - 1 - i)) = omega arith in
        let u : t % n + (n - 1 - i) < n = omega arith in
        ap (λ (x : ℕ). x / n) a ∙ digits_div (t / n) u

-- .. which A.8 gives
length-at : (size i : ℕ) → 40 ≤ size → i < words size → length_at (2 * size) (words size) i ≡ word_length size i
length-at size i h l = sym (length-share size i h l ∙ share-at (2 * size) (words size) i l)

start-at : (size i : ℕ) → 40 ≤ size → i ≤ words size → start_at (2 * size) (words size) i ≡ total (word_length size) i
start-at size zero h l = sym (total-none (word_length size))
start-at size (suc i) h l =
    ap₂ (λ (x y : ℕ). x + y) (start-at size i h (omega arith)) (length-at size i h (omega arith)) ∙ sym (total-next (word_length size) i)

word-at : (size i n : ℕ) (all : List ℕ) → 40 ≤ size → i < words size → length all ≡ 2 * size → n ≡ words size
    → word_at n i all ≡ piece (word_length size) all i
unfolding piece
word-at size i n all h l e k =
    ap₂ (λ (x y : ℕ). take (length_at x y i) (drop (start_at x y i) all)) e k
    ∙ ap₂ (λ (x y : ℕ). take x (drop y all)) (length-at size i h l) (start-at size i h (omega arith))

-- ---- all words corrected in one call

-- what is left of each word, and its counts
pub record Answered (size mode : ℕ) (places all counts bits : List ℕ) : Type 0 where
  pub long : length all ≡ 2 * size
  pub below : Below 16 all
  pub many : length counts ≡ words size
  pub many_bits : length bits ≡ words size
  pub each : (i : ℕ) → i < words size
      → WordCorrected mode (word_from size mode places i) (piece (word_length size) all i) (get_or counts i 0) (get_or bits i 0)

-- the last word is one of the shorter ones
last-length : (size : ℕ) → 40 ≤ size → word_length size (words size - 1) ≡ 2 * size / words size
last-length size h =
    let w = words-low size h in
    let p : 0 < words size = omega arith in
    let m = mod-lt (2 * size) p in
    sym (length-at size (words size - 1) h (omega arith))
    ∙ ap (λ (b : Bool). cond b (2 * size / words size + 1) (2 * size / words size))
    (le-ltb (words size - 1) (2 * size % words size) (omega arith))

-- the words are dealt out as the corrector deals them: as long as the last, and some one longer
pub dealt-out : (size mode n long : ℕ) (all : List ℕ) → InRange size mode → length all ≡ 2 * size → n ≡ words size
    → long ≡ word_length size (n - 1) → Dealt (length all) n long (2 * size - n * long)
dealt-out size mode n long all r l e k = record {
  some = omega (arith, e, words-low size r.size_from);
  quotient = quotient;
  rest =
      let d = div-add-mod' (length all) n in
      let c : length all / n * n ≡ n * long = ap (λ (x : ℕ). x * n) (sym quotient) ∙ mul_comm long n in
      omega (arith, l);
  short = λ i h.
      let a : length_at (length all) n i ≡ word_length size i =
      ap₂ (λ (x y : ℕ). length_at x y i) l e ∙ length-at size i r.size_from (omega (arith, e)) in
      let b = length_high size i r.size_from in
      omega arith;
}
  where
    quotient : long ≡ length all / n
    quotient =
        k ∙ ap (λ (x : ℕ). word_length size (x - 1)) e ∙ last-length size r.size_from
        ∙ ap₂ (λ (x y : ℕ). x / y) (sym l) (sym e)

-- .. and together they are no more than the slot's
pub dealt-few : (size n long over : ℕ) (all : List ℕ) → length all ≡ 2 * size → Dealt (length all) n long over → n * long ≤ 2 * size
dealt-few size n long over all l d =
    let c : length all / n * n ≡ n * long = ap (λ (x : ℕ). x * n) (sym d.quotient) ∙ mul_comm long n in
    let e = div-add-mod' (length all) n in
    omega (arith, l)

module _ (size mode : ℕ) (places old : List ℕ) (range : InRange size mode) (arrived : AllArrived size mode places old)
    (new counts bits : List ℕ) (as_long : length new ≡ length old) (many : length counts ≡ words size)
    (many_bits : length bits ≡ words size) (corrected : EachCorrected mode old new counts bits) where
  each-corrected : (i : ℕ) → i < words size → WordCorrected mode (word_from size mode places i) (piece (word_length size) new i)
      (get_or counts i 0) (get_or bits i 0)
  each-corrected i l =
      let a = word-at size i (length counts) old range.size_from l arrived.long many ∙ arrived.each i l in
      let b = word-at size i (length counts) new range.size_from l (as_long ∙ arrived.long) many in
      rw (a, b) at (corrected i (omega (arith, many)))

  corrected-below : (i : ℕ) → i < words size → (b : Bool) → ltb (get_or counts i 0) mode ≡ b → Below 16 (piece (word_length size) new i)
  corrected-below i l true e = below_of (piece (word_length size) new i)
      ((each-corrected i l).found (ltb-true (get_or counts i 0) mode e)).semi_octets
  corrected-below i l false e =
      let k = (each-corrected i l).kept (ltb-false (get_or counts i 0) mode e) ∙ sym (arrived.each i l) in
      rw k (below-piece 16 (word_length size) old i (omega arith) arrived.below)

  pub answered : Answered size mode places new counts bits
  answered =
      let l : length new ≡ 2 * size = as_long ∙ arrived.long in
      let j : new ≡ joined (piece (word_length size) new) (words size) =
      sym (take_all (total (word_length size) (words size)) new (omega (arith, lengths size range.size_from)))
      ∙ sym (joined-piece (word_length size) new (words size)) in
      record {
        long = l;
        below =
            subst (λ (x : List ℕ). Below 16 x) (sym j)
            (below-joined 16 (piece (word_length size) new) (words size) (omega arith)
            (λ i k. corrected-below i k (ltb (get_or counts i 0) mode) refl));
        many = many;
        many_bits = many_bits;
        each = λ i k. each-corrected i k;
      }

-- ---- the slot's answer

-- a valid word is the code word over its data
code_of : (size mode i : ℕ) (slot message word : List ℕ) → InRange size mode → i < words size → Near mode (word_in size mode slot i) word
    → data_word size mode message i ≡ drop (distance mode - 1) word → code_word size mode message i ≡ word
unfolding code_word
code_of size mode i slot message word r l n h =
    let long : length word ≡ word_length size i = n.long ∙ (words-in size mode slot r).long i l in
    let d = drop (distance mode - 1) word in
    let f = checks-fit size mode i r l in
    let t = length_high size i r.size_from in
    let k = length-drop (distance mode - 1) word in
    let s = semi-octets-of d (below-drop 16 (distance mode - 1) word (below_of word n.semi_octets)) in
    ap (coded (distance mode)) h
    ∙ sym (coded-only (distance mode) d word (omega (arith, r.mode_from)) (omega (arith, long)) s
    (record { semi_octets = n.semi_octets; long = long ∙ omega (arith, long); holds = refl; valid = n.valid }))

-- .. of the slot that was unpacked
each_of : (size mode : ℕ) (slot places all counts bits : List ℕ) → InRange size mode → Answered size mode places all counts bits
    → length slot ≡ size → places ≡ unpacked slot
    → (j : ℕ) → j < words size
    → WordCorrected mode (word_in size mode slot j) (piece (word_length size) all j) (get_or counts j 0) (get_or bits j 0)
each_of size mode slot places all counts bits r a e p j l =
    subst (λ (w : List ℕ). WordCorrected mode w (piece (word_length size) all j) (get_or counts j 0) (get_or bits j 0))
    (word-from size mode slot places j r.size_from e p) (a.each j l)

-- what is counted of the words as they are left is counted of the code words over the data
counted-over : (size mode : ℕ) (slot message : List ℕ) (w : ℕ → List ℕ) → ((j : ℕ) → j < words size → code_word size mode message j ≡ w j)
    → (f : ℕ → ℕ → ℕ) (counts : List ℕ) → ((j : ℕ) → j < words size → get_or counts j 0 ≡ changes_by f (word_in size mode slot j) (w j))
    → total (λ j. get_or counts j 0) (words size) ≡ changes_to f size mode slot message (words size)
counted-over size mode slot message w code f counts c =
    total-same _ _ (words size) (λ j l. c j l ∙ ap (changes_by f (word_in size mode slot j)) (sym (code j l)))

pub repaired : (size mode : ℕ) (places all counts bits message : List ℕ) (r : Option Outcome) → InRange size mode
    → Answered size mode places all counts bits → IsGathered size mode all counts bits message r → IsRepairFrom size mode places message r
repaired size mode places all counts bits message (Some found) r a g slot e p =
    let each = each_of size mode slot places all counts bits r a e p in
    let near : (j : ℕ) → j < words size → Near mode (word_in size mode slot j) (piece (word_length size) all j) =
    λ j l. (each j l).found (g.few j l) in
    let code : (j : ℕ) → j < words size → code_word size mode message j ≡ piece (word_length size) all j =
    λ j l. code_of size mode j slot message (piece (word_length size) all j) r l (near j l) (g.each j l) in
    let over = counted-over size mode slot message (piece (word_length size) all) code in
    record {
      given = g.given;
      near = λ j l. rw (code j l) (near j l);
      counted = g.counted ∙ over semi_octet_changed counts (λ j l. (each j l).counted (g.few j l));
      bits_counted = g.bits_counted ∙ over bits_changed bits (λ j l. (each j l).bits_counted (g.few j l));
    }
repaired size mode places all counts bits message None r a g slot e p =
    let each = each_of size mode slot places all counts bits r a e p in
    record { word = g.word; inside = g.inside; none = (each g.word g.inside).none g.none }
