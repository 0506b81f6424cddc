-- What the code of the sizes asks: each size by its cases, the smaller numbers of A.11, and a turn of the loop over the last words.
-- Assumes nothing.
use mathlib.Core.Path.{◌≡◌, refl, sym, ap, ap₂, ◌∙◌}
use mathlib.Core.Bool.{Bool, true, false, cond}
use Prim.Native.Nat.{ℕ, ◌+◌, ◌*◌, ◌-◌, ◌/◌, ◌≤◌, ◌<◌}
use native.Mathlib.Omega.{arith}
use native.Mathlib.Nat.{le-div_iff_mul-le, div-lt_iff_lt-mul}
use native.Mathlib.Numerals.{add-one}
use lib.Dec.{T, eqb, leb, eqb→eq}
use borrow.Author.Tests.{eq-eqb, ne_eqb, le-leb, lt-leb}
use Rattle.laws.specs.Tab.{total}
use Rattle.laws.proofs.Every.{every, at}
use Rattle.laws.proofs.Tab.{total-next, total-none}
use Rattle.code_word_laws.specs.Word.{distance}
use Rattle.slot_laws.specs.Sizes.{InRange, words, word_length, data_length, conceal_words, block, conceal, hash1, hash2, frame_size}
use Rattle.slot_laws.proofs.Sizes.{overhead, conceal-fits}

-- how a word's length compares with a number, without the division
length_from : (size count i k : ℕ) → count ≡ words size → 0 < count → k * count ≤ 2 * size - i - 1 → k + 1 ≤ word_length size i
unfolding word_length
length_from size count i k e p h = let q = rw e at ((le-div_iff_mul-le p).1 h) in omega arith

length_to : (size count i k : ℕ) → count ≡ words size → 0 < count → 2 * size - i - 1 < k * count → word_length size i ≤ k
unfolding word_length
length_to size count i k e p h = let q = rw e at ((div-lt_iff_lt-mul p).1 h) in omega arith

-- word i has k + 1 semi-octets
pub length-is : (size count i k : ℕ) → count ≡ words size → 0 < count → k * count < 2 * size - i → 2 * size - i ≤ (k + 1) * count
    → k + 1 ≡ word_length size i
length-is size count i k e p g h =
    let a = length_from size count i k e p (omega arith) in
    let b = length_to size count i (k + 1) e p (omega arith) in
    omega arith

-- ---- hashes

pub hash1-forty : (size : ℕ) → size ≡ 40 → hash1 size ≡ 2
unfolding hash1
hash1-forty size e = rw (eq-eqb size 40 e)

pub hash1-other : (size : ℕ) → (size ≡ 40 → ⊥) → hash1 size ≡ 3
unfolding hash1
hash1-other size n = rw (ne_eqb size 40 n)

pub hash2-small : (size mode : ℕ) → size < 80 → hash2 size mode ≡ 0
unfolding hash2
hash2-small size mode h = rw (lt-leb 80 size h)

cond_same : (b : Bool) (a : ℕ) → cond b a a ≡ a
cond_same true a = refl
cond_same false a = refl

pub hash2-two : (size mode : ℕ) → mode < 3 → hash2 size mode ≡ 0
unfolding hash2
hash2-two size mode h = rw (lt-leb 3 mode h) (cond_same (leb 80 size) 0)

pub hash2-large : (size mode : ℕ) → 80 ≤ size → 3 ≤ mode → hash2 size mode ≡ 2
unfolding hash2
hash2-large size mode h k = rw (le-leb 80 size h, le-leb 3 mode k)

-- ---- partial concealment words

-- A.11's number is that of smaller numbers at every size: one test
fewer-test : ℕ → ℕ → ℕ → ℕ → ℕ → ℕ → Bool
fewer-test a b p q r k = eqb ((a * (80 + k) - b + 500000000000000) / 1000000000000000) ((p * (80 + k) - q) / r)

fewer : (a b p q r size : ℕ) → T (every 321 (fewer-test a b p q r)) → 80 ≤ size → size ≤ 400
    → (a * size - b + 500000000000000) / 1000000000000000 ≡ (p * size - q) / r
unfolding fewer-test
fewer a b p q r size t h k =
    let s : 80 + (size - 80) ≡ size = omega arith in
    let l : size - 80 < 321 = omega arith in
    let e = eqb→eq ((a * (80 + (size - 80)) - b + 500000000000000) / 1000000000000000) ((p * (80 + (size - 80)) - q) / r)
    (at 321 (fewer-test a b p q r) t (size - 80) l) in
    rw s at e

pub conceal-small : (size mode : ℕ) → size < 80 → conceal_words size mode ≡ 0
unfolding conceal_words
conceal-small size mode h = rw (lt-leb 80 size h)

pub conceal-three : (size mode : ℕ) → 80 ≤ size → size ≤ 400 → mode ≡ 3 → conceal_words size mode ≡ (539 * size - 8650) / 6700
unfolding conceal_words fewer-test
conceal-three size mode h k e =
    rw (le-leb 80 size h, eq-eqb mode 3 e) (fewer 80447761194030 1791044776119394 539 8650 6700 size tt h k)

pub conceal-four : (size mode : ℕ) → 80 ≤ size → size ≤ 400 → mode ≡ 4 → conceal_words size mode ≡ (4455 * size - 98500) / 67000
unfolding conceal_words fewer-test
conceal-four size mode h k e =
    let n : (mode ≡ 3 → ⊥) = λ x. omega arith in
    rw (le-leb 80 size h, ne_eqb mode 3 n, eq-eqb mode 4 e) (fewer 66492537313433 1970149253731338 4455 98500 67000 size tt h k)

pub conceal-other : (size mode : ℕ) → (mode ≡ 3 → ⊥) → (mode ≡ 4 → ⊥) → conceal_words size mode ≡ 0
unfolding conceal_words
conceal-other size mode n m = rw (ne_eqb mode 3 n, ne_eqb mode 4 m) (cond_same (leb 80 size) 0)

-- ---- the block

pub block_none : (size mode : ℕ) → 0 ≡ block size mode 0
unfolding block
block_none size mode = sym (total-none (λ j. data_length size mode (words size - 1 - j)))

pub block-next : (size mode k l d sum : ℕ) → d ≡ distance mode → l ≡ word_length size (words size - 1 - k) → sum ≡ block size mode k
    → sum + (l - (d - 1)) ≡ block size mode (k + 1)
unfolding block data_length
block-next size mode k l d sum x e h =
    let c : l - (d - 1) ≡ word_length size (words size - 1 - k) - (distance mode - 1) = omega arith in
    ap₂ (λ (x y : ℕ). x + y) h c
    ∙ sym (total-next (λ j. word_length size (words size - 1 - j) - (distance mode - 1)) k)
    ∙ ap (λ (x : ℕ). total (λ j. word_length size (words size - 1 - j) - (distance mode - 1)) x) (sym (add-one k))

conceal-as : (size mode : ℕ) → block size mode (conceal_words size mode) ≡ conceal size mode
unfolding conceal
conceal-as size mode = refl

pub block_last : (size mode sum : ℕ) → InRange size mode → sum ≡ block size mode (conceal_words size mode)
    → (sum ≡ conceal size mode) × (sum ≤ 2 * frame_size size mode)
block_last size mode sum r e =
    let f = conceal-fits size mode r in
    let d : sum ≡ conceal size mode = e ∙ conceal-as size mode in
    (d, omega arith)

-- ---- the frame

pub frame_is : (size mode w : ℕ) → w ≡ words size → size - hash1 size - hash2 size mode - w * (mode - 1) ≡ frame_size size mode
unfolding frame_size
frame_is size mode w e = rw e

pub check-bytes : (size mode w : ℕ) → InRange size mode → w ≡ words size → hash1 size + hash2 size mode + w * (mode - 1) ≤ size
check-bytes size mode w r e = let o = overhead size mode r in rw e (omega arith)
