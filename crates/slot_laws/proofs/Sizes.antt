-- The sizes add up: the words' lengths to the slot, the data to frame and hashes; every word has 13 to 15 semi-octets; document 01's table.
-- Assumes nothing.
use mathlib.Core.Path.{◌≡◌, refl, sym, ap, ◌∙◌}
use mathlib.Core.Bool.{Bool, true, false, cond}
use Prim.Native.Nat.{ℕ, ◌+◌, ◌*◌, ◌-◌, ◌/◌, ◌≤◌, ◌<◌}
use native.Mathlib.Omega.{arith}
use native.Mathlib.Nat.{mul_assoc, mul_comm, mul-le-mul_left, div-lt_iff_lt-mul}
use lib.Dec.{eqb, ltb, leb, leb→le}
use borrow.Author.Tests.{ltb-true, ltb-false, leb-true}
use Rattle.laws.specs.Tab.{total}
use Rattle.laws.proofs.Tab.{total-same, total-less, total-back, total-up, total-next, total-none}
use Rattle.laws.proofs.Every.{both, both_left, both_right, at2}
use Rattle.laws.proofs.Spread.{share, share-is, share-lt, lt-share, shares}
use Rattle.code_word_laws.specs.Word.{distance}
use Rattle.slot_laws.specs.Sizes.{InRange, words, word_length, data_length, conceal_words, block, conceal}
use Rattle.slot_laws.specs.Sizes.{hash1, hash2, frame_size, data_size}

-- ---- words and their lengths

pub words-low : (size : ℕ) → 40 ≤ size → 6 ≤ words size
unfolding words
words-low size h = omega arith

pub words-high : (size : ℕ) → 15 * words size ≤ 2 * size + 14
unfolding words
words-high size = omega arith

pub words-cover : (size : ℕ) → 2 * size ≤ 15 * words size
unfolding words
words-cover size = omega arith

pub words-thirteen : (size : ℕ) → 40 ≤ size → 13 * words size ≤ 2 * size
unfolding words
words-thirteen size h = go (ltb size 46) refl
  where
    go : (b : Bool) → ltb size 46 ≡ b → 13 * ((2 * size + 14) / 15) ≤ 2 * size
    go true e =
        let l = ltb-true size 46 e in
        let k : (2 * size + 14) / 15 ≤ 6 = omega arith in
        omega arith
    go false e = let l = ltb-false size 46 e in omega arith

-- the length that A.8 gives is the share of the word
pub length-share : (size i : ℕ) → 40 ≤ size → i < words size → word_length size i ≡ share (2 * size) (words size) i
unfolding word_length
length-share size i h l = sym (share-is (2 * size) (words size) i l (omega (arith, words-thirteen size h)))

-- the words' lengths add up to the slot
pub lengths : (size : ℕ) → 40 ≤ size → total (word_length size) (words size) ≡ 2 * size
lengths size h =
    total-same (word_length size) (share (2 * size) (words size)) (words size) (λ i l. length-share size i h l)
    ∙ shares (words size) (2 * size) (omega (arith, words-low size h))

pub length-low : (size i : ℕ) → 40 ≤ size → i < words size → 13 ≤ word_length size i
length-low size i h l =
    let t = words-thirteen size h in
    let c = mul_comm (words size) 12 in
    rw (length-share size i h l) (lt-share (2 * size) (words size) i 12 l (omega arith))

pub length_high : (size i : ℕ) → 40 ≤ size → word_length size i ≤ 15
unfolding word_length
length_high size i h =
    let w = words-low size h in
    let c = words-cover size in
    let l : 2 * size - i - 1 < 15 * words size = omega arith in
    let p : 0 < words size = omega arith in
    let d : (2 * size - i - 1) / words size < 15 = (div-lt_iff_lt-mul p).1 l in
    omega arith

-- semi-octet k of word i has a place in the slot
pub place_in : (size i k : ℕ) → 40 ≤ size → i < words size → k < word_length size i → words size * k + i < 2 * size
place_in size i k h l p = share-lt (2 * size) (words size) i k l (rw (length-share size i h l) at p)

pub in_place : (size i k : ℕ) → 40 ≤ size → i < words size → words size * k + i < 2 * size → k < word_length size i
in_place size i k h l p = rw (length-share size i h l) (lt-share (2 * size) (words size) i k l p)

-- ---- data

-- check and data semi-octets make the word
pub checks-fit : (size mode i : ℕ) → InRange size mode → i < words size → distance mode - 1 + data_length size mode i ≡ word_length size i
unfolding data_length
checks-fit size mode i r l = omega (arith, length-low size i r.size_from l)

pub data-low : (size mode i : ℕ) → InRange size mode → i < words size → 7 ≤ data_length size mode i
unfolding data_length
data-low size mode i r l = omega (arith, length-low size i r.size_from l)

pub hash1-high : (size : ℕ) → hash1 size ≤ 3
unfolding hash1
hash1-high size = go (eqb size 40)
  where
    go : (b : Bool) → cond b 2 3 ≤ 3
    go true = omega arith
    go false = omega arith

pub hash1-low : (size : ℕ) → 2 ≤ hash1 size
unfolding hash1
hash1-low size = go (eqb size 40)
  where
    go : (b : Bool) → 2 ≤ cond b 2 3
    go true = omega arith
    go false = omega arith

pub hash2-high : (size mode : ℕ) → hash2 size mode ≤ 2
unfolding hash2
hash2-high size mode = go (leb 80 size) (leb 3 mode)
  where
    go : (b c : Bool) → cond b (cond c 2 0) 0 ≤ 2
    go true true = omega arith
    go true false = omega arith
    go false c = omega arith

pub overhead : (size mode : ℕ) → InRange size mode → hash1 size + hash2 size mode + words size * (mode - 1) + 6 ≤ size
overhead size mode r =
    let a = hash1-high size in
    let b = hash2-high size mode in
    let c = words-high size in
    let l : mode - 1 ≤ 3 = omega arith in
    let m : words size * (mode - 1) ≤ words size * 3 = mul-le-mul_left (words size) l in
    omega arith

-- slot = frame + hashes + check bytes
pub sizes : (size mode : ℕ) → InRange size mode → frame_size size mode + hash1 size + hash2 size mode + words size * (mode - 1) ≡ size
unfolding frame_size
sizes size mode r = omega (arith, overhead size mode r)

bounds-test : ℕ → ℕ → Bool
bounds-test s m = both (leb 20 (frame_size (40 + s) (2 + m))) (leb (frame_size (40 + s) (2 + m)) 343)

-- the shortest and the longest frame
pub frame-bounds : (size mode : ℕ) → InRange size mode → (20 ≤ frame_size size mode) × (frame_size size mode ≤ 343)
unfolding frame_size hash1 hash2 words bounds-test
frame-bounds size mode r =
    let s : 40 + (size - 40) ≡ size = omega arith in
    let m : 2 + (mode - 2) ≡ mode = omega arith in
    let t = rw (s, m) at (at2 361 3 bounds-test tt (size - 40) (mode - 2) (omega arith) (omega arith)) in
    let f = frame_size size mode in
    (leb→le 20 f (both_left (leb 20 f) (leb f 343) t), leb→le f 343 (both_right (leb 20 f) (leb f 343) t))

-- the data words hold the hashes and the frame
pub data-lengths : (size mode : ℕ) → InRange size mode
    → total (data_length size mode) (words size) ≡ data_size size mode
unfolding data_length
data-lengths size mode r =
    let t = total-less (word_length size) (distance mode - 1) (words size)
    (λ i l. omega (arith, length-low size i r.size_from l, r.mode_to)) in
    let s = sizes size mode r in
    let l = lengths size r.size_from in
    let e : 2 * mode - 1 - 1 ≡ (mode - 1) * 2 = omega arith in
    let m : words size * (2 * mode - 1 - 1) ≡ words size * (mode - 1) * 2 = ap (λ (x : ℕ). words size * x) e
    ∙ sym (mul_assoc (words size) (mode - 1) 2) in
    omega arith

-- ---- the partial concealment block

-- two words at least are outside it
pub conceal-few : (size mode : ℕ) → 40 ≤ size → conceal_words size mode + 2 ≤ words size
unfolding conceal_words
conceal-few size mode h = go (leb 80 size) (eqb mode 3) (eqb mode 4) refl
  where
    c : 2 * size ≤ 15 * words size
    c = words-cover size

    w : 6 ≤ words size
    w = words-low size h

    go : (a b d : Bool) → leb 80 size ≡ a
        → cond a (cond b ((80447761194030 * size - 1791044776119394 + 500000000000000) / 1000000000000000)
        (cond d ((66492537313433 * size - 1970149253731338 + 500000000000000) / 1000000000000000) 0)) 0 + 2 ≤ words size
    go true true d e = omega (arith, c, leb-true 80 size e)
    go true false true e = omega (arith, c, leb-true 80 size e)
    go true false false e = omega (arith, w)
    go false b d e = omega (arith, w)

-- it holds part of the frame alone
pub conceal-fits : (size mode : ℕ) → InRange size mode → conceal size mode ≤ 2 * frame_size size mode
unfolding conceal block
conceal-fits size mode r =
    let few = conceal-few size mode r.size_from in
    let n = conceal_words size mode in
    let m = words size - n in
    let e : m + n ≡ words size = omega arith in
    let t = total-back (data_length size mode) m n in
    let f = total-up (data_length size mode) 2 m (omega arith) in
    let a = data-lengths size mode r in
    let b : total (data_length size mode) (m + n) ≡ total (data_length size mode) (words size) = ap (total (data_length size mode)) e in
    let g : total (λ j. data_length size mode (m + n - 1 - j)) n ≡ total (λ j. data_length size mode (words size - 1 - j)) n =
    ap (λ (x : ℕ). total (λ j. data_length size mode (x - 1 - j)) n) e in
    let z = total-none (data_length size mode) in
    let z1 = total-next (data_length size mode) 0 in
    let z2 = total-next (data_length size mode) 1 in
    let l0 = data-low size mode 0 r (omega arith) in
    let l1 = data-low size mode 1 r (omega arith) in
    let h1 = hash1-high size in
    let h2 = hash2-high size mode in
    omega arith

-- ---- the swap

-- its two semi-octets are different ones, and both are data
pub swap-apart : (size mode : ℕ) → InRange size mode → 2 * hash1 size - 1 < word_length size 0 - distance mode
unfolding hash1
swap-apart size mode r = go (eqb size 40) refl
  where
    l : 13 ≤ word_length size 0
    l = length-low size 0 r.size_from (omega (arith, words-low size r.size_from))

    go : (b : Bool) → eqb size 40 ≡ b → 2 * cond b 2 3 - 1 < word_length size 0 - distance mode
    go true e = omega (arith, l, r.mode_to)
    go false e = omega (arith, l, r.mode_to)

pub swap-in : (size mode : ℕ) → InRange size mode → word_length size 0 - distance mode < data_size size mode
swap-in size mode r =
    let w = words-low size r.size_from in
    let t = total-up (data_length size mode) 1 (words size) (omega arith) in
    let z = total-none (data_length size mode) in
    let z1 = total-next (data_length size mode) 0 in
    let a = data-lengths size mode r in
    let c = checks-fit size mode 0 r (omega arith) in
    let l = data-low size mode 0 r (omega arith) in
    omega arith

-- ---- document 01's table

abbrev pub Row : ℕ → ℕ → ℕ → ℕ → ℕ → Type 0
Row size n two three four = (words size ≡ n) × (frame_size size 2 ≡ two) × (frame_size size 3 ≡ three) × (frame_size size 4 ≡ four)

pub table : Row 40 6 32 26 20 × Row 41 6 32 26 20 × Row 79 11 65 54 43 × Row 80 11 66 53 42 × Row 400 54 343 287 233
unfolding words frame_size hash1 hash2
table = ((refl, refl, refl, refl), (refl, refl, refl, refl), (refl, refl, refl, refl), (refl, refl, refl, refl), (refl, refl, refl, refl))
