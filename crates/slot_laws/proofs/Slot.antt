-- A slot and its data are inverse to each other: the data of a slot that was made are those it was made of (`gathered-slot`), and a slot of
-- valid words is made of its data (`slot-gathered`). So a slot of valid words is one that protecting makes exactly when its heading
-- matches.
-- Assumes nothing.
use mathlib.Core.Path.{◌≡◌, refl, sym, ap, ◌∙◌}
use mathlib.Core.Bool.{Bool, true, false, cond}
use mathlib.Core.List.{List, [], ◌∷◌}
use Prim.Native.Nat.{ℕ, zero, suc, ◌+◌, ◌-◌, ◌<◌}
use native.Mathlib.Omega.{arith}
use lib.Dec.{T, ltb, eqb, ltb→lt}
use lib.ListN.{length, get_or, drop, length-drop}
use lib.Seq.{take_all}
use Rattle.laws.specs.Tab.{total, Below}
use Rattle.laws.proofs.Tab.{total-up, below-drop}
use Rattle.laws.proofs.Every.{both, both_left, both_right}
use Rattle.code_word_laws.specs.Word.{SemiOctets, Valid, distance}
use Rattle.code_word_laws.specs.Make.{coded, CodeWord}
use Rattle.code_word_laws.proofs.Coded.{coded-is, coded-only}
use Rattle.slot_laws.specs.Sizes.{InRange, words, data_length}
use Rattle.slot_laws.specs.Semi.{Bytes}
use Rattle.slot_laws.specs.Order.{request_swapped, data_of, Data}
use Rattle.slot_laws.specs.Words.{piece, data_word, row, signature_row, signature}
use Rattle.slot_laws.specs.Back.{Matches, request_of, frame_of}
use Rattle.slot_laws.specs.Slot.{Sent, code_word, slot_with, slot_of, word_in}
use Rattle.slot_laws.proofs.Sizes.{length_high, checks-fit, data-lengths}
use Rattle.slot_laws.proofs.Semi.{semi-octets-of, below_of}
use Rattle.slot_laws.proofs.Places.{AllWords, bytes-slot, received-slot, slot-received, words-received, slot_same}
use Rattle.slot_laws.proofs.Order.{data-of, sent-of, data-back, request-back, frame_back, matches-back}
use Rattle.slot_laws.proofs.Words.{joined, joined_same, length-joined, below-joined, length-piece, below-piece, joined-piece}
use Rattle.slot_laws.proofs.Words.{piece-joined}

-- ---- the signature is of semi-octets

low : List ℕ → Bool
low [] = true
low (c ∷ l) = both (ltb c 16) (low l)

low_below : (l : List ℕ) → T (low l) → Below 16 l
unfolding low
low_below [] t i = omega arith
low_below (c ∷ l) t zero = ltb→lt c 16 (both_left (ltb c 16) (low l) t)
low_below (c ∷ l) t (suc i) = low_below l (both_right (ltb c 16) (low l) t) i

row_low : (b : Bool) (l m : List ℕ) → T (low l) → T (low m) → T (low (row b l m))
row_low true l m t u = t
row_low false l m t u = u

rows-low : (mode : ℕ) → T (low (signature_row mode))
unfolding signature_row low
rows-low mode = row_low (eqb mode 2) _ _ tt (row_low (eqb mode 3) _ _ tt (row_low (eqb mode 4) _ [] tt tt))

pub signature-lt : (mode i k : ℕ) → signature mode i k < 16
unfolding signature
signature-lt mode i k = go (ltb i 6)
  where
    go : (b : Bool) → cond b (get_or (signature_row mode) k 0) 0 < 16
    go true = low_below (signature_row mode) (rows-low mode) k
    go false = omega arith

-- ---- words

-- data word i
module _ (size mode : ℕ) (s : List ℕ) (range : InRange size mode) (given : Data size mode s) where
  pub length-word : (i : ℕ) → i < words size → length (data_word size mode s i) ≡ data_length size mode i
  unfolding data_word
  length-word i l =
      let u = total-up (data_length size mode) (suc i) (words size) l in
      let d = data-lengths size mode range in
      let e = given.long in
      length-piece (data_length size mode) s i (omega arith)

  pub semi-octets-word : (i : ℕ) → SemiOctets (data_word size mode s i)
  unfolding data_word
  semi-octets-word i = semi-octets-of (data_word size mode s i) (below-piece 16 (data_length size mode) s i (omega arith) given.below)

  -- code word i is one over data word i
  pub code-word : (i : ℕ) → CodeWord (distance mode) (data_word size mode s i) (code_word size mode s i)
  unfolding code_word
  code-word i = coded-is (distance mode) (data_word size mode s i) (semi-octets-word i)

  pub all_words : AllWords size (code_word size mode s)
  all_words = record {
    long = λ i l. (code-word i).long ∙ ap (λ (x : ℕ). distance mode - 1 + x) (length-word i l) ∙ checks-fit size mode i range l;
    below = λ i l. below_of (code_word size mode s i) (code-word i).semi_octets;
  }

  -- the words of the slot with these data
  pub word-slot : (i : ℕ) → i < words size → word_in size mode (slot_with size mode s) i ≡ code_word size mode s i
  unfolding word_in slot_with
  word-slot i l = received-slot size (signature mode) range.size_from (signature-lt mode) (code_word size mode s) i all_words l

  pub bytes-with : Bytes size (slot_with size mode s)
  unfolding slot_with
  bytes-with = bytes-slot size (signature mode) range.size_from (signature-lt mode) (code_word size mode s) all_words

  -- .. are valid
  pub valid-with : (i : ℕ) → i < words size → Valid (distance mode) (word_in size mode (slot_with size mode s) i)
  valid-with i l = rw (word-slot i l) (code-word i).valid

-- ---- a slot's data

-- the data semi-octets of a slot, without interleaving, signature and checks
unfoldable pub gathered : ℕ → ℕ → List ℕ → List ℕ
gathered size mode slot = joined (λ i. drop (distance mode - 1) (word_in size mode slot i)) (words size)

pub words-in : (size mode : ℕ) (slot : List ℕ) → InRange size mode → AllWords size (word_in size mode slot)
unfolding word_in
words-in size mode slot r = words-received size (signature mode) r.size_from (signature-lt mode) slot

length-message : (size mode : ℕ) (slot : List ℕ) → InRange size mode → (i : ℕ) → i < words size
    → length (drop (distance mode - 1) (word_in size mode slot i)) ≡ data_length size mode i
length-message size mode slot r i l =
    let c = checks-fit size mode i r l in
    length-drop (distance mode - 1) (word_in size mode slot i)
    ∙ ap (λ (x : ℕ). x - (distance mode - 1)) ((words-in size mode slot r).long i l) ∙ omega arith

pub data-gathered : (size mode : ℕ) (slot : List ℕ) → InRange size mode → Data size mode (gathered size mode slot)
unfolding gathered
data-gathered size mode slot r = record {
  long = length-joined (λ i. drop (distance mode - 1) (word_in size mode slot i)) (data_length size mode) (words size)
      (length-message size mode slot r)
      ∙ data-lengths size mode r;
  below = below-joined 16 (λ i. drop (distance mode - 1) (word_in size mode slot i)) (words size) (omega arith)
      (λ i l. below-drop 16 (distance mode - 1) (word_in size mode slot i) ((words-in size mode slot r).below i l));
}

-- the data of the slot with these data
pub gathered-slot : (size mode : ℕ) (s : List ℕ) → InRange size mode → Data size mode s → gathered size mode (slot_with size mode s) ≡ s
unfolding gathered data_word
gathered-slot size mode s r d =
    joined_same (λ i. drop (distance mode - 1) (word_in size mode (slot_with size mode s) i)) (piece (data_length size mode) s) (words size)
    (λ i l. ap (drop (distance mode - 1)) (word-slot size mode s r d i l) ∙ (code-word size mode s r d i).holds)
    ∙ joined-piece (data_length size mode) s (words size)
    ∙ take_all (total (data_length size mode) (words size)) s (let a = data-lengths size mode r in let b = d.long in omega arith)

-- every word of a slot is valid
abbrev pub AllValid : ℕ → ℕ → List ℕ → Type 0
AllValid size mode slot = (i : ℕ) → i < words size → Valid (distance mode) (word_in size mode slot i)

-- a valid word is the code word over its own data
word_back : (size mode : ℕ) (slot : List ℕ) → InRange size mode → (i : ℕ) → i < words size
    → Valid (distance mode) (word_in size mode slot i)
    → coded (distance mode) (drop (distance mode - 1) (word_in size mode slot i)) ≡ word_in size mode slot i
word_back size mode slot r i l v =
    let w = word_in size mode slot i in
    let a = words-in size mode slot r in
    let n = length-message size mode slot r i l in
    let c = checks-fit size mode i r l in
    let h = length_high size i r.size_from in
    let b = below-drop 16 (distance mode - 1) w (a.below i l) in
    sym (coded-only (distance mode) (drop (distance mode - 1) w) w (omega (arith, r.mode_from)) (omega arith)
    (semi-octets-of (drop (distance mode - 1) w) b)
    (record { semi_octets = semi-octets-of w (a.below i l); long = a.long i l ∙ omega arith; holds = refl; valid = v }))

-- a slot of valid words is the slot with its data
pub slot-gathered : (size mode : ℕ) (slot : List ℕ) → InRange size mode → Bytes size slot → AllValid size mode slot
    → slot_with size mode (gathered size mode slot) ≡ slot
unfolding slot_with gathered code_word data_word word_in
slot-gathered size mode slot r b v =
    slot_same size (signature mode) (code_word size mode (gathered size mode slot)) (word_in size mode slot) r.size_from
    (λ i l.
    ap (coded (distance mode))
    (piece-joined (λ i. drop (distance mode - 1) (word_in size mode slot i)) (data_length size mode) (words size) i l
    (length-message size mode slot r))
    ∙ word_back size mode slot r i l (v i l))
    ∙ slot-received size (signature mode) r.size_from (signature-lt mode) slot b

-- ---- slots that protecting makes

pub bytes-slot-of : (size mode q : ℕ) (frame : List ℕ) → InRange size mode → Bytes size (slot_of size mode q frame)
unfolding slot_of
bytes-slot-of size mode q frame r = bytes-with size mode (data_of size mode q frame) r (data-of size mode q frame)

pub valid-slot : (size mode q : ℕ) (frame : List ℕ) → InRange size mode → AllValid size mode (slot_of size mode q frame)
unfolding slot_of
valid-slot size mode q frame r = valid-with size mode (data_of size mode q frame) r (data-of size mode q frame)

pub gathered-of : (size mode q : ℕ) (frame : List ℕ) → InRange size mode
    → gathered size mode (slot_of size mode q frame) ≡ data_of size mode q frame
unfolding slot_of
gathered-of size mode q frame r = gathered-slot size mode (data_of size mode q frame) r (data-of size mode q frame)

-- the request, the frame and the test of a slot
unfoldable pub request_from : ℕ → ℕ → List ℕ → ℕ
request_from size mode slot = request_of size mode (gathered size mode slot)

unfoldable pub frame_from : ℕ → ℕ → List ℕ → List ℕ
frame_from size mode slot = frame_of size mode (gathered size mode slot)

unfoldable pub HashesMatch : ℕ → ℕ → List ℕ → Type 0
HashesMatch size mode slot = Matches size mode (request_swapped size mode (gathered size mode slot))

pub sent-from : (size mode : ℕ) (slot : List ℕ) → InRange size mode
    → Sent size mode (request_from size mode slot) (frame_from size mode slot)
unfolding request_from frame_from
sent-from size mode slot r = sent-of size mode (gathered size mode slot) (data-gathered size mode slot r)

-- a slot of valid words whose hashes match is what protecting makes of the request and the frame in it
pub slot_read : (size mode : ℕ) (slot : List ℕ) → InRange size mode → Bytes size slot → AllValid size mode slot → HashesMatch size mode slot
    → slot_of size mode (request_from size mode slot) (frame_from size mode slot) ≡ slot
unfolding slot_of request_from frame_from HashesMatch
slot_read size mode slot r b v m =
    ap (slot_with size mode) (data-back size mode (gathered size mode slot) r (data-gathered size mode slot r) m)
    ∙ slot-gathered size mode slot r b v

-- what protecting makes gives its request and its frame back, and its hashes match
module _ (size mode q : ℕ) (frame : List ℕ) (range : InRange size mode) (sent : Sent size mode q frame) where
  pub request-slot : request_from size mode (slot_of size mode q frame) ≡ q
  unfolding request_from
  request-slot = ap (request_of size mode) (gathered-of size mode q frame range) ∙ request-back size mode q frame range sent

  pub frame-slot : frame_from size mode (slot_of size mode q frame) ≡ frame
  unfolding frame_from
  frame-slot = ap (frame_of size mode) (gathered-of size mode q frame range) ∙ frame_back size mode q frame range sent

  pub matches-slot : HashesMatch size mode (slot_of size mode q frame)
  unfolding HashesMatch
  matches-slot = rw (gathered-of size mode q frame range) (matches-back size mode q frame range sent)
