-- The order and the swap, and their way back: from the data of a slot to the request, the frame and the heading that they ought to have.
-- Assumes nothing.
use mathlib.Core.Path.{◌≡◌, refl, sym, ap, ap₂, ◌∙◌}
use mathlib.Core.Bool.{Bool, true, false, cond}
use mathlib.Core.Logic.{◌≢◌}
use mathlib.Core.List.{List, [], ◌∷◌, ◌++◌}
use Prim.Native.Nat.{ℕ, zero, suc, ◌+◌, ◌*◌, ◌-◌, ◌/◌, ◌%◌, ◌^◌, ◌<◌}
use native.Mathlib.Omega.{arith}
use native.Mathlib.Nat.{div-one, div-div-eq-div-mul, mul_comm, pow-suc}
use lib.Dec.{eqb}
use lib.ListN.{length, get_or, take, drop, set, length-append, length-set, length-drop, take-append-drop, get_or-append}
use lib.Seq.{get_or-set_same, get_or-set_other, set-set, set_comm, set-get_or, take_at, drop_at}
use Rattle.laws.specs.Tab.{Below}
use Rattle.laws.proofs.Tab.{below-append, below-drop}
use Rattle.code_word_laws.specs.Word.{distance}
use Rattle.slot_laws.specs.Sizes.{InRange, word_length, hash1, hash2, frame_size, heading_size}
use Rattle.slot_laws.specs.Hash.{Bits, bits_of, Degree, hash, powers, poly14, poly16, poly22}
use Rattle.slot_laws.specs.Order.{unrolled, part_n, first_hash, second_hash, semis, heading, ordered, swapped, request_swapped}
use Rattle.slot_laws.specs.Order.{data_of, Data}
use Rattle.slot_laws.specs.Slot.{Sent}
use Rattle.slot_laws.specs.Back.{rolled, request_in, rest_in, Matches, request_of, frame_of}
use Rattle.slot_laws.proofs.Sizes.{hash1-low, swap-apart, swap-in}
use Rattle.slot_laws.proofs.Semi.{length-unrolled, below-unrolled, bytes-rolled, rolled-unrolled, unrolled-rolled}
use Rattle.slot_laws.proofs.Hash.{hash-lt}

-- ---- the three polynomials have the degrees of their hashes

pub degree14 : Degree poly14 14
unfolding poly14 powers
degree14 = record { from = omega arith; to = omega arith }

pub degree22 : Degree poly22 22
unfolding poly22 powers
degree22 = record { from = omega arith; to = omega arith }

pub degree16 : Degree poly16 16
unfolding poly16 powers
degree16 = record { from = omega arith; to = omega arith }

pub bits-of : (s : List ℕ) → Bits (bits_of s)
unfolding bits_of
bits-of [] = tt
bits-of (c ∷ s) = (omega arith, (omega arith, (omega arith, (omega arith, bits-of s))))

pub first-lt : (size mode q : ℕ) (a : List ℕ) → first_hash size mode q a < 2 ^ (8 * hash1 size - 2)
unfolding first_hash hash1
first-lt size mode q a = go (eqb size 40)
  where
    bits : Bits (q % 2 ∷ q / 2 % 2 ∷ bits_of (part_n size mode a))
    bits = (omega arith, (omega arith, bits-of (part_n size mode a)))

    go : (b : Bool)
        → hash (cond b poly14 poly22) (8 * cond b 2 3 - 2) (q % 2 ∷ q / 2 % 2 ∷ bits_of (part_n size mode a)) < 2 ^ (8 * cond b 2 3 - 2)
    go true = hash-lt poly14 14 (q % 2 ∷ q / 2 % 2 ∷ bits_of (part_n size mode a)) degree14 bits
    go false = hash-lt poly22 22 (q % 2 ∷ q / 2 % 2 ∷ bits_of (part_n size mode a)) degree22 bits

-- ---- semi-octets of a number

pub length-semis : (n v : ℕ) → length (semis n v) ≡ n
unfolding semis
length-semis zero v = refl
length-semis (suc n) v = ap suc (length-semis n (v / 16))

pub below-semis : (n v : ℕ) → Below 16 (semis n v)
unfolding semis
below-semis zero v i = omega arith
below-semis (suc n) v zero = omega arith
below-semis (suc n) v (suc i) = below-semis n (v / 16) i

pub get_or-semis : (n v k : ℕ) → k < n → get_or (semis n v) k 0 ≡ v / 16 ^ k % 16
unfolding semis
get_or-semis zero v k h = absurd (omega arith)
get_or-semis (suc n) v zero h = ap (λ (x : ℕ). x % 16) (sym (div-one v))
get_or-semis (suc n) v (suc k) h =
    get_or-semis n (v / 16) k (omega arith)
    ∙ ap (λ (x : ℕ). x % 16) (div-div-eq-div-mul v 16 (16 ^ k) ∙ ap (λ (x : ℕ). v / x) (mul_comm 16 (16 ^ k) ∙ sym (pow-suc 16 k)))

-- ---- the swap

below_set : (b : ℕ) (l : List ℕ) (i v : ℕ) → v < b → Below b l → Below b (set l i v)
below_set b [] i v h p j = p j
below_set b (x ∷ l) zero v h p zero = h
below_set b (x ∷ l) zero v h p (suc j) = p (suc j)
below_set b (x ∷ l) (suc i) v h p zero = p 0
below_set b (x ∷ l) (suc i) v h p (suc j) = below_set b l i v h (λ k. p (suc k)) j

length-swapped : (i j : ℕ) (s : List ℕ) → length (swapped i j s) ≡ length s
unfolding swapped
length-swapped i j s = simp length-set

below-swapped : (i j : ℕ) (s : List ℕ) → Below 16 s → Below 16 (swapped i j s)
unfolding swapped
below-swapped i j s h =
    let a = h i in
    let b = h j in
    below_set 16 (set s i (get_or s i 0 % 4 + 4 * (get_or s j 0 % 4))) j (get_or s j 0 / 4 * 4 + get_or s i 0 / 4) (omega arith)
    (below_set 16 s i (get_or s i 0 % 4 + 4 * (get_or s j 0 % 4)) (omega arith) h)

-- what stood at i and j, put back
put_back : (s : List ℕ) (i j a b : ℕ) → i ≢ j → set (set (set (set s i a) j b) i (get_or s i 0)) j (get_or s j 0) ≡ s
put_back s i j a b n =
    ap (λ (l : List ℕ). set l j (get_or s j 0))
    (set_comm (set s i a) j i b (get_or s i 0) (λ e. n (sym e))
    ∙ ap (λ (l : List ℕ). set l j b) (set-set s i a (get_or s i 0) ∙ set-get_or s i 0))
    ∙ set-set s j b (get_or s j 0)
    ∙ set-get_or s j 0

pub swapped-twice : (i j : ℕ) (s : List ℕ) → i ≢ j → i < length s → j < length s → Below 16 s → swapped i j (swapped i j s) ≡ s
unfolding swapped
swapped-twice i j s n p q h =
    let a : ℕ = get_or s i 0 % 4 + 4 * (get_or s j 0 % 4) in
    let b : ℕ = get_or s j 0 / 4 * 4 + get_or s i 0 / 4 in
    let l : j < length (set s i a) = omega (arith, length-set s i a) in
    let x : get_or (set (set s i a) j b) i 0 ≡ a = get_or-set_other (set s i a) j i b 0 n ∙ get_or-set_same s i a 0 p in
    let y : get_or (set (set s i a) j b) j 0 ≡ b = get_or-set_same (set s i a) j b 0 l in
    let u = h i in
    let w = h j in
    let e : a % 4 + 4 * (b % 4) ≡ get_or s i 0 = omega arith in
    let f : b / 4 * 4 + a / 4 ≡ get_or s j 0 = omega arith in
    rw (x, y, e, f) (put_back s i j a b n)

pub data-request-swapped : (size mode : ℕ) (s : List ℕ) → Data size mode s → Data size mode (request_swapped size mode s)
unfolding request_swapped
data-request-swapped size mode s d = record {
  long = length-swapped (2 * hash1 size - 1) (word_length size 0 - distance mode) s ∙ d.long;
  below = below-swapped (2 * hash1 size - 1) (word_length size 0 - distance mode) s d.below;
}

-- the swap undone (A.32 to A.36)
pub request-swapped-twice : (size mode : ℕ) (s : List ℕ) → InRange size mode → Data size mode s
    → request_swapped size mode (request_swapped size mode s) ≡ s
unfolding request_swapped
request-swapped-twice size mode s r d =
    let a = swap-apart size mode r in
    let b = swap-in size mode r in
    let l = d.long in
    swapped-twice (2 * hash1 size - 1) (word_length size 0 - distance mode) s (λ e. omega arith) (omega arith) (omega arith) d.below

-- ---- the order

pub length-heading : (size mode q : ℕ) (a : List ℕ) → length (heading size mode q a) ≡ heading_size size mode
unfolding heading
length-heading size mode q a =
    length-append (semis (2 * hash1 size) (first_hash size mode q a + q * 2 ^ (8 * hash1 size - 2)))
    (semis (2 * hash2 size mode) (second_hash size mode a))
    ∙ ap₂ (λ (x y : ℕ). x + y) (length-semis (2 * hash1 size) (first_hash size mode q a + q * 2 ^ (8 * hash1 size - 2)))
    (length-semis (2 * hash2 size mode) (second_hash size mode a))

pub below-heading : (size mode q : ℕ) (a : List ℕ) → Below 16 (heading size mode q a)
unfolding heading
below-heading size mode q a =
    below-append 16 (semis (2 * hash1 size) (first_hash size mode q a + q * 2 ^ (8 * hash1 size - 2)))
    (semis (2 * hash2 size mode) (second_hash size mode a))
    (below-semis (2 * hash1 size) (first_hash size mode q a + q * 2 ^ (8 * hash1 size - 2)))
    (below-semis (2 * hash2 size mode) (second_hash size mode a))

pub data-ordered : (size mode q : ℕ) (frame : List ℕ) → Data size mode (ordered size mode q (unrolled (frame_size size mode) frame))
unfolding ordered
data-ordered size mode q frame = record {
  long =
      length-append (heading size mode q (unrolled (frame_size size mode) frame)) (unrolled (frame_size size mode) frame)
      ∙ ap₂ (λ (x y : ℕ). x + y) (length-heading size mode q (unrolled (frame_size size mode) frame))
      (length-unrolled (frame_size size mode) frame);
  below =
      below-append 16 (heading size mode q (unrolled (frame_size size mode) frame)) (unrolled (frame_size size mode) frame)
      (below-heading size mode q (unrolled (frame_size size mode) frame)) (below-unrolled (frame_size size mode) frame);
}

pub data-of : (size mode q : ℕ) (frame : List ℕ) → Data size mode (data_of size mode q frame)
unfolding data_of
data-of size mode q frame =
    data-request-swapped size mode (ordered size mode q (unrolled (frame_size size mode) frame)) (data-ordered size mode q frame)

-- ---- the way back, of data in order

request-at : (size v q : ℕ) → v < 2 ^ (8 * hash1 size - 2) → q < 4
    → (v + q * 2 ^ (8 * hash1 size - 2)) / 16 ^ (2 * hash1 size - 1) % 16 / 4 ≡ q
unfolding hash1
request-at size v q h l = go (eqb size 40) h
  where
    go : (b : Bool) → v < 2 ^ (8 * cond b 2 3 - 2) → (v + q * 2 ^ (8 * cond b 2 3 - 2)) / 16 ^ (2 * cond b 2 3 - 1) % 16 / 4 ≡ q
    go true k = omega arith
    go false k = omega arith

pub request-ordered : (size mode q : ℕ) (a : List ℕ) → q < 4 → request_in size (ordered size mode q a) ≡ q
unfolding request_in ordered heading
request-ordered size mode q a l =
    let v : ℕ = first_hash size mode q a + q * 2 ^ (8 * hash1 size - 2) in
    let f : List ℕ = semis (2 * hash1 size) v in
    let g : List ℕ = semis (2 * hash2 size mode) (second_hash size mode a) in
    let w = hash1-low size in
    let n = length-semis (2 * hash1 size) v in
    let p : 2 * hash1 size - 1 < length f = omega arith in
    let m = length-append f g in
    let k : 2 * hash1 size - 1 < length (f ++ g) = omega arith in
    let x : 2 * hash1 size - 1 < 2 * hash1 size = omega arith in
    ap (λ (x : ℕ). x / 4)
    (get_or-append (f ++ g) a 0 (2 * hash1 size - 1) k
    ∙ get_or-append f g 0 (2 * hash1 size - 1) p
    ∙ get_or-semis (2 * hash1 size) v (2 * hash1 size - 1) x)
    ∙ request-at size (first_hash size mode q a) q (first-lt size mode q a) l

pub rest-ordered : (size mode q : ℕ) (a : List ℕ) → rest_in size mode (ordered size mode q a) ≡ a
unfolding rest_in ordered
rest-ordered size mode q a = drop_at (heading size mode q a) a (heading_size size mode) (length-heading size mode q a)

front_ordered : (size mode q : ℕ) (a : List ℕ) → take (heading_size size mode) (ordered size mode q a) ≡ heading size mode q a
unfolding ordered
front_ordered size mode q a = take_at (heading size mode q a) a (heading_size size mode) (length-heading size mode q a)

pub matches-ordered : (size mode q : ℕ) (a : List ℕ) → q < 4 → Matches size mode (ordered size mode q a)
unfolding Matches
matches-ordered size mode q a l =
    ap₂ (heading size mode) (request-ordered size mode q a l) (rest-ordered size mode q a) ∙ sym (front_ordered size mode q a)

-- data with such a heading are those of its request and its rest
pub ordered-back : (size mode : ℕ) (t : List ℕ) → Matches size mode t → ordered size mode (request_in size t) (rest_in size mode t) ≡ t
unfolding Matches ordered rest_in
ordered-back size mode t m =
    ap (λ (l : List ℕ). l ++ drop (heading_size size mode) t) m ∙ take-append-drop (heading_size size mode) t

-- ---- the way back, of the data of a slot

pub request-lt : (size : ℕ) (t : List ℕ) → Below 16 t → request_in size t < 4
unfolding request_in
request-lt size t h = let a = h (2 * hash1 size - 1) in omega arith

pub below_rest : (size mode : ℕ) (t : List ℕ) → Below 16 t → Below 16 (rest_in size mode t)
unfolding rest_in
below_rest size mode t h = below-drop 16 (heading_size size mode) t h

pub length_rest : (size mode : ℕ) (t : List ℕ) → Data size mode t → length (rest_in size mode t) ≡ 2 * frame_size size mode
unfolding rest_in
length_rest size mode t d = let l = d.long in length-drop (heading_size size mode) t ∙ omega arith

pub sent-of : (size mode : ℕ) (s : List ℕ) → Data size mode s → Sent size mode (request_of size mode s) (frame_of size mode s)
unfolding request_of frame_of
sent-of size mode s d =
    let t = request_swapped size mode s in
    let m = data-request-swapped size mode s d in
    record {
      request = request-lt size t m.below;
      frame_bytes = bytes-rolled (frame_size size mode) (rest_in size mode t) (below_rest size mode t m.below);
    }

-- data whose heading matches are the data of the request and the frame read from them
pub data-back : (size mode : ℕ) (s : List ℕ) → InRange size mode → Data size mode s → Matches size mode (request_swapped size mode s)
    → data_of size mode (request_of size mode s) (frame_of size mode s) ≡ s
unfolding data_of request_of frame_of
data-back size mode s r d m =
    let t = request_swapped size mode s in
    let k = data-request-swapped size mode s d in
    ap (λ (a : List ℕ). request_swapped size mode (ordered size mode (request_in size t) a))
    (unrolled-rolled (frame_size size mode) (rest_in size mode t) (length_rest size mode t k) (below_rest size mode t k.below))
    ∙ ap (request_swapped size mode) (ordered-back size mode t m)
    ∙ request-swapped-twice size mode s r d

-- the data of a request and a frame give them back, and match
module _ (size mode q : ℕ) (frame : List ℕ) (range : InRange size mode) (sent : Sent size mode q frame) where
  unmixed : request_swapped size mode (data_of size mode q frame) ≡ ordered size mode q (unrolled (frame_size size mode) frame)
  unfolding data_of
  unmixed = request-swapped-twice size mode (ordered size mode q (unrolled (frame_size size mode) frame)) range
      (data-ordered size mode q frame)

  pub request-back : request_of size mode (data_of size mode q frame) ≡ q
  unfolding request_of
  request-back = ap (request_in size) unmixed ∙ request-ordered size mode q (unrolled (frame_size size mode) frame) sent.request

  pub frame_back : frame_of size mode (data_of size mode q frame) ≡ frame
  unfolding frame_of
  frame_back =
      ap (λ (t : List ℕ). rolled (frame_size size mode) (rest_in size mode t)) unmixed
      ∙ ap (rolled (frame_size size mode)) (rest-ordered size mode q (unrolled (frame_size size mode) frame))
      ∙ rolled-unrolled (frame_size size mode) frame sent.frame_bytes

  pub matches-back : Matches size mode (request_swapped size mode (data_of size mode q frame))
  matches-back = rw unmixed (matches-ordered size mode q (unrolled (frame_size size mode) frame) sent.request)
