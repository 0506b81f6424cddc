-- What the code of the order asks: turns of the loops that write the frame's semi-octets and those of a number, and a heading in two parts.
-- Assumes nothing.
use mathlib.Core.Path.{◌≡◌, sym, ap, ap₂, ◌∙◌}
use mathlib.Core.List.{List, [], ◌∷◌, ◌++◌, append-nil}
use Prim.Native.Nat.{ℕ, ◌+◌, ◌*◌, ◌-◌, ◌/◌, ◌%◌, ◌^◌, ◌≤◌, ◌<◌}
use native.Mathlib.Omega.{arith}
use native.Mathlib.Nat.{div-div-eq-div-mul, pow-suc}
use native.Mathlib.Numerals.{add-one}
use lib.ListN.{length, get_or, take, drop, set, length-append, length-drop, drop_of_length-le}
use lib.Seq.{length-take-le, take_at, drop_at, take_all}
use borrow.Rule.Slice.PartMut.{mid_of, put_mid}
use Rattle.laws.proofs.Tab.{tab-is}
use Rattle.laws.proofs.Fill.{Filled, filled_next, filled-last}
use Rattle.code_word_laws.specs.Word.{distance}
use Rattle.slot_laws.specs.Sizes.{InRange, word_length, hash1, hash2, frame_size, heading_size, data_size}
use Rattle.slot_laws.specs.Semi.{half, semi}
use Rattle.slot_laws.specs.Order.{unrolled, semis, heading, ordered, swapped, request_swapped, data_of, first_hash, second_hash, Data}
use Rattle.slot_laws.proofs.Order.{length-semis, get_or-semis, length-heading, data-ordered}
use Rattle.slot_laws.proofs.Sizes.{swap-apart, swap-in, sizes}
use Rattle.slot_sizes.proofs.SizeSteps.{hash1-forty, hash1-other}
use Rattle.slot_ordering.specs.Room.{TwoPlaces}

-- ---- the frame's semi-octets

-- the semi-octet at place k of the frame turned round
unfoldable pub turned : List ℕ → ℕ → ℕ
turned frame k = semi frame (2 * length frame - 1 - k)

pub unrolled-is : (frame out : List ℕ) (k : ℕ) → length frame ≤ k → Filled (turned frame) (2 * length frame) (2 * k) out
    → out ≡ unrolled (length frame) frame
unfolding unrolled turned
unrolled-is frame out k h f = filled-last (turned frame) (2 * length frame) (2 * k) out f (omega arith)

turned-even : (frame : List ℕ) (k : ℕ) → k < length frame → get_or frame (length frame - 1 - k) 0 < 256
    → get_or frame (length frame - 1 - k) 0 / 16 ≡ turned frame (2 * k)
unfolding turned semi half
turned-even frame k h l =
    let a : (2 * length frame - 1 - 2 * k) % 2 ≡ 1 = omega arith in
    let b : (2 * length frame - 1 - 2 * k) / 2 ≡ length frame - 1 - k = omega arith in
    rw (a, b) (omega arith)

turned-odd : (frame : List ℕ) (k : ℕ) → k < length frame → get_or frame (length frame - 1 - k) 0 % 16 ≡ turned frame (2 * k + 1)
unfolding turned semi half
turned-odd frame k h =
    let a : (2 * length frame - 1 - (2 * k + 1)) % 2 ≡ 0 = omega arith in
    let b : (2 * length frame - 1 - (2 * k + 1)) / 2 ≡ length frame - 1 - k = omega arith in
    rw (a, b)

pub unroll-next : (frame out : List ℕ) (k b : ℕ) → k < length frame → b < 256 → b ≡ get_or frame (length frame - 1 - k) 0
    → Filled (turned frame) (2 * length frame) (2 * k) out
    → Filled (turned frame) (2 * length frame) (2 * (k + 1)) (set (set out (2 * k) (b / 16)) (2 * k + 1) (b % 16))
unroll-next frame out k b h l e f =
    let m : get_or frame (length frame - 1 - k) 0 < 256 = omega arith in
    let x : b / 16 ≡ turned frame (2 * k) = ap (λ (v : ℕ). v / 16) e ∙ turned-even frame k h m in
    let y : b % 16 ≡ turned frame (2 * k + 1) = ap (λ (v : ℕ). v % 16) e ∙ turned-odd frame k h in
    let g = filled_next (turned frame) (2 * length frame) (2 * k) out (b / 16) f (omega arith) x in
    let i : 2 * k + 1 < 2 * length frame = omega arith in
    let n : 2 * k + 1 + 1 ≡ 2 * (k + 1) = omega arith in
    rw n at (filled_next (turned frame) (2 * length frame) (2 * k + 1) (set out (2 * k) (b / 16)) (b % 16) g i y)

-- ---- the semi-octets of a number

unfoldable pub digit : ℕ → ℕ → ℕ
digit v k = v / 16 ^ k % 16

pub semis-is : (v n i : ℕ) (out : List ℕ) → n ≤ i → Filled (digit v) n i out → out ≡ semis n v
unfolding digit
semis-is v n i out h f =
    filled-last (digit v) n i out f h ∙ tab-is (digit v) n (semis n v) (length-semis n v) (λ k p. sym (get_or-semis n v k p))

pub left-next : (v left i : ℕ) → left ≡ v / 16 ^ i → left / 16 ≡ v / 16 ^ (i + 1)
left-next v left i e =
    let p : 16 ^ (i + 1) ≡ 16 ^ i * 16 = ap (λ (x : ℕ). 16 ^ x) (add-one i) ∙ pow-suc 16 i in
    ap (λ (x : ℕ). x / 16) e ∙ div-div-eq-div-mul v (16 ^ i) 16 ∙ ap (λ (x : ℕ). v / x) (sym p)

pub semis-next : (v left n i : ℕ) (out : List ℕ) → left ≡ v / 16 ^ i → i < n → Filled (digit v) n i out
    → Filled (digit v) n (i + 1) (set out i (left % 16))
unfolding digit
semis-next v left n i out e h f = filled_next (digit v) n i out (left % 16) f h (ap (λ (x : ℕ). x % 16) e)

-- ---- the heading

pub raised-forty : (size q : ℕ) → size ≡ 40 → q * 16384 ≡ q * 2 ^ (8 * hash1 size - 2)
raised-forty size q e = rw (hash1-forty size e)

pub raised-other : (size q : ℕ) → (size ≡ 40 → ⊥) → q * 4194304 ≡ q * 2 ^ (8 * hash1 size - 2)
raised-other size q n = rw (hash1-other size n)

-- a list written in two parts, the front and the rest
pub put_two : (e : ℕ) (front rest old : List ℕ) → length front ≡ e
    → put_mid e (length (front ++ drop e old) - e) (front ++ drop e old) rest ≡ front ++ rest
put_two e front rest old h =
    let n = length-append front (drop e old) in
    let l : length (drop e old) ≤ length (front ++ drop e old) - e = omega arith in
    let x : drop (length (front ++ drop e old) - e) (drop e (front ++ drop e old)) ≡ [] =
    ap (drop (length (front ++ drop e old) - e)) (drop_at front (drop e old) e h)
    ∙ drop_of_length-le (drop e old) {i = length (front ++ drop e old) - e} l in
    ap₂ (λ (s t : List ℕ). s ++ (rest ++ t)) (take_at front (drop e old) e h) x ∙ ap (λ (t : List ℕ). front ++ t) (append-nil rest)

rest-long : (e n : ℕ) (front old : List ℕ) → length front ≡ e → e ≤ length old → length old ≡ e + n
    → length (mid_of e (length (front ++ drop e old) - e) (front ++ drop e old)) ≡ n
rest-long e n front old h l k =
    let a = length-append front (drop e old) in
    let d = length-drop e old in
    let f = length-drop e (front ++ drop e old) in
    length-take-le (length (front ++ drop e old) - e) (drop e (front ++ drop e old)) (omega arith) ∙ omega arith

pub heading-is : (size mode q e : ℕ) (a out front rest : List ℕ) (v w : ℕ) → e ≡ 2 * hash1 size → length out ≡ heading_size size mode
    → v ≡ first_hash size mode q a + q * 2 ^ (8 * hash1 size - 2) → w ≡ second_hash size mode a
    → front ≡ semis (length (take e out)) v → rest ≡ semis (length (mid_of e (length (front ++ drop e out) - e) (front ++ drop e out))) w
    → put_mid e (length (front ++ drop e out) - e) (front ++ drop e out) rest ≡ heading size mode q a
unfolding heading
heading-is size mode q e a out front rest v w h k f g x y =
    let t : length (take e out) ≡ e = length-take-le e out (omega arith) in
    let l : length front ≡ e = ap (λ (s : List ℕ). length s) x ∙ length-semis (length (take e out)) v ∙ t in
    let r = rest-long e (2 * hash2 size mode) front out l (omega arith) (omega arith) in
    put_two e front rest out l
    ∙ ap₂ (λ (s t : List ℕ). s ++ t) (x ∙ ap₂ semis (t ∙ h) f) (y ∙ ap₂ semis r g)

-- ---- the swap

pub swap-request-inside : (size mode a l d : ℕ) (s : List ℕ) → InRange size mode → Data size mode s → a ≡ hash1 size
    → l ≡ word_length size 0 → d ≡ distance mode → TwoPlaces s (2 * a - 1) (l - d)
swap-request-inside size mode a l d s r t e f g =
    let x = swap-apart size mode r in
    let y = swap-in size mode r in
    let z = t.long in
    record { first = omega arith; second = omega arith; below = t.below }

pub request-swapped-is : (size mode a l d : ℕ) (s new : List ℕ) → a ≡ hash1 size → l ≡ word_length size 0 → d ≡ distance mode
    → new ≡ swapped (2 * a - 1) (l - d) s → new ≡ request_swapped size mode s
unfolding request_swapped
request-swapped-is size mode a l d s new e f g h = h ∙ rw (e, f, g)

-- ---- the heading put in front

abbrev pub blank : List ℕ
blank = 0 ∷ 0 ∷ 0 ∷ 0 ∷ 0 ∷ 0 ∷ 0 ∷ 0 ∷ 0 ∷ 0 ∷ []

pub rest-is : (n h : ℕ) (out : List ℕ) → length out ≡ h + n → length (take (length out - h) (drop h out)) ≡ n
rest-is n h out e =
    let d = length-drop h out in
    length-take-le (length out - h) (drop h out) (omega arith) ∙ omega arith

pub front-is : (size mode q h : ℕ) (out head last rest : List ℕ) → h ≡ heading_size size mode
    → length out ≡ data_size size mode → head ≡ heading size mode q (take (length out - h) (drop h out))
    → last ≡ take h (head ++ rest)
    → last ++ drop h out ≡ ordered size mode q (drop (heading_size size mode) out)
unfolding ordered
front-is size mode q h out head last rest e l f g =
    let d = length-drop h out in
    let t : take (length out - h) (drop h out) ≡ drop h out = take_all (length out - h) (drop h out) (omega arith) in
    let k : length head ≡ h = ap (λ (x : List ℕ). length x) f ∙ length-heading size mode q (take (length out - h) (drop h out)) ∙ sym e in
    let x : last ≡ heading size mode q (drop h out) =
    g ∙ take_at head rest h k ∙ f ∙ ap (heading size mode q) t in
    ap (λ (y : List ℕ). y ++ drop h out) x ∙ ap (λ (m : ℕ). heading size mode q (drop m out) ++ drop m out) e

-- ---- the data

behind : (h : ℕ) (out last : List ℕ) → h ≤ length out → drop h (put_mid h (length out - h) out last) ≡ last
behind h out last l =
    let d = length-drop h out in
    let z : drop (length out - h) (drop h out) ≡ [] = drop_of_length-le (drop h out) {i = length out - h} (omega arith) in
    drop_at (take h out) (last ++ drop (length out - h) (drop h out)) h (length-take-le h out l) ∙ ap (λ (t : List ℕ). last ++ t) z
    ∙ append-nil last

pub arranged : (size mode q h : ℕ) (frame out last front : List ℕ) → h ≡ heading_size size mode → h ≤ length out
    → length frame ≡ frame_size size mode
    → last ≡ unrolled (length frame) frame
    → front ≡ ordered size mode q (drop (heading_size size mode) (put_mid h (length out - h) out last))
    → front ≡ ordered size mode q (unrolled (frame_size size mode) frame)
arranged size mode q h frame out last front e l n u f =
    f ∙ ap (λ (m : ℕ). ordered size mode q (drop m (put_mid h (length out - h) out last))) (sym e)
    ∙ ap (ordered size mode q) (behind h out last l ∙ u ∙ ap (λ (m : ℕ). unrolled m frame) n)

pub data-arranged : (size mode q : ℕ) (frame front : List ℕ) → front ≡ ordered size mode q (unrolled (frame_size size mode) frame)
    → Data size mode front
data-arranged size mode q frame front e = rw e (data-ordered size mode q frame)

pub data_is : (size mode q : ℕ) (frame front new : List ℕ) → front ≡ ordered size mode q (unrolled (frame_size size mode) frame)
    → new ≡ request_swapped size mode front
    → new ≡ data_of size mode q frame
unfolding data_of
data_is size mode q frame front new e f = f ∙ ap (request_swapped size mode) e

pub frame-fits : (size mode : ℕ) → InRange size mode → frame_size size mode ≤ 400
frame-fits size mode r = let s = sizes size mode r in let t = r.size_to in omega arith
