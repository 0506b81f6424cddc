-- What the code that delivers a frame asks: two rows compared, the heading made anew beside the one that was sent, and the frame put
-- together.
-- Assumes nothing.
use mathlib.Core.Path.{◌≡◌, sym, ap, ap₂, ◌∙◌}
use mathlib.Core.Bool.{Bool, true≢false}
use mathlib.Core.List.{List, ◌++◌}
use Prim.Native.Nat.{ℕ, ◌+◌, ◌*◌, ◌-◌, ◌/◌, ◌≤◌}
use native.Mathlib.Omega.{arith}
use lib.Dec.{eqb}
use lib.Pointwise.{pointwise, bytes_decides}
use lib.ListN.{length, get_or, take, drop, length-drop}
use lib.Seq.{take_all, take_at}
use Rattle.laws.specs.Decides.{Decides}
use Rattle.laws.proofs.Fill.{Filled}
use Rattle.slot_laws.specs.Sizes.{hash1, frame_size, heading_size}
use Rattle.slot_laws.specs.Order.{heading, request_swapped, Data}
use Rattle.slot_laws.specs.Back.{rolled, request_in, rest_in, Matches}
use Rattle.slot_laws.proofs.Order.{length-heading, data-request-swapped}
use Rattle.slot_interleaving.proofs.PlaceSteps.{pack-is}

-- ---- the frame

pub rolled-is : (a : List ℕ) (n k : ℕ) (frame : List ℕ) → n ≤ k
    → Filled (λ j. get_or a (2 * n - 1 - 2 * j) 0 + 16 * get_or a (2 * n - 1 - (2 * j + 1)) 0) n k frame → frame ≡ rolled n a
unfolding rolled
rolled-is a n k frame h f = pack-is (λ p. get_or a (2 * n - 1 - p) 0) n k frame h f

-- ---- two rows compared

-- what the comparison tells
pub rows-told : (a b : List ℕ) {r : Bool} → r ≡ pointwise eqb a b → Decides (a ≡ b) r
rows-told a b e =
    let d = bytes_decides a b in
    record { holds = λ t. d.0 (sym e ∙ t); fails = λ f p. true≢false (sym (d.1 p) ∙ sym e ∙ f) }

decides-as : {P Q : Type 0} {r : Bool} → (P → Q) → (Q → P) → Decides P r → Decides Q r
decides-as f g d = record { holds = λ e. f (d.holds e); fails = λ e q. d.fails e (g q) }

-- the heading made anew, compared with the one that was sent
pub matches-told : (size mode q h : ℕ) (message head rest : List ℕ) {r : Bool} → Data size mode message
    → h ≡ heading_size size mode → q ≡ request_in size message
    → head ≡ heading size mode q (take (length message - h) (drop h message))
    → Decides (take h (head ++ rest) ≡ take h message) r → Decides (Matches size mode message) r
unfolding Matches rest_in
matches-told size mode q h message head rest d e k f =
    let n = length-drop h message in
    let t : take (length message - h) (drop h message) ≡ drop h message = take_all (length message - h) (drop h message) (omega arith) in
    let l : length head ≡ h = ap (λ (x : List ℕ). length x) f ∙ length-heading size mode q (take (length message - h) (drop h message))
    ∙ sym e in
    let x : take h (head ++ rest) ≡ heading size mode (request_in size message) (drop (heading_size size mode) message) =
    take_at head rest h l ∙ f ∙ ap₂ (heading size mode) k (t ∙ ap (λ (m : ℕ). drop m message) e) in
    let y : take h message ≡ take (heading_size size mode) message = ap (λ (m : ℕ). take m message) e in
    decides-as (λ p. sym x ∙ p ∙ y) (λ p. x ∙ p ∙ sym y)

-- the frame as the code rolls it
pub delivered-frame : (size mode h : ℕ) (order old new : List ℕ) → length old ≡ frame_size size mode → h ≡ heading_size size mode
    → new ≡ rolled (length old) (take (length order - h) (drop h order)) → new ≡ rolled (frame_size size mode) (rest_in size mode order)
unfolding rest_in
delivered-frame size mode h order old new l k g =
    let d = length-drop h order in
    let t : take (length order - h) (drop h order) ≡ drop h order = take_all (length order - h) (drop h order) (omega arith) in
    g ∙ ap₂ rolled l (t ∙ ap (λ (n : ℕ). drop n order) k)

-- ---- the answer

-- the request as the code reads it
pub request-is : (size f : ℕ) (order : List ℕ) → f ≡ hash1 size → get_or order (2 * f - 1) 0 / 4 ≡ request_in size order
unfolding request_in
request-is size f order e = ap (λ (x : ℕ). get_or order (2 * x - 1) 0 / 4) e

pub data-unmixed : (size mode : ℕ) (message order : List ℕ) → Data size mode message → order ≡ request_swapped size mode message
    → Data size mode order
data-unmixed size mode message order d e = rw e (data-request-swapped size mode message d)
