-- The frames of a batch are no longer than its slots. Assumes nothing.
use mathlib.Core.Path.{◌≡◌, ap}
use Prim.Native.Nat.{ℕ, ◌*◌, ◌/◌, ◌≤◌}
use native.Mathlib.Omega.{arith}
use native.Mathlib.Nat.{div-add-mod', mul-le-mul_left}
use Rattle.slot_laws.specs.Sizes.{frame_size}

-- a frame is no longer than its slot
pub frame-within : (size mode : ℕ) → frame_size size mode ≤ size
unfolding frame_size
frame-within size mode = omega arith

-- the frames of so many slots are no longer than the slots
pub frames-few : (slots numbers size f : ℕ) → slots / size ≡ numbers → f ≤ size → numbers * f ≤ slots
frames-few slots numbers size f q l =
    let d = div-add-mod' slots size in
    let m : slots / size * size ≡ numbers * size = ap (λ (x : ℕ). x * size) q in
    let n = mul-le-mul_left numbers l in
    omega arith
