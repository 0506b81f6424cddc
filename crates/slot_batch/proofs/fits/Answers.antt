-- `slot_batch::fits` meets its contract. Assumes nothing.
use Prim.Native.Nat.{◌≤◌}
use native.Mathlib.Omega.{arith}
use Rattle.slot_batch.proofs.Lengths.{frame-within, frames-few}
use Rattle.slot_batch.proofs.fits.Goals as goal

pub overflow_mul-numbers : goal.overflow_mul-numbers
overflow_mul-numbers c =
    let a = c.args in
    let w = frame-within a.size a.mode in
    let l : c.frame_bytes.result ≤ a.size = omega (arith, c.frame_bytes.ensures.value) in
    let n = frames-few a.slots a.numbers a.size c.frame_bytes.result c.if-slots-size.true l in
    record { fits = omega arith }
