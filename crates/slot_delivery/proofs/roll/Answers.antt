-- `slot_delivery::roll` meets its contract. The invariant of its loop stands at the head. Assumes nothing.
use Rattle.slot_delivery.proofs.HeadingSteps.{rolled-is}
use Rattle.laws.proofs.Fill.{filled-first, filled_next}
use lib.ListN.{length}
use native.Mathlib.Omega.{arith}
use mathlib.Core.Path.{refl}
use Rattle.slot_delivery.proofs.roll.Invariants.{byte_at}
use Rattle.slot_delivery.proofs.roll.Goals as goal

pub loop-j-init : goal.loop-j-init
loop-j-init c =
    let a = c.args in
    let n = length a.frame.now in
    filled-first (byte_at a.a.now n) n a.frame.now refl

pub loop-j-preserved : goal.loop-j-preserved
loop-j-preserved c =
    let a = c.args in
    let n = length a.frame.now in
    filled_next (byte_at a.a.now n) n c.loop-j.j c.loop-j.frame _ c.loop-j.invariant (omega arith) refl

pub returns : goal.returns
returns c =
    let a = c.args in
    rolled-is a.a.now (length a.frame.now) c.loop-j.j c.loop-j.frame (omega arith) c.loop-j.invariant
