-- `slot_ordering::unroll` meets its contract. The invariant of its loop stands at the head. Assumes nothing.
use Rattle.slot_ordering.proofs.OrderSteps.{unroll-next, unrolled-is}
use lib.ListN.{length, get_or}
use native.Mathlib.Omega.{arith}
use mathlib.Core.Path.{refl}
use Prim.Native.Nat.{◌-◌}
use Rattle.slot_ordering.proofs.unroll.Goals as goal

pub loop-k-preserved : goal.loop-k-preserved
loop-k-preserved c =
    let f = c.args.frame.now in
    let g = unroll-next f c.loop-k.out c.loop-k.k (get_or f (length f - 1 - c.loop-k.k) 0) (omega arith)
    (c.type_inv.frame (length f - 1 - c.loop-k.k)).fits refl c.loop-k.invariant.1 in
    (g.long, g)

pub returns : goal.returns
returns c =
    let f = c.args.frame.now in
    unrolled-is f c.loop-k.out c.loop-k.k (omega arith) c.loop-k.invariant.1
