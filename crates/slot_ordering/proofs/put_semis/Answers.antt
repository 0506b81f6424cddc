-- `slot_ordering::put_semis` meets its contract. The invariant of its loop stands at the head. Assumes nothing.
use Rattle.slot_ordering.proofs.OrderSteps.{left-next, semis-next, semis-is}
use lib.ListN.{length}
use native.Mathlib.Omega.{arith}
use Rattle.slot_ordering.proofs.put_semis.Goals as goal

pub loop-c-preserved : goal.loop-c-preserved
loop-c-preserved c =
    let a = c.args in
    let l = c.loop-c in (
      left-next a.v l.left l.c-index l.invariant.0,
      semis-next a.v l.left (length a.out.now) l.c-index l.out l.invariant.0 (omega arith) l.invariant.1,
    )

pub returns : goal.returns
returns c =
    let a = c.args in
    semis-is a.v (length a.out.now) c.loop-c.c-index c.loop-c.out (omega arith) c.loop-c.invariant.1
