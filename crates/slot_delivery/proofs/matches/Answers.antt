-- `slot_delivery::matches` meets its contract. Assumes nothing.
use native.Mathlib.Omega.{arith}
use lib.ListN.{drop}
use Rattle.slot_laws.proofs.Order.{request-lt}
use Rattle.slot_ordering.proofs.OrderSteps.{blank}
use Rattle.slot_delivery.proofs.HeadingSteps.{matches-told, rows-told}
use Rattle.slot_delivery.proofs.matches.Goals as goal

pub put_heading-requires-clause-settings : goal.put_heading-requires-clause-settings
put_heading-requires-clause-settings c =
    let q = request-lt c.args.size c.args.message.now c.requires.given.below in
    record { range = c.requires.range; request = omega (arith, q, c.requires.request) }

pub returns : goal.returns
returns c =
    let a = c.args in
    let h = c.heading_size-h in
    matches-told a.size a.mode a.request h.result a.message.now c.put_heading.new.out (drop h.result blank) c.requires.given h.ensures.is
    c.requires.request c.put_heading.ensures (rows-told _ _ c.eq.ensures)
