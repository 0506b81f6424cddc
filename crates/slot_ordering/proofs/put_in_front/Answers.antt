-- `slot_ordering::put_in_front` meets its contract. Assumes nothing.
use Rattle.slot_ordering.proofs.OrderSteps.{blank, front-is}
use lib.ListN.{drop}
use Rattle.slot_ordering.proofs.put_in_front.Goals as goal

pub returns : goal.returns
returns c =
    let a = c.args in
    front-is a.size a.mode a.request c.heading_size-h.result a.out.now c.put_heading.new.out c.copy.new.to
    (drop c.heading_size-h.result blank) c.heading_size-h.ensures.is c.requires.out_len c.put_heading.ensures
    c.copy.ensures
