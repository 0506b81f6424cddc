-- `slot_ordering::arrange` meets its contract. Assumes nothing.
use Rattle.slot_ordering.proofs.OrderSteps.{arranged, data-arranged, data_is, frame-fits}
use native.Mathlib.Omega.{arith}
use Rattle.slot_laws.specs.Order.{unrolled, ordered}
use Rattle.slot_laws.specs.Sizes.{frame_size}
use mathlib.Core.Path.{◌≡◌}
use Rattle.slot_ordering.proofs.arrange.Goals as goal
use Rattle.slot_ordering.proofs.arrange.Goals.{After-put_in_front}

-- the heading and the frame's semi-octets stand in order
in-order : (c : After-put_in_front) → c.put_in_front.new.out ≡ ordered c.args.size c.args.mode c.args.request
    (unrolled (frame_size c.args.size c.args.mode) c.args.frame.now)
in-order c =
    let a = c.args in
    arranged a.size a.mode a.request c.heading_size-h.result a.frame.now a.out.now c.unroll.new.out c.put_in_front.new.out
    c.heading_size-h.ensures.is (omega (arith, c.requires.data_room.room, c.heading_size-h.ensures.is)) c.requires.data_room.frame_long
    c.unroll.ensures c.put_in_front.ensures

pub unroll-requires-clause-frame_len_bound : goal.unroll-requires-clause-frame_len_bound
unroll-requires-clause-frame_len_bound c =
    omega (arith, c.requires.data_room.frame_long, frame-fits c.args.size c.args.mode c.requires.settings.range)

pub swap_request-requires-clause-fact : goal.swap_request-requires-clause-fact
swap_request-requires-clause-fact c =
    let a = c.args in
    data-arranged a.size a.mode a.request a.frame.now c.put_in_front.new.out
    (in-order (goal.at.swap_request-requires-clause-fact c).After-put_in_front)

pub returns : goal.returns
returns c =
    let a = c.args in
    data_is a.size a.mode a.request a.frame.now c.put_in_front.new.out c.swap_request.new.s
    (in-order (goal.at.returns c).After-put_in_front) c.swap_request.ensures
