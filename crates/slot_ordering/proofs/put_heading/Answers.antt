-- `slot_ordering::put_heading` meets its contract. Assumes nothing.
use Rattle.slot_ordering.proofs.OrderSteps.{heading-is}
use native.Mathlib.Omega.{arith}
use Prim.Native.Nat.{◌+◌, ◌*◌}
use Rattle.slot_ordering.proofs.put_heading.Goals as goal

pub returns : goal.returns
returns c =
    let a = c.args in
    heading-is a.size a.mode a.request (2 * c.first_hash_size-e.result) a.a.now a.out.now
    c.put_semis.new.out c.put_semis-2.new.out (c.first_hash.result + c.raised.result) _
    (omega (arith, c.first_hash_size-e.ensures.value)) c.requires.heading_room.room
    (omega (arith, c.first_hash.ensures.value, c.raised.ensures.value)) c.second_hash.ensures
    c.put_semis.ensures c.put_semis-2.ensures
