-- `slot_clean::unpack` meets its contract. The invariant of its loop stands at the head. Assumes nothing.
use Prim.Native.Nat.{◌*◌}
use native.Mathlib.Omega.{arith}
use lib.ListN.{length}
use Rattle.slot_clean.proofs.Unpacking.{unpacked-next, unpacked-last}
use Rattle.slot_clean.proofs.unpack.Goals as goal

pub loop-j-preserved : goal.loop-j-preserved
loop-j-preserved c =
    let a = c.args in
    unpacked-next a.slot.now (length a.places.now) c.loop-j.j c.loop-j.places c.loop-j.invariant
    (omega (arith, c.requires.places_len)) (c.type_inv.slot c.loop-j.j).fits

pub returns : goal.returns
returns c =
    let a = c.args in
    unpacked-last a.slot.now (length a.places.now) (2 * c.loop-j.j) c.loop-j.places c.requires.places_len
    (omega (arith, c.requires.places_len)) c.loop-j.invariant
