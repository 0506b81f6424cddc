-- `slot_interleaving::pack_bytes` meets its contract. The invariant of its loop stands at the head. Assumes nothing.
use Rattle.slot_interleaving.proofs.PlaceSteps.{pack-is}
use lib.ListN.{length, get_or}
use native.Mathlib.Omega.{arith}
use Prim.Native.Nat.{ℕ}
use Rattle.slot_interleaving.proofs.pack_bytes.Goals as goal

pub returns : goal.returns
returns c =
    let a = c.args in
    pack-is (λ (p : ℕ). get_or a.places.now p 0) (length a.slot.now) c.loop-j.j c.loop-j.slot (omega arith) c.loop-j.invariant
