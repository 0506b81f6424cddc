-- `slot_hashing::second_hash` meets its contract. Assumes nothing.
use Rattle.slot_hashing.proofs.HashSteps.{second_is}
use Rattle.slot_hashing.specs.Inner.{steps_of, step_at, lifted}
use Rattle.slot_laws.specs.Hash.{pushed}
use Rattle.gf16.specs.Field.{sum}
use Rattle.laws.specs.Tab.{tab}
use mathlib.Core.Path.{refl}
use native.Mathlib.Omega.{arith}
use Prim.Native.Nat.{◌*◌, ◌-◌}
use borrow.Author.Rules.{rules}
use Rattle.slot_hashing.proofs.second_hash.Goals as goal

pub hash_by_fours-requires : goal.hash_by_fours-requires
unfolding steps_of step_at lifted pushed sum tab
hash_by_fours-requires c = record { divisor = search rules; from = search rules; table = refl }

pub returns : goal.returns
returns c =
    let a = c.args in
    let e = 2 * c.frame_bytes.result - c.conceal_size.result in
    second_is a.size a.mode e a.a.now c.hash_by_fours.result (omega arith) c.hash_by_fours.ensures.value
