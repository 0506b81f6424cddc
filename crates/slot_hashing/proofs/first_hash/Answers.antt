-- `slot_hashing::first_hash` meets its contract. Assumes nothing.
use Rattle.slot_hashing.proofs.HashSteps.{first-forty, first-other}
use Rattle.slot_hashing.specs.Inner.{steps_of, step_at, lifted}
use Rattle.slot_laws.specs.Hash.{pushed}
use Rattle.gf16.specs.Field.{sum}
use Rattle.laws.specs.Tab.{tab}
use native.Mathlib.Omega.{arith}
use Prim.Native.Nat.{◌*◌, ◌-◌}
use mathlib.Core.Path.{refl}
use borrow.Author.Rules.{rules}
use Rattle.slot_hashing.proofs.first_hash.Goals as goal

pub hash_by_fours-requires : goal.hash_by_fours-requires
unfolding steps_of step_at lifted pushed sum tab
hash_by_fours-requires c = record { divisor = search rules; from = search rules; table = refl }

pub hash_by_fours-requires-in_default : goal.hash_by_fours-requires-in_default
unfolding steps_of step_at lifted pushed sum tab
hash_by_fours-requires-in_default c = record { divisor = search rules; from = search rules; table = refl }

pub returns-in-40-clause-value : goal.returns-in-40-clause-value
returns-in-40-clause-value c = let a = c.args in
    let e = 2 * c.frame_bytes.result - c.conceal_size.result in
    first-forty a.size a.mode a.request e a.a.now c.hash_by_fours.result c.with_request.result (omega arith) (omega arith)
    c.hash_by_fours.ensures.value c.with_request.ensures.value

pub returns-in_default-clause-value : goal.returns-in_default-clause-value
returns-in_default-clause-value c = let a = c.args in
    let e = 2 * c.frame_bytes.result - c.conceal_size.result in
    first-other a.size a.mode a.request e a.a.now c.hash_by_fours-in_default.result c.with_request-in_default.result
    (λ y. omega arith) (omega arith) c.hash_by_fours-in_default.ensures.value c.with_request-in_default.ensures.value
