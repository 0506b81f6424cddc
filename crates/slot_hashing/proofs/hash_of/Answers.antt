-- `slot_hashing::hash_of` meets its contract. The invariant of its loop stands at the head. Assumes nothing.
use Rattle.slot_hashing.proofs.HashSteps.{hashed-first, hashed-next}
use lib.Pow.{pow_pos}
use Rattle.slot_hashing.proofs.hash_of.Goals as goal

pub loop-c-init : goal.loop-c-init
loop-c-init c = (hashed-first cc, pow_pos c.args.by.now.degree)

pub loop-c-preserved : goal.loop-c-preserved
loop-c-preserved c = let e = c.push_semi-r.ensures in
    (hashed-next c.in-Some.c.now _ _ c.loop-c.invariant.0 c.in-Some.ensures.steps e.value, e.upper_bound)
