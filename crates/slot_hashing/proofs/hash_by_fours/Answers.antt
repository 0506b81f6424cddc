-- `slot_hashing::hash_by_fours` meets its contract. The invariant of its loop stands at the head. Assumes nothing.
use mathlib.Core.Path.{◌≡◌}
use Prim.Native.Nat.{◌/◌}
use lib.ListN.{length}
use Rattle.std.specs.Iterator.Adapters.{rev_source}
use Rattle.std.specs.Simd.{first_chunks}
use Rattle.std.specs.Slice.Iter.{iter_rest}
use Rattle.slot_hashing.proofs.HashSteps.{hashed-fours, hashed-next-four}
use Rattle.slot_hashing.proofs.hash_by_fours.Goals as goal

pub loop-four-init : goal.loop-four-init
loop-four-init c =
    let e : iter_rest (rev_source c.into_iter-four-iterator.result) ≡ first_chunks 4 (length c.args.s.now / 4) c.args.s.now = cc in
    (hashed-fours _ e c.as_chunks.ensures.back c.hash_of-r.ensures.value, c.hash_of-r.ensures.upper_bound)

pub loop-four-preserved : goal.loop-four-preserved
loop-four-preserved c = let e = c.push_four-r.ensures in
    (hashed-next-four c.in-Some.four.now _ _ e.four_len c.loop-four.invariant.0 c.in-Some.ensures.steps e.value, e.upper_bound)
