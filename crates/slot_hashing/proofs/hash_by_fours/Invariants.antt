-- `slot_hashing::hash_by_fours` meets its contract. The invariant of its loop stands at the head. Assumes nothing.
use Rattle.std.specs.Iterator.Adapters.{rev_source}
use Rattle.std.specs.List.{concat}
use Rattle.std.specs.Slice.Iter.{iter_rest}
use Rattle.slot_hashing.proofs.HashSteps.{Hashed}
use Prim.Native.Nat.{◌<◌, ◌^◌}
use Rattle.slot_hashing.proofs.hash_by_fours.Given as goal

abbrev pub invariant-loop-four : goal.invariant-loop-four
invariant-loop-four l =
    Hashed l.by.bits l.by.degree l.s (concat (iter_rest (rev_source l.four-iterator))) l.r × (l.r < 2 ^ l.by.degree)
