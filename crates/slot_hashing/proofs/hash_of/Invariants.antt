-- `slot_hashing::hash_of` meets its contract. The invariant of its loop stands at the head. Assumes nothing.
use Rattle.std.specs.Iterator.Adapters.{rev_source}
use Rattle.std.specs.Slice.Iter.{iter_rest}
use Rattle.slot_hashing.proofs.HashSteps.{Hashed}
use Prim.Native.Nat.{◌<◌, ◌^◌}
use Rattle.slot_hashing.proofs.hash_of.Given as goal

abbrev pub invariant-loop-c : goal.invariant-loop-c
invariant-loop-c l = Hashed l.by.bits l.by.degree l.s (iter_rest (rev_source l.c-iterator)) l.r × (l.r < 2 ^ l.by.degree)
