-- `slot_sizes::conceal_size` meets its contract. The invariant of its loop stands at the head. Assumes nothing.
use Rattle.slot_laws.specs.Sizes.{block}
use mathlib.Core.Path.{◌≡◌}
use Prim.Native.Nat.{◌*◌, ◌≤◌}
use Rattle.slot_sizes.proofs.conceal_size.Given as goal

abbrev pub invariant-loop-k : goal.invariant-loop-k
invariant-loop-k l = (l.sum ≤ 15 * l.k) × (l.sum ≡ block l.size l.mode l.k)
