-- `day_sample::air::change` is safe. The invariant: the slot keeps its length. Assumes nothing.
use mathlib.Core.Path.{◌≡◌}
use lib.ListN.{length}
use Rattle.day_sample.proofs.air.change.Given as goal

abbrev pub invariant-loop-p : goal.invariant-loop-p
invariant-loop-p l = length l.slot ≡ length l.initial.slot
