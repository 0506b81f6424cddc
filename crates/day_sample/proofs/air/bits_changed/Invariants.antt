-- `day_sample::air::bits_changed` is safe. The invariant: no change has more bits than a byte. Assumes nothing.
use Prim.Native.Nat.{◌≤◌, ◌*◌}
use Rattle.day_sample.proofs.air.bits_changed.Given as goal

abbrev pub invariant-loop-p : goal.invariant-loop-p
invariant-loop-p l = l.bits ≤ 8 * l.p
