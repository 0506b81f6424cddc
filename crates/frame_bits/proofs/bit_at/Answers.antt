-- `frame_bits::bit_at` meets its contract. Assumes nothing.
use native.Mathlib.Omega.{arith}
use Rattle.frame_bits.proofs.bit_at.Goals as goal

pub returns : goal.returns
returns c = record {
  value = rw c.from.ensures;
  upper_bound = omega arith;
}
