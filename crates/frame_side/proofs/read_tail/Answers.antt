-- `frame_side::read_tail` meets its contract. No field leaves the frame. Assumes nothing.
use native.Mathlib.Omega.{arith}
use Rattle.frame_bits.specs.Fields.{read_list}
use Rattle.frame_side.specs.Side.{tail_of}
use Rattle.frame_side.proofs.read_tail.Goals as goal

pub returns : goal.returns
unfolding tail_of read_list
returns c = record {
  found = rw (c.read_bits-filter_flag.ensures.found, c.read_bits-pitch_index.ensures.found, c.read_bits-noise_level.ensures.found);
  next = omega arith;
}
