-- `frame_side::read_flags` meets its contract. No field leaves the frame. Assumes nothing.
use native.Mathlib.Omega.{arith}
use Rattle.frame_bits.specs.Fields.{read_list}
use Rattle.frame_side.specs.Side.{flags_of}
use Rattle.frame_side.proofs.read_flags.Goals as goal

pub returns : goal.returns
unfolding flags_of read_list
returns c =
    let second = rw c.second_flag.ensures.value at c.read_bits-tns_1.ensures.found in
    record {
      found = rw (c.read_bits-tns_0.ensures.found, second, c.read_bits-pitch_present.ensures.found);
      pitch = c.read_bits-pitch_present.ensures.below;
      next = omega arith;
    }
