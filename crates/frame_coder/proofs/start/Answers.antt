-- `frame_coder::start` meets its contract. The three bytes are read; the bounds follow. Assumes nothing.
use native.Mathlib.Omega.{arith}
use Rattle.frame_coder.proofs.start.Goals as goal

pub returns : goal.returns
returns c = let l = c.requires.least in
    record {
      value = rw (c.from.ensures, c.from-2.ensures, c.from-3.ensures);
      sound = record { low = omega arith; wide = omega arith; range = omega arith; at = omega arith; end = omega arith };
    }
