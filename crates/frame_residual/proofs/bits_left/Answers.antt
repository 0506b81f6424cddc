-- `frame_residual::bits_left` meets its contract. Assumes nothing.
use mathlib.Core.Path.{sym}
use Rattle.frame_residual.specs.Residual.{left_of}
use Rattle.frame_residual.proofs.BitsLeft.{left-says}
use Rattle.frame_residual.proofs.bits_left.Goals as goal

pub returns-clause-p_value : goal.returns-clause-p_value
unfolding left_of
returns-clause-p_value c = rw (sym c.log2.ensures.value) (left-says _ _ _ _ _ c.checked_sub.ensures c.ok_or.ensures.value)
