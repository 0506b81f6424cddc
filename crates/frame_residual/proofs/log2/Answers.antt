-- `frame_residual::log2` meets its contract. Assumes nothing.
use mathlib.Core.Path.{◌∙◌}
use Rattle.frame_residual.proofs.BitsLeft.{log2-zero, log2-power}
use Rattle.frame_residual.proofs.log2.Goals as goal

pub returns-in-Some-clause-value : goal.returns-in-Some-clause-value
returns-in-Some-clause-value c =
    c.min.ensures ∙ log2-power c.args.r c.in-Some.k 23 c.in-Some.ensures.power_le c.in-Some.ensures.next_power_gt

pub returns-in-None-clause-value : goal.returns-in-None-clause-value
returns-in-None-clause-value c = rw c.in-None.ensures.none (log2-zero 23)
