-- `frame_pair::row_of` meets its contract. The entry that the lookup names. Assumes nothing.
use mathlib.Core.Path.{◌∙◌}
use native.Mathlib.Omega.{arith}
use Rattle.frame_pair.proofs.Escaping.{row_is, capped-min}
use Rattle.frame_pair.proofs.row_of.Goals as goal

pub returns-clause-value : goal.returns-clause-value
returns-clause-value c =
    row_is _ c.args.level c.min.result _ c.requires (omega arith) (c.min.ensures ∙ capped-min c.args.level)
    (rw c.lookup-look.ensures at c.from.ensures)
