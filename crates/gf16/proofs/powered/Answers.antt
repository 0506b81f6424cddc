-- `gf16::powered` meets its contract. Assumes nothing.
use mathlib.Core.Path.{◌∙◌}
use native.Mathlib.Omega.{arith}
use Rattle.gf16.proofs.Logarithms.{power-looked}
use Rattle.gf16.proofs.powered.Goals as goal

pub returns-clause-value : goal.returns-clause-value
returns-clause-value c = c.digit.ensures.value ∙ power-looked c.args.n (omega arith)
