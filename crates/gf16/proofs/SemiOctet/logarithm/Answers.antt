-- `gf16::SemiOctet::logarithm` meets its contract. Assumes nothing.
use mathlib.Core.Path.{◌∙◌}
use Rattle.gf16.proofs.Logarithms.{logarithm-looked}
use Rattle.gf16.proofs.SemiOctet.logarithm.Goals as goal

pub returns-clause-value : goal.returns-clause-value
returns-clause-value c = c.digit.ensures.value ∙ logarithm-looked c.args.self.0
