-- `coder_tables::tns_coefficients` meets its contract: the code's table and the definition have the same entries. Assumes nothing.
use mathlib.Core.Path.{refl}
use Rattle.coder_tables.specs.Tables.{coefficient_table}
use Rattle.coder_tables.proofs.tns_coefficients.Goals as goal

pub returns : goal.returns
unfolding coefficient_table
returns c = refl
