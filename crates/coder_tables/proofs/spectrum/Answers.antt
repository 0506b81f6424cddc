-- `coder_tables::spectrum` meets its contract: the code's table and the definition have the same entries. Assumes nothing.
use mathlib.Core.Path.{refl}
use Rattle.coder_tables.specs.Tables.{spectrum_table}
use Rattle.coder_tables.proofs.spectrum.Goals as goal

pub returns : goal.returns
unfolding spectrum_table
returns c = refl
