-- `coder_tables::tns_order` meets its contract: the code's table and the definition have the same entries. Assumes nothing.
use mathlib.Core.Path.{refl}
use Rattle.coder_tables.specs.Tables.{order_table}
use Rattle.coder_tables.proofs.tns_order.Goals as goal

pub returns : goal.returns
unfolding order_table
returns c = refl
