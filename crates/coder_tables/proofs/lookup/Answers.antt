-- `coder_tables::lookup` meets its contract: the code's table has the definition's entries, one of each level in turn. Assumes nothing.
use mathlib.Core.Path.{sym}
use Rattle.coder_tables.specs.Tables.{look_table}
use Rattle.coder_tables.proofs.LayoutRules.{in_turn, by-context-in-turn}
use Rattle.coder_tables.proofs.lookup.Goals as goal

pub returns : goal.returns
unfolding look_table in_turn
returns c = sym (by-context-in-turn look_table)
