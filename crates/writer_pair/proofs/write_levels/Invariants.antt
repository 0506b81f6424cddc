-- `writer_pair::write_levels` meets its contract. The loop has what is left to write make the whole. Assumes nothing.
use Prim.Native.Nat.{◌-◌}
use Rattle.coder_tables.specs.Tables.{look_table, spectrum_table}
use Rattle.writer_pair.proofs.Walking.{Walks}
use Rattle.writer_pair.proofs.write_levels.Given as goal

abbrev pub invariant-loop-a : goal.invariant-loop-a
invariant-loop-a l = Walks look_table spectrum_table l.base l.x l.y l.initial.front l.initial.side l.initial.c l.initial.p l.front l.side
    l.a l.b l.level l.c l.p

abbrev pub decreases-loop-a : goal.decreases-loop-a
decreases-loop-a l = 13 - l.level
