-- `writer_pairs::write_pairs` meets its contract. The loop has the rest of the pairs make the whole. Assumes nothing.
use Rattle.coder_tables.specs.Tables.{look_table, spectrum_table}
use Rattle.writer_pairs.proofs.Pairing.{Going}
use Rattle.writer_pairs.proofs.write_pairs.Given as goal

abbrev pub invariant-loop-k : goal.invariant-loop-k
invariant-loop-k l = Going look_table spectrum_table l.o l.lines l.n l.bytes l.initial.front l.initial.side l.initial.c l.initial.p
    l.front l.side l.c l.p l.context l.k
