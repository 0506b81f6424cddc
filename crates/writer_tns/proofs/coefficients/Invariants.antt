-- `writer_tns::coefficients` meets its contract. The loop keeps what is still to be sent equal to the whole. Assumes nothing.
use mathlib.Core.Path.{◌≡◌}
use Prim.Native.Nat.{◌+◌, ◌-◌, ◌*◌, ◌≤◌}
use Rattle.coder_tables.specs.Tables.{coefficient_table}
use Rattle.writer_laws.specs.Stream.{coded_all, whole_of}
use Rattle.writer_laws.specs.Tns.{coefficient_items}
use Rattle.writer_steps.specs.Flow.{Flows}
use Rattle.writer_tns.proofs.coefficients.Given as goal

abbrev pub invariant-loop-k : goal.invariant-loop-k
invariant-loop-k l = record {
  flows : Flows l.front l.c;
  at : l.c.at ≤ l.initial.c.at + 2 * l.k;
  taken : l.c.taken ≡ l.initial.c.taken + l.k;
  sent : coded_all (coefficient_items coefficient_table l.l (l.n - l.k) l.k) (whole_of l.front l.c)
      ≡ coded_all (coefficient_items coefficient_table l.l l.n 0) (whole_of l.initial.front l.initial.c);
}
