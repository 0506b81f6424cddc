-- `frame_tns::coefficients` meets its contract. The loop keeps what is still to be read equal to the whole. Assumes nothing.
use mathlib.Core.Path.{◌≡◌}
use Prim.Native.Nat.{◌+◌, ◌-◌}
use Rattle.coder_tables.specs.Tables.{coefficient_table}
use Rattle.frame_tns.specs.Tns.{coefficients_of}
use Rattle.frame_coder.specs.Sound.{Sound}
use Rattle.frame_tns.proofs.coefficients.Given as goal

abbrev pub invariant-loop-k : goal.invariant-loop-k
invariant-loop-k l =
    Sound l.s l.c × (l.c.taken ≡ l.initial.c.taken + l.k)
    × (coefficients_of l.s coefficient_table (l.n - l.k) l.k l.out l.c
    ≡ coefficients_of l.s coefficient_table l.n 0 l.initial.out l.initial.c)
