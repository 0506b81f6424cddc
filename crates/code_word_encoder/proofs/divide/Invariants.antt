-- `code_word_encoder::divide` meets its contract: each turn feeds the semi-octet in front of those fed before. Assumes nothing.
use mathlib.Core.Path.{◌≡◌}
use Prim.Native.Nat.{◌≤◌}
use lib.ListN.{drop}
use Rattle.code_word_laws.specs.Register.{register}
use Rattle.code_word_encoder.proofs.divide.Given as goal

abbrev pub invariant-loop-i : goal.invariant-loop-i
invariant-loop-i l = (l.n ≤ l.i) × (l.r ≡ register l.rows (drop l.i l.word))
