-- `code_word_locator::errors` meets its contract. The loop has the last three sums and the transform of all so far. Assumes nothing.
use Prim.Native.Nat.{◌<◌, ◌-◌}
use Rattle.code_word_laws.proofs.Turns.{Held}
use Rattle.code_word_locator.proofs.errors.Given as goal

abbrev pub invariant-loop-n : goal.invariant-loop-n
invariant-loop-n l =
    (l.a < 16) × (l.b < 16) × (l.c < 16)
    × Held l.r.first l.r.second l.r.third l.s1 l.s2 l.r.start (12 - l.n) l.a l.b l.c l.e
