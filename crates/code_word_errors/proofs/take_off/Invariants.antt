-- `code_word_errors::take_off` meets its contract. The loop has the front done and the rest as it was. Assumes nothing.
use Prim.Native.Nat.{◌≤◌, ◌*◌}
use Rattle.code_word_laws.specs.Corrector.{both_changed}
use Rattle.code_word_laws.proofs.Turns.{TakenTo}
use Rattle.code_word_errors.proofs.take_off.Given as goal

abbrev pub invariant-loop-c : goal.invariant-loop-c
invariant-loop-c l =
    (l.both ≤ 65 * l.c-index) × TakenTo both_changed l.initial.word l.e l.c-index l.rest l.both l.word
