-- `code_word_encoder::put_checks` meets its contract: the digits still to be put in front of what stands gives the result. Assumes nothing.
use mathlib.Core.Path.{◌≡◌}
use lib.ListN.{length, drop}
use Rattle.code_word_laws.specs.Register.{with_checks}
use Rattle.code_word_encoder.proofs.put_checks.Given as goal

abbrev pub invariant-loop-k : goal.invariant-loop-k
invariant-loop-k l =
    (length l.word ≡ length l.initial.word)
    × (with_checks l.k l.r (drop l.k l.word) ≡ with_checks l.n l.register (drop l.n l.initial.word))
