-- `code_word_corrector::correct_words` meets its contract. The loop has the first words done and the rest as it was. Assumes nothing.
use Prim.Native.Nat.{◌+◌}
use lib.ListN.{length}
use Rattle.code_word_corrector.proofs.Batch.{MendedTo}
use Rattle.code_word_corrector.proofs.correct_words.Given as goal

abbrev pub invariant-loop-i : goal.invariant-loop-i
invariant-loop-i l =
    MendedTo (l.most + 1) (length l.initial.words) (length l.initial.counts) l.initial.words l.i l.at l.words l.counts l.bits
