-- `code_word_syndromes::syndromes` meets its contract. The loop has the syndromes of the semi-octets passed. Assumes nothing.
use Rattle.code_word_laws.proofs.Turns.{SpectrumTo}
use Rattle.code_word_syndromes.proofs.syndromes.Given as goal

abbrev pub invariant-loop-i : goal.invariant-loop-i
invariant-loop-i l = SpectrumTo l.word l.i l.s
