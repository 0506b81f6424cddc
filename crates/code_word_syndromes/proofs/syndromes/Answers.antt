-- `code_word_syndromes::syndromes` meets its contract. The loop has the syndromes of the semi-octets passed. Assumes nothing.
use native.Mathlib.Omega.{arith}
use Rattle.code_word_laws.proofs.Division.{semi-octet-at}
use Rattle.code_word_laws.proofs.Turns.{syndromes-first, syndromes-next, syndromes-last}
use Rattle.code_word_syndromes.proofs.syndromes.Goals as goal

pub loop-i-init : goal.loop-i-init
loop-i-init c = syndromes-first c.args.word.now

pub row-s-requires : goal.row-s-requires
row-s-requires c = record {
  a_bound = omega arith;
  x_bound = semi-octet-at c.args.word.now c.loop-i.i c.requires.semi_octets;
}

pub loop-i-preserved : goal.loop-i-preserved
loop-i-preserved c =
    syndromes-next c.args.word.now c.loop-i.i c.loop-i.s c.row-s.result (omega arith)
    c.requires.semi_octets c.loop-i.invariant c.row-s.ensures

pub returns : goal.returns
returns c =
    syndromes-last c.args.word.now c.loop-i.i c.loop-i.s (omega arith) c.loop-i.invariant
