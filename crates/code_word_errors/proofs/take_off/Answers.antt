-- `code_word_errors::take_off` meets its contract. The loop has the front done and the rest as it was. Assumes nothing.
use mathlib.Core.Path.{refl, sym, ap, ◌∙◌}
use native.Mathlib.Omega.{arith}
use native.Mathlib.Nat.{mod-mod}
use Rattle.code_word_laws.specs.Corrector.{both_changed, both_of}
use Rattle.code_word_laws.proofs.Changes.{both-changed, both-apart}
use Rattle.code_word_laws.proofs.Turns.{taken_next, taken-last}
use Rattle.code_word_errors.proofs.take_off.Goals as goal

pub loop-c-preserved : goal.loop-c-preserved
loop-c-preserved c =
    let a = c.args in
    let l = c.loop-c in
    let n = c.both_counts-both in (
      omega arith,
      taken_next both_changed a.word.now a.e l.c-index l.rest l.both l.word l.invariant.1 (omega arith) refl
          (n.ensures.value ∙ ap both_of (mod-mod l.rest 16) ∙ sym (both-changed _ _)),
    )

pub returns : goal.returns
returns c =
    let a = c.args in
    let l = c.loop-c in
    let t = taken-last both_changed a.word.now a.e l.c-index l.rest l.both l.word l.invariant.1 (omega arith) in
    let b = both-apart a.word.now l.word l.both c.requires.word_len_bound t.1 in
    record { word_is = t.0; counted = b.0; bits_counted = b.1; few = omega arith }
