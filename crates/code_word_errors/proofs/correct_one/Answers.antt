-- `code_word_errors::correct_one` meets its contract. The error that is tested is the one that is taken off. Assumes nothing.
use native.Mathlib.Omega.{arith}
use Rattle.code_word_errors.proofs.Single.{taken-off-one}
use Rattle.code_word_errors.proofs.correct_one.Goals as goal

pub returns : goal.returns
returns c =
    let p = c.requires.word_for in
    let below = c.times-v.ensures.upper_bound in (
      below,
      c.if-v-eq0.false,
      taken-off-one c.args.most c.args.word.now c.args.s c.from-k.result c.times-v.result c.row.result p.most_from p.most_to
          p.short p.semi_octets c.requires.syndromes (omega arith) below c.if-v-eq0.false c.row.ensures
          (c.clear.ensures.holds c.if-not-clear.false),
    )
