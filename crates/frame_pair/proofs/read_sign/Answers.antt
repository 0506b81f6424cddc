-- `frame_pair::read_sign` meets its contract. No bit for 0. Assumes nothing.
use mathlib.Core.Path.{sym, ◌∙◌}
use Rattle.frame_pair.proofs.Escaping.{sign-none, sign-some, sign-good}
use Rattle.frame_pair.proofs.read_sign.Goals as goal

pub returns-then-m-eq0-clause-result_value : goal.returns-then-m-eq0-clause-result_value
returns-then-m-eq0-clause-result_value c = sym (sign-none _ _ _ c.if-m-eq0.true)

pub returns-clause-result_value : goal.returns-clause-result_value
returns-clause-result_value c = c.read_bit.ensures.result_value ∙ sym (sign-some _ _ _ c.if-m-eq0.false)

pub returns-clause-good_sign : goal.returns-clause-good_sign
returns-clause-good_sign c = sign-good _ _ _ c.read_bit.ensures.result_value c.read_bit.ensures.good_bit
