-- `writer_ending::exponent` meets its contract. Assumes nothing.
use native.Mathlib.Omega.{arith}
use Rattle.writer_ending.proofs.Finishing.{one_shifted, exponent-here, exponent-less, exponent-least}
use Rattle.writer_ending.proofs.exponent.Goals as goal

pub returns-then-round_up-e-clause-result_value : goal.returns-then-round_up-e-clause-result_value
returns-then-round_up-e-clause-result_value c =
    let e = c.log2-e.ensures in
    let p = one_shifted c.log2-e.result e.upper_bound in
    exponent-here c.args.low c.args.range _ _ e.value c.round_up.ensures.value (rw p at c.if-round_up-e.true)

pub returns-then-round_up-e-clause-lower_bound : goal.returns-then-round_up-e-clause-lower_bound
returns-then-round_up-e-clause-lower_bound c =
    let l = exponent-least c.args.range c.log2-e.result c.requires.le_range c.log2-e.ensures.value in
    omega arith

pub returns-else-round_up-e-clause-result_value : goal.returns-else-round_up-e-clause-result_value
returns-else-round_up-e-clause-result_value c =
    let e = c.log2-e.ensures in
    let p = one_shifted c.log2-e.result e.upper_bound in
    let l = exponent-least c.args.range c.log2-e.result c.requires.le_range e.value in
    exponent-less c.args.low c.args.range _ _ (omega arith) e.value c.round_up.ensures.value (rw p at c.if-round_up-e.false)
