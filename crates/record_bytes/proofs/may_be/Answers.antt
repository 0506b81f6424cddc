-- `record_bytes::may_be` meets its contract, test by test. Assumes nothing.
use mathlib.Core.Path.{◌∙◌}
use native.Mathlib.Omega.{arith}
use Rattle.record_bytes.proofs.Walking.{marked-one, marked-two, may-be-short, may-be-long, may-be-marked}
use Rattle.record_bytes.proofs.may_be.Goals as goal

pub returns-then-size-end : goal.returns-then-size-end
returns-then-size-end c =
    let a = c.args in
    may-be-short a.form a.bytes.now (omega (arith, c.end.ensures))

pub returns-then-size-gt65536 : goal.returns-then-size-gt65536
returns-then-size-gt65536 c =
    let a = c.args in
    may-be-long a.form a.bytes.now (omega arith)

pub returns-in-One : goal.returns-in-One
returns-in-One c =
    let a = c.args in
    marked-one a.form a.bytes.now c.in-One.is
    ∙ may-be-marked a.form a.bytes.now (omega (arith, c.end.ensures)) (omega arith)

pub returns-in-Two : goal.returns-in-Two
returns-in-Two c =
    let a = c.args in
    marked-two a.form a.bytes.now c.in-Two.is
    ∙ may-be-marked a.form a.bytes.now (omega (arith, c.end.ensures)) (omega arith)
