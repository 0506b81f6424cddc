-- `frame_residual::read_late` meets its contract. Assumes nothing.
use mathlib.Core.Path.{ap, ◌∙◌}
use native.Mathlib.Omega.{arith}
use mir.Syntax.{w32}
use mir.ValLaws.{to_z-of_z}
use Rattle.frame_residual.specs.Residual.{away}
use Rattle.frame_residual.proofs.LateBits.{zero-yes, zero-no, late-none, late-same, late-born, late-away}
use Rattle.frame_residual.proofs.read_late.Goals as goal

pub returns-in_err-fewer-clause-result_value : goal.returns-in_err-fewer-clause-result_value
returns-in_err-fewer-clause-result_value c = rw c.from_residual.ensures (late-none _ _ _ _ (omega arith))

pub returns-then-bit_at-eq0-clause-result_value : goal.returns-then-bit_at-eq0-clause-result_value
returns-then-bit_at-eq0-clause-result_value c =
    let t = to_z-of_z w32 c.args.v c.ranges.v in
    late-same _ _ _ _ c.bit_at.ensures.value _ _ _ c.in_ok-fewer.ensures.1 t (omega arith) c.if-bit_at-eq0.true

pub returns-then-v-eq0-clause-result_value : goal.returns-then-v-eq0-clause-result_value
returns-then-v-eq0-clause-result_value c =
    let z = zero-yes c.args.v c.ranges.v c.if-v-eq0.true in
    c.born.ensures.result_value
    ∙ late-born _ c.args.v _ _ c.bit_at.ensures.value _ _ c.in_ok-fewer.ensures.1 (omega arith) c.if-bit_at-eq0.false z

pub returns-clause-result_value : goal.returns-clause-result_value
returns-clause-result_value c =
    let z = zero-no c.args.v c.if-v-eq0.false in
    let t = to_z-of_z w32 _ (record { sfits = c.further.type_inv }) ∙ c.further.ensures
    ∙ ap away (to_z-of_z w32 c.args.v c.ranges.v) in
    late-away _ c.args.v _ _ c.bit_at.ensures.value _ _ _ c.in_ok-fewer.ensures.1 t (omega arith) c.if-bit_at-eq0.false z
