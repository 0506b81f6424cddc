-- `frame_shape::read_shape` meets its contract. No field leaves the frame, so a cause is 3. Assumes nothing.
use borrow.Author.Tests.{le-leb, lt-leb}
use mathlib.Core.Path.{sym}
use Rattle.frame_shape.proofs.ShapeFields.{ShapeFields, shape-read}
use Rattle.frame_shape.proofs.read_shape.Goals as goal

pub returns-then-joint_end-joint-clause-result_value : goal.returns-then-joint_end-joint-clause-result_value
returns-then-joint_end-joint-clause-result_value c =
    let fields : ShapeFields c.args.s.now c.args.p c.read_bits-low.result c.read_bits-high.result c.read_bits-mode.result
    c.read_bits-gain.result c.read_bits-sign.result c.read_bits-joint.result =
    record {
      low = c.read_bits-low.ensures;
      high = c.read_bits-high.ensures;
      mode = c.read_bits-mode.ensures;
      gain = c.read_bits-gain.ensures;
      sign = c.read_bits-sign.ensures;
      joint = c.read_bits-joint.ensures;
    } in
    sym (shape-read _ _ _ _ _ _ _ _ _ fields (le-leb _ _ (rw c.joint_end.ensures.value at c.if-joint_end-joint.true)))

pub returns-clause-result_value : goal.returns-clause-result_value
returns-clause-result_value c =
    let fields : ShapeFields c.args.s.now c.args.p c.read_bits-low.result c.read_bits-high.result c.read_bits-mode.result
    c.read_bits-gain.result c.read_bits-sign.result c.read_bits-joint.result =
    record {
      low = c.read_bits-low.ensures;
      high = c.read_bits-high.ensures;
      mode = c.read_bits-mode.ensures;
      gain = c.read_bits-gain.ensures;
      sign = c.read_bits-sign.ensures;
      joint = c.read_bits-joint.ensures;
    } in
    sym (shape-read _ _ _ _ _ _ _ _ _ fields (lt-leb _ _ (rw c.joint_end.ensures.value at c.if-joint_end-joint.false)))
