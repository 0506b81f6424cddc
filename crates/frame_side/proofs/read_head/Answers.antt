-- `frame_side::read_head` meets its contract. No field leaves the frame, so a cause is 1 or 2. Assumes nothing.
use Prim.Native.Nat.{◌+◌, ◌/◌}
use native.Mathlib.Omega.{arith}
use borrow.Author.Tests.{le-leb, lt-leb}
use Rattle.frame_bits.specs.Fields.{read_list}
use Rattle.frame_side.specs.Side.{head_of}
use Rattle.frame_side.proofs.read_head.Goals as goal

pub returns-then-r-bandwidth-clause-result_value : goal.returns-then-r-bandwidth-clause-result_value
unfolding head_of read_list
returns-then-r-bandwidth-clause-result_value c =
    rw (c.read_bits-bandwidth.ensures.found, le-leb (c.args.r.index + 1) c.read_bits-bandwidth.result.value (omega arith))

pub returns-then-r-last_line-clause-result_value : goal.returns-then-r-last_line-clause-result_value
unfolding head_of read_list
returns-then-r-last_line-clause-result_value c = let r = c.args.r in rw (
  c.read_bits-bandwidth.ensures.found,
  lt-leb (r.index + 1) c.read_bits-bandwidth.result.value (omega arith),
  c.read_bits-pair.ensures.found,
  le-leb (r.lines / 2) c.read_bits-pair.result.value (omega arith),
)

pub returns-clause-result_value : goal.returns-clause-result_value
unfolding head_of read_list
returns-clause-result_value c = let r = c.args.r in rw (
  c.read_bits-bandwidth.ensures.found,
  lt-leb (r.index + 1) c.read_bits-bandwidth.result.value (omega arith),
  c.read_bits-pair.ensures.found,
  lt-leb (r.lines / 2) c.read_bits-pair.result.value (omega arith),
  c.read_bits-lsb_mode.ensures.found,
  c.read_bits-gain.ensures.found,
)
