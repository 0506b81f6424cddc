-- `slot_sizes::frame_bytes` meets its contract. Assumes nothing.
use Rattle.slot_sizes.proofs.SizeSteps.{frame_is, check-bytes}
use native.Mathlib.Omega.{arith}
use Rattle.slot_sizes.proofs.frame_bytes.Goals as goal

pub overflow_sub-result-4 : goal.overflow_sub-result-4
overflow_sub-result-4 c =
    let b = check-bytes c.args.size c.args.mode c.word_count.result c.requires c.word_count.ensures.value in
    omega arith

pub returns-clause-value : goal.returns-clause-value
returns-clause-value c =
    let f = frame_is c.args.size c.args.mode c.word_count.result c.word_count.ensures.value in
    omega arith
