-- `slot_sizes::word_length` meets its contract: one law for the three lengths. Assumes nothing.
use Rattle.slot_sizes.proofs.SizeSteps.{length-is}
use Rattle.slot_laws.proofs.Sizes.{words-thirteen, words-cover}
use native.Mathlib.Omega.{arith}
use Rattle.slot_sizes.proofs.word_length.Goals as goal

pub overflow_sub-end : goal.overflow_sub-end
overflow_sub-end c = let w = words-thirteen c.args.size (omega arith) in omega arith

pub overflow_mul-count : goal.overflow_mul-count
overflow_mul-count c = let w = words-thirteen c.args.size (omega arith) in omega arith

pub returns-then-end-count-clause-value : goal.returns-then-end-count-clause-value
returns-then-end-count-clause-value c = let a = c.args in
    let w = words-thirteen a.size (omega arith) in
    length-is a.size a.count a.i 12 (omega arith) (omega arith) (omega arith) (omega arith)

pub returns-then-end-count-2-clause-value : goal.returns-then-end-count-2-clause-value
returns-then-end-count-2-clause-value c = let a = c.args in
    length-is a.size a.count a.i 13 (omega arith) (omega arith) (omega arith) (omega arith)

pub returns-clause-value : goal.returns-clause-value
returns-clause-value c = let a = c.args in
    let w = words-cover a.size in
    length-is a.size a.count a.i 14 (omega arith) (omega arith) (omega arith) (omega arith)
