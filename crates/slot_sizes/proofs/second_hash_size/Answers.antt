-- `slot_sizes::second_hash_size` meets its contract. Assumes nothing.
use Rattle.slot_sizes.proofs.SizeSteps.{hash2-small, hash2-two, hash2-large}
use native.Mathlib.Omega.{arith}
use mathlib.Core.Path.{sym}
use Rattle.slot_sizes.proofs.second_hash_size.Goals as goal

pub returns-then-size-lt80-clause-value : goal.returns-then-size-lt80-clause-value
returns-then-size-lt80-clause-value c = sym (hash2-small c.args.size c.args.mode (omega arith))

pub returns-then-mode-lt3-clause-value : goal.returns-then-mode-lt3-clause-value
returns-then-mode-lt3-clause-value c = sym (hash2-two c.args.size c.args.mode (omega arith))

pub returns-clause-value : goal.returns-clause-value
returns-clause-value c = sym (hash2-large c.args.size c.args.mode (omega arith) (omega arith))
