-- `slot_sizes::first_hash_size` meets its contract. Assumes nothing.
use Rattle.slot_sizes.proofs.SizeSteps.{hash1-forty, hash1-other}
use native.Mathlib.Omega.{arith}
use mathlib.Core.Path.{sym}
use Rattle.slot_sizes.proofs.first_hash_size.Goals as goal

pub returns-in-40-clause-value : goal.returns-in-40-clause-value
returns-in-40-clause-value c = sym (hash1-forty c.args.size (omega arith))

pub returns-in_default-clause-value : goal.returns-in_default-clause-value
returns-in_default-clause-value c = sym (hash1-other c.args.size (λ e. omega arith))
