-- `slot_sizes::conceal_count` meets its contract. Assumes nothing.
use Rattle.slot_laws.proofs.Sizes.{conceal-few}
use Rattle.slot_sizes.proofs.SizeSteps.{conceal-small, conceal-three, conceal-four, conceal-other}
use native.Mathlib.Omega.{arith}
use mathlib.Core.Path.{sym}
use Rattle.slot_sizes.proofs.conceal_count.Goals as goal

pub returns-then-size-lt80-clause-value : goal.returns-then-size-lt80-clause-value
returns-then-size-lt80-clause-value c = sym (conceal-small c.args.size c.args.mode (omega arith))

pub returns-in-3 : goal.returns-in-3
returns-in-3 c = let a = c.args in
    let e = conceal-three a.size a.mode (omega arith) (omega arith) (omega arith) in
    record { value = sym e; upper_bound = omega (arith, conceal-few a.size a.mode (omega arith)) }

pub returns-in-4 : goal.returns-in-4
returns-in-4 c = let a = c.args in
    let e = conceal-four a.size a.mode (omega arith) (omega arith) (omega arith) in
    record { value = sym e; upper_bound = omega (arith, conceal-few a.size a.mode (omega arith)) }

pub returns-in_default-clause-value : goal.returns-in_default-clause-value
returns-in_default-clause-value c = sym (conceal-other c.args.size c.args.mode (λ e. omega arith) (λ e. omega arith))
