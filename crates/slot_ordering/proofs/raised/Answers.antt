-- `slot_ordering::raised` meets its contract. Assumes nothing.
use Rattle.slot_ordering.proofs.OrderSteps.{raised-forty, raised-other}
use native.Mathlib.Omega.{arith}
use Rattle.slot_ordering.proofs.raised.Goals as goal

pub returns-in-40-clause-value : goal.returns-in-40-clause-value
returns-in-40-clause-value c = raised-forty c.args.size c.args.request (omega arith)

pub returns-in_default-clause-value : goal.returns-in_default-clause-value
returns-in_default-clause-value c = raised-other c.args.size c.args.request (λ e. omega arith)
