-- `slot_interleaving::signature_row` meets its contract. Assumes nothing.
use Rattle.slot_interleaving.proofs.PlaceSteps.{signature-none, signature-some, row-two, row-three, row-four}
use native.Mathlib.Omega.{arith}
use Rattle.slot_interleaving.proofs.signature_row.Goals as goal

pub returns-then-i-ge6-clause-by_index : goal.returns-then-i-ge6-clause-by_index
returns-then-i-ge6-clause-by_index c k = signature-none c.args.mode c.args.i k (omega arith)

pub returns-in-2-clause-by_index : goal.returns-in-2-clause-by_index
returns-in-2-clause-by_index c = signature-some c.args.mode c.args.i _ (omega arith) (row-two c.args.mode (omega arith))

pub returns-in-3-clause-by_index : goal.returns-in-3-clause-by_index
returns-in-3-clause-by_index c = signature-some c.args.mode c.args.i _ (omega arith) (row-three c.args.mode (omega arith))

pub returns-in_default-clause-by_index : goal.returns-in_default-clause-by_index
returns-in_default-clause-by_index c = signature-some c.args.mode c.args.i _ (omega arith) (row-four c.args.mode (omega arith))
