-- `slot_ordering::swap` meets its contract. Assumes nothing.
use Rattle.slot_laws.specs.Order.{swapped}
use mathlib.Core.Path.{refl}
use Rattle.slot_ordering.proofs.swap.Goals as goal

pub returns : goal.returns
unfolding swapped
returns c = refl
