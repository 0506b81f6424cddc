-- `slot_clean::read_clean` meets its contract. The loop has the data of the first words where they belong, each under its own word.
-- Assumes nothing.
use mathlib.Core.Path.{◌≡◌}
use Rattle.laws.specs.Tab.{total}
use Rattle.slot_laws.specs.Sizes.{data_length}
use Rattle.slot_laws.specs.Order.{Data}
use Rattle.slot_clean.specs.Inner.{AllClean}
use Rattle.slot_clean.proofs.read_clean.Given as goal

abbrev pub invariant-loop-i : goal.invariant-loop-i
invariant-loop-i l = (l.at ≡ total (data_length l.size l.mode) l.i) × Data l.size l.mode l.message × AllClean l.size
    l.mode l.places l.message l.i
