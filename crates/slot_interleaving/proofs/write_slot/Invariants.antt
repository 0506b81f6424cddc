-- `slot_interleaving::write_slot` meets its contract. The invariant of its loop stands at the head. Assumes nothing.
use mathlib.Core.Path.{◌≡◌}
use Rattle.laws.specs.Tab.{total}
use Rattle.slot_laws.specs.Sizes.{data_length}
use Rattle.slot_laws.specs.Words.{signature}
use Rattle.slot_laws.specs.Slot.{code_word}
use Rattle.slot_interleaving.specs.Inner.{Placed}
use Rattle.slot_interleaving.proofs.write_slot.Given as goal

abbrev pub invariant-loop-i : goal.invariant-loop-i
invariant-loop-i l = (l.at ≡ total (data_length l.size l.mode) l.i) × Placed l.size (signature l.mode)
    (code_word l.size l.mode l.message) l.i l.places
