-- `slot_each::each` meets its contract. The loop has the answers and the frames of the slots before. Assumes nothing.
use mathlib.Core.Path.{◌≡◌}
use Prim.Native.Nat.{◌*◌}
use Rattle.slot_laws.specs.Sizes.{frame_size}
use Rattle.slot_each.specs.Each.{five}
use Rattle.slot_judging.specs.Inner.{Lent}
use Rattle.slot_each.specs.Inner.{EachTo}
use Rattle.slot_each.proofs.each.Given as goal

abbrev pub invariant-loop-i : goal.invariant-loop-i
invariant-loop-i l = record {
  slot_place : l.at ≡ l.i * l.size;
  frame_place : l.put ≡ l.i * frame_size l.size l.mode;
  lent : Lent l.size l.mode l.places l.all l.changes l.ones l.message;
  each_to : EachTo l.size l.mode l.i l.slots (five l.initial.numbers l.initial.requests l.initial.counts l.initial.bits l.initial.frames)
      (five l.numbers l.requests l.counts l.bits l.frames);
}
