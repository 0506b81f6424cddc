-- `slot_clean::same_checks` meets its contract. The invariant of its loop stands at the head. Assumes nothing.
use Prim.Native.Nat.{◌-◌}
use Rattle.code_word_laws.specs.Word.{distance}
use Rattle.slot_clean.specs.Inner.{checks_from}
use Rattle.slot_clean.proofs.CleanSteps.{Compared}
use Rattle.slot_clean.proofs.same_checks.Given as goal

abbrev pub invariant-loop-k : goal.invariant-loop-k
invariant-loop-k l = Compared (distance l.mode - 1) l.r (checks_from l.size l.mode l.places l.i) l.k
    l.rest l.bits
