-- `slot::carry` meets its contract. Assumes nothing.
use Rattle.slot.proofs.UnprotectSteps.{carried}
use Rattle.refusals.specs.Numbers.{number_of}
use Rattle.slot_answers.specs.Answers.{told_of}
use Rattle.slot.proofs.carry.Goals as goal

pub returns : goal.returns
returns c = let a = c.args in
    record {
      sends = record { number = number_of c.protect.result; protects = c.protect.ensures };
      unprotects = c.unprotect.ensures.unprotects;
      carried = carried (number_of c.protect.result) a.size a.mode a.request a.frame.now a.sent.now c.protect.new.slot
          a.slot.now a.out.now c.unprotect.new.frame (told_of c.unprotect.result) c.protect.ensures c.unprotect.ensures.unprotects;
    }
