-- `slot::unprotect` meets its contract. Assumes nothing.
use Rattle.slot_answers.specs.Answers.{told_of}
use Rattle.slot.proofs.Bounds.{recordable}
use Rattle.slot.proofs.unprotect.Goals as goal

pub returns-in-40-to-400-2-to-4-clause-recordable : goal.returns-in-40-to-400-2-to-4-clause-recordable
returns-in-40-to-400-2-to-4-clause-recordable c =
    let a = c.args in
    recordable a.size a.mode a.slot.now a.frame.now c.unprotect_sized.new.frame (told_of c.unprotect_sized.result) c.unprotect_sized.ensures
