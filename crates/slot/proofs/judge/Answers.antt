-- `slot::judge` meets its contract. Assumes nothing.
use Rattle.std.proofs.Common.{◌≡◌, arith}
use Rattle.std.specs.Prelude.{Some}
use Rattle.slot_laws.specs.Sizes.{words}
use Rattle.slot_repair.specs.Inner.{MendedTo}
use Rattle.slot.specs.Unprotect.{Taken}
use Rattle.slot.proofs.UnprotectSteps.{answered}
use Rattle.slot.proofs.judge.Goals as goal

pub returns : goal.returns
returns c =
    let a = c.args in
    let taken : Taken a.size a.mode a.slot.now a.frame.now =
    record { range = c.requires.range; lengths = c.requires.lengths; bytes = λ i. (c.type_inv.slot i).fits } in
    let found = c.in_ok-count.field-0 in
    let repaired : c.correct_slot.result ≡ Some found = grind arith in
    let mended : MendedTo a.size a.mode a.slot.now c.correct_slot.new.message (words a.size) found.count found.bits =
    rw repaired at c.correct_slot.ensures in
    answered a.size a.mode a.slot.now a.frame.now c.answer.new.frame c.correct_slot.new.message _ _ taken mended c.answer.result
    c.answer.ensures.answered
