-- `slot_judging::judge` meets its contract. Assumes nothing.
use Rattle.std.proofs.Common.{◌≡◌, arith}
use Rattle.std.specs.Prelude.{Some}
use Rattle.slot_laws.specs.Sizes.{words}
use Rattle.slot_repair.specs.Inner.{MendedTo}
use Rattle.slot.specs.Unprotect.{Taken}
use Rattle.slot.proofs.UnprotectSteps.{answered}
use Rattle.slot_judging.proofs.judge.Goals as goal

pub returns-clause-unprotects : goal.returns-clause-unprotects
returns-clause-unprotects c =
    let a = c.args in
    let taken : Taken a.size a.mode a.slot.now a.frame.now =
    record {
      range = c.requires.lent.range;
      lengths = record { frame_long = c.requires.frame_len; slot_long = c.requires.slot_len };
      bytes = λ i. (c.type_inv.slot i).fits;
    } in
    let message = c.correct_in-found.new.message in
    let found = c.in_ok-count.field-0 in
    let repaired : c.correct_in-found.result ≡ Some found = grind arith in
    let mended : MendedTo a.size a.mode a.slot.now message (words a.size) found.count found.bits =
    rw repaired at c.correct_in-found.ensures.repair in
    answered a.size a.mode a.slot.now a.frame.now c.answer.new.frame message _ _ taken mended c.answer.result c.answer.ensures.answered
