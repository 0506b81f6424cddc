-- `record::new` meets its contract: the end of a record of no entries is put at the start. Assumes nothing.
use mathlib.Core.Path.{refl, sym, ◌∙◌}
use native.Mathlib.Omega.{arith}
use Rattle.std.proofs.lemmas.Result.{err_from_is_err_and}
use Rattle.record.proofs.Answered.{new-short, new-made, new-no}
use Rattle.record.proofs.new.Goals as goal

pub returns-in_err-f : goal.returns-in_err-f
returns-in_err-f c =
    let p = err_from_is_err_and c.from_residual.result c.from_residual.ensures.1 in
    let r = new-no c.args.form c.in_err-f.field-0.0 (sym c.try_from.ensures ∙ c.in_err-f.was) c.args.buffer.now in
    rw (p.1, p.2) record { result_value = r.0; buffer_after = r.1 }

pub returns-then-buffer-end : goal.returns-then-buffer-end
returns-then-buffer-end c =
    let a = c.args in
    let r = new-short a.form c.in_ok-f.f (sym c.try_from.ensures ∙ c.in_ok-f.was) a.buffer.now (omega (arith, c.end.ensures)) in
    record { result_value = r.0; buffer_after = r.1 }

pub returns : goal.returns
returns c =
    let a = c.args in
    let r = new-made a.form c.in_ok-f.f (sym c.try_from.ensures ∙ c.in_ok-f.was) a.buffer.now _
    (omega (arith, c.if-buffer-end.false, c.end.ensures)) refl in
    record { result_value = r.0; buffer_after = c.put_end.ensures ∙ r.1 }
