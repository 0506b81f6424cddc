-- `record::entries_in` meets its contract: what the walk finds, as a count. Assumes nothing.
use mathlib.Core.Path.{sym, ◌∙◌}
use Rattle.std.proofs.lemmas.Result.{err_from_is_err_and}
use Rattle.record.proofs.Answered.{none_given, some_given, counted, uncounted}
use Rattle.record.proofs.entries_in.Goals as goal

pub returns-in_err-walked : goal.returns-in_err-walked
returns-in_err-walked c =
    let a = c.args in
    let p = err_from_is_err_and c.from_residual.result c.from_residual.ensures.1 in
    let g = none_given c.walk.result _ _ c.in_err-walked.ensures.value in
    rw (p.1, p.2, g.1) (uncounted a.form a.bytes.now 0 (sym c.walk.ensures ∙ g.0))

pub returns : goal.returns
returns c =
    let a = c.args in
    let w = c.in_ok-walked.walked in
    counted a.form a.bytes.now 0 w.entries w.end (sym c.walk.ensures ∙ some_given _ _ _ c.in_ok-walked.ensures.value)
