-- `frame::read` meets its contract. Assumes nothing.
use mathlib.Core.Path.{refl, sym, ◌∙◌}
use native.Mathlib.Omega.{arith}
use Rattle.std.proofs.lemmas.Result.{err_from_is_err_and}
use Rattle.frame_arithmetic.proofs.ArithmeticSteps.{answers-refused}
use Rattle.frame.proofs.WholeFrame.{none-is, judged-unknown, judged-short, judged-long, judged-known, causes-known}
use Rattle.frame.proofs.read.Goals as goal

pub returns-in_err-r-clause-answers : goal.returns-in_err-r-clause-answers
returns-in_err-r-clause-answers c =
    let p = err_from_is_err_and c.from_residual.result c.from_residual.ensures.1 in
    let none = c.in_err-r.ensures.ok_part in
    let e = none-is _ _ _ none c.in_err-r.ensures.value in
    rw (p.1, p.2, e) (answers-refused _ _ 1 0 _ _ refl (judged-unknown _ _ _ _ _ (sym c.setting_of.ensures.value ∙ none)))

pub returns-in-20-to-400-clause-answers : goal.returns-in-20-to-400-clause-answers
returns-in-20-to-400-clause-answers c =
    let e = sym c.setting_of.ensures.value ∙ c.in_ok-r.ensures.ok_part in
    rw (judged-known c.args.khz c.args.duration c.args.frame.now _ _ _ e (omega arith) (omega arith)) c.read_sized.ensures.answers

pub returns-in-20-to-400-clause-bounded : goal.returns-in-20-to-400-clause-bounded
returns-in-20-to-400-clause-bounded c =
    let e = sym c.setting_of.ensures.value ∙ c.in_ok-r.ensures.ok_part in
    rw (causes-known c.args.khz c.args.duration _ e) c.read_sized.ensures.bounded

pub returns-in_default-clause-answers : goal.returns-in_default-clause-answers
returns-in_default-clause-answers c =
    let e = sym c.setting_of.ensures.value ∙ c.in_ok-r.ensures.ok_part in
    answers-refused _ _ 1 0 _ _ refl (judged-short c.args.khz c.args.duration c.args.frame.now _ _ _ e (omega arith))

pub returns-in_default-2-clause-answers : goal.returns-in_default-2-clause-answers
returns-in_default-2-clause-answers c =
    let e = sym c.setting_of.ensures.value ∙ c.in_ok-r.ensures.ok_part in
    answers-refused _ _ 1 0 _ _ refl (judged-long c.args.khz c.args.duration c.args.frame.now _ _ _ e (omega arith) (omega arith))
