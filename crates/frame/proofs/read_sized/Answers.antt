-- `frame::read_sized` meets its contract. Assumes nothing.
use mathlib.Core.Path.{refl, sym}
use Rattle.std.proofs.lemmas.Result.{err_from_is_err_and}
use Rattle.frame_arithmetic.proofs.ArithmeticSteps.{answers-refused, answers-cause}
use Rattle.frame.proofs.WholeFrame.{judged-spectrum, judged-residual, judged-read, frame-side, frame-rest}
use Rattle.frame.proofs.read_sized.Goals as goal
use Rattle.frame.proofs.read_sized.Goals.{then-spectrum-r-via-then-spectrum-r, then-spectrum-r-via-else-spectrum-r+then-residual-r}

pub returns-then-spectrum-r-clause-answers : goal.returns-then-spectrum-r-clause-answers
returns-then-spectrum-r-clause-answers c = elim c.then-spectrum-r.branch [
  | then-spectrum-r-via-then-spectrum-r w ↦ answers-refused _ _ 2 0 _ _ refl (judged-spectrum c.args.r _ _ _ w.if-spectrum-r.true)
  | then-spectrum-r-via-else-spectrum-r+then-residual-r w ↦
      answers-refused _ _ 2 0 _ _ refl (judged-residual c.args.r _ _ _ w.if-spectrum-r.false w.if-residual-r.true)
]

pub returns-in_err-side-clause-answers : goal.returns-in_err-side-clause-answers
returns-in_err-side-clause-answers c =
    let p = err_from_is_err_and c.from_residual.result c.from_residual.ensures.1 in
    let e = frame-side _ c.args.r _ (sym c.in_err-side.ensures.result_value) in
    rw (judged-read c.args.r c.args.frame.now _ _ c.if-spectrum-r.false c.if-residual-r.false)
    (answers-cause _ _ _ _ _ _ _ _ p.1 p.2 e refl refl)

pub returns-clause-answers : goal.returns-clause-answers
returns-clause-answers c =
    let e = frame-rest _ c.args.r _ _ (sym c.in_ok-side.ensures.result_value) in
    rw (judged-read c.args.r c.args.frame.now _ _ c.if-spectrum-r.false c.if-residual-r.false, e) c.read_arithmetic.ensures.answers
