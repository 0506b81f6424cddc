-- `frame_arithmetic::read_arithmetic` meets its contract. Assumes nothing.
use mathlib.Core.Path.{refl, sym}
use Rattle.std.proofs.lemmas.Result.{err_from_is_err_and}
use Rattle.frame_arithmetic.proofs.ArithmeticSteps.{first-at, arithmetic-first, arithmetic-second, arithmetic-third, arithmetic-value}
use Rattle.frame_arithmetic.proofs.ArithmeticSteps.{answers-cause, answers-value}
use Rattle.frame_arithmetic.proofs.read_arithmetic.Goals as goal

pub returns-in_err-order_0-clause-answers : goal.returns-in_err-order_0-clause-answers
returns-in_err-order_0-clause-answers c =
    let p = err_from_is_err_and c.from_residual.result c.from_residual.ensures.1 in
    let z = c.args in
    let first = first-at _ z.r z.v _ _ c.start-start.ensures.value c.in_err-order_0.ensures.out_after in
    answers-cause _ _ _ _ _ _ _ _ p.1 p.2 (arithmetic-first _ z.r z.v _ _ first) refl refl

pub returns-in_err-order_1-clause-answers : goal.returns-in_err-order_1-clause-answers
returns-in_err-order_1-clause-answers c =
    let p = err_from_is_err_and c.from_residual-in_err-order_1.result c.from_residual-in_err-order_1.ensures.1 in
    let z = c.args in
    let first = first-at _ z.r z.v _ _ c.start-start.ensures.value c.in_ok-order_0.ensures.out_after in
    let second = sym c.in_err-order_1.ensures.out_after in
    answers-cause _ _ _ _ _ _ _ _ p.1 p.2 (arithmetic-second _ z.r z.v _ _ _ _ first second) refl refl

pub returns-in_err-x-clause-answers : goal.returns-in_err-x-clause-answers
returns-in_err-x-clause-answers c =
    let p = err_from_is_err_and c.from_residual-in_err-x.result c.from_residual-in_err-x.ensures.1 in
    let z = c.args in
    let first = first-at _ z.r z.v _ _ c.start-start.ensures.value c.in_ok-order_0.ensures.out_after in
    let second = sym c.in_ok-order_1.ensures.out_after in
    let third = sym c.in_err-x.ensures.residual_after in
    let k = c.in_err-x.ensures.kept_on_cause in
    answers-cause _ _ _ _ _ _ _ _ p.1 p.2 (arithmetic-third _ z.r z.v _ _ _ _ _ _ first second third) k.0 k.1

pub returns-clause-answers : goal.returns-clause-answers
returns-clause-answers c =
    let z = c.args in
    let first = first-at _ z.r z.v _ _ c.start-start.ensures.value c.in_ok-order_0.ensures.out_after in
    let second = sym c.in_ok-order_1.ensures.out_after in
    let third = sym c.in_ok-x.ensures.residual_after in
    answers-value _ _ _ _ _ _ _ _ (arithmetic-value _ z.r z.v _ _ _ _ _ _ _ first second third)
