-- `frame_pair::read_plane` meets its contract. The bits late, missing, or both there; each makes the value grow. Assumes nothing.
use mathlib.Core.Path.{sym}
use Rattle.std.proofs.lemmas.Result.{err_from_is_err_and}
use Rattle.frame_pair.proofs.Escaping.{bit-cause, plane-late, plane-first, plane-second, plane-both}
use Rattle.frame_pair.proofs.read_plane.Goals as goal

pub returns-then-level-lsb-clause-result_value : goal.returns-then-level-lsb-clause-result_value
returns-then-level-lsb-clause-result_value c = sym (plane-late _ _ _ _ _ _ c.if-level-lsb.true)

pub returns-in_err-a-clause-result_value : goal.returns-in_err-a-clause-result_value
returns-in_err-a-clause-result_value c =
    let p = err_from_is_err_and c.from_residual.result c.from_residual.ensures.1 in
    rw (p.1, p.2) (sym (plane-first _ _ _ _ _ _ _ c.if-level-lsb.false (sym c.in_err-a.ensures.result_value)))

pub returns-in_err-a-clause-good_plane : goal.returns-in_err-a-clause-good_plane
returns-in_err-a-clause-good_plane c =
    let p = err_from_is_err_and c.from_residual.result c.from_residual.ensures.1 in
    rw (p.1, p.2) (bit-cause _ _ _ c.in_err-a.ensures.result_value)

pub returns-in_err-b-clause-result_value : goal.returns-in_err-b-clause-result_value
returns-in_err-b-clause-result_value c =
    let p = err_from_is_err_and c.from_residual-in_err-b.result c.from_residual-in_err-b.ensures.1 in
    let a = sym c.in_ok-a.ensures.result_value in
    rw (p.1, p.2) (sym (plane-second _ _ _ _ _ _ _ _ _ c.if-level-lsb.false a (sym c.in_err-b.ensures.result_value)))

pub returns-in_err-b-clause-good_plane : goal.returns-in_err-b-clause-good_plane
returns-in_err-b-clause-good_plane c =
    let p = err_from_is_err_and c.from_residual-in_err-b.result c.from_residual-in_err-b.ensures.1 in
    rw (p.1, p.2) (bit-cause _ _ _ c.in_err-b.ensures.result_value)

pub returns-clause-result_value : goal.returns-clause-result_value
returns-clause-result_value c =
    let a = sym c.in_ok-a.ensures.result_value in
    let b = sym c.in_ok-b.ensures.result_value in
    sym (plane-both _ _ _ _ _ _ _ _ _ _ _ _ c.if-level-lsb.false a b c.above.ensures c.above-2.ensures)
