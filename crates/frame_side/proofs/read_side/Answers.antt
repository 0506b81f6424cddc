-- `frame_side::read_side` meets its contract. Each part is read as its definition says, one after the other. Assumes nothing.
use mathlib.Core.Path.{sym}
use Rattle.std.proofs.lemmas.Result.{err_from_is_err_and}
use Rattle.frame_side.proofs.SideFields.{side-head, side-shape, side-done}
use Rattle.frame_side.proofs.read_side.Goals as goal

pub returns-in_err-head-clause-result_value : goal.returns-in_err-head-clause-result_value
returns-in_err-head-clause-result_value c =
    let p = err_from_is_err_and c.from_residual.result c.from_residual.ensures.1 in
    rw (p.1, p.2) (sym (side-head _ _ _ (sym c.in_err-head.ensures.result_value)))

pub returns-in_err-shape-clause-result_value : goal.returns-in_err-shape-clause-result_value
returns-in_err-shape-clause-result_value c =
    let p = err_from_is_err_and c.from_residual-in_err-shape.result c.from_residual-in_err-shape.ensures.1 in
    let head = sym c.in_ok-head.ensures.result_value in
    let flags = rw (c.from-bandwidth.ensures, c.tns_filters.ensures.value) at c.read_flags-flags.ensures.found in
    rw (p.1, p.2) (sym (side-shape _ _ _ _ _ _ _ head flags (sym c.in_err-shape.ensures.result_value)))

pub returns-clause-result_value : goal.returns-clause-result_value
returns-clause-result_value c =
    let head = sym c.in_ok-head.ensures.result_value in
    let flags = rw (c.from-bandwidth.ensures, c.tns_filters.ensures.value) at c.read_flags-flags.ensures.found in
    let tail = rw c.from.ensures at c.read_tail-tail.ensures.found in
    sym (side-done _ _ _ _ _ _ _ _ _ _ head flags (sym c.in_ok-shape.ensures.result_value) tail)
