-- `frame_tns::filter` meets its contract. Each return is one of the definition's answers. Assumes nothing.
use mathlib.Core.Path.{sym}
use native.Mathlib.Omega.{arith}
use Rattle.std.proofs.lemmas.Result.{err_from_is_err_and}
use Rattle.coder_tables.proofs.Rules.{order_row}
use Rattle.frame_tns.proofs.CoefficientSteps.{filter-unused, no-order, order-above, no-coefficients, filter-whole}
use Rattle.frame_tns.proofs.filter.Goals as goal

pub returns-then-flag-eq0-clause-out_after : goal.returns-then-flag-eq0-clause-out_after
returns-then-flag-eq0-clause-out_after c = rw c.requires.out_value (sym (filter-unused _ _ _ _ _ _ c.if-flag-eq0.true))

pub decode-requires-clause-symbol_row : goal.decode-requires-clause-symbol_row
decode-requires-clause-symbol_row c = let w = c.tns_weighting-w in record {
  row = rw c.tns_order.ensures (order_row w.result w.ensures.upper_bound);
  place = omega arith;
  short = omega arith;
}

pub returns-in_err-symbol-clause-out_after : goal.returns-in_err-symbol-clause-out_after
returns-in_err-symbol-clause-out_after c =
    let p = err_from_is_err_and c.from_residual.result c.from_residual.ensures.1 in
    let e = rw (c.tns_weighting-w.ensures.value, c.tns_order.ensures) at (sym c.in_err-symbol.ensures.result_value) in
    rw (p.1, p.2) (sym (no-order _ _ _ _ _ _ _ c.if-flag-eq0.false e))

pub returns-then-highest_order-order-clause-out_after : goal.returns-then-highest_order-order-clause-out_after
returns-then-highest_order-order-clause-out_after c =
    let order = rw (c.tns_weighting-w.ensures.value, c.tns_order.ensures) at (sym c.in_ok-symbol.ensures.result_value) in
    let above = rw c.highest_order.ensures at c.if-highest_order-order.true in
    sym (order-above _ _ _ _ _ _ c.if-flag-eq0.false _ _ order above)

pub returns-in_err-next-clause-out_after : goal.returns-in_err-next-clause-out_after
returns-in_err-next-clause-out_after c =
    let p = err_from_is_err_and c.from_residual-in_err-next.result c.from_residual-in_err-next.ensures.1 in
    let order = rw (c.tns_weighting-w.ensures.value, c.tns_order.ensures) at (sym c.in_ok-symbol.ensures.result_value) in
    let within = rw c.highest_order.ensures at c.if-highest_order-order.false in
    let e = sym (rw c.requires.out_value at c.in_err-next.ensures.out_after) in
    rw (p.1, p.2) (sym (no-coefficients _ _ _ _ _ _ c.if-flag-eq0.false _ _ order within _ e))

pub returns-clause-out_after : goal.returns-clause-out_after
returns-clause-out_after c =
    let order = rw (c.tns_weighting-w.ensures.value, c.tns_order.ensures) at (sym c.in_ok-symbol.ensures.result_value) in
    let within = rw c.highest_order.ensures at c.if-highest_order-order.false in
    let read = sym (rw c.requires.out_value at c.in_ok-next.ensures.out_after) in
    sym (filter-whole _ _ _ _ _ _ c.if-flag-eq0.false _ _ order within _ _ read)
