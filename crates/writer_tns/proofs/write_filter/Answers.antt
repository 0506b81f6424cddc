-- `writer_tns::write_filter` meets its contract. Nothing is sent, or the order and its coefficients. Assumes nothing.
use native.Mathlib.Omega.{arith}
use Rattle.coder_tables.specs.Tables.{order_table, coefficient_table}
use Rattle.coder_tables.proofs.Rules.{order_row}
use Rattle.writer_stream.proofs.Placing.{part_of}
use Rattle.writer_tns.proofs.TnsSteps.{filter_none, filter-sent}
use Rattle.writer_tns.proofs.write_filter.Goals as goal

pub returns-then-order-eq0-clause-result_after : goal.returns-then-order-eq0-clause-result_after
returns-then-order-eq0-clause-result_after c = filter_none _ _ c.args.w c.args.order c.args.l.now _ c.if-order-eq0.true

pub encode-d-requires-clause-part : goal.encode-d-requires-clause-part
encode-d-requires-clause-part c = rw c.tns_order.ensures (part_of _ (order_row _ c.requires.w_bound) (omega arith))

pub returns-clause-result_after : goal.returns-clause-result_after
returns-clause-result_after c =
    let a = c.args in
    let d = rw c.tns_order.ensures at c.encode-d.ensures.result_after in
    filter-sent order_table coefficient_table a.w a.order a.l.now _ _ _ c.if-order-eq0.false d c.coefficients.ensures.result_after
