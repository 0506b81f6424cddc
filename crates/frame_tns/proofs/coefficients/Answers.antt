-- `frame_tns::coefficients` meets its contract. The loop keeps what is still to be read equal to the whole. Assumes nothing.
use mathlib.Core.Path.{sym, ◌∙◌}
use native.Mathlib.Omega.{arith}
use Rattle.std.proofs.lemmas.Result.{err_from_is_err_and}
use Rattle.coder_tables.proofs.Rules.{coefficient-row}
use Rattle.frame_tns.proofs.CoefficientSteps.{coefficients-done, coefficients-cause, coefficients-more}
use Rattle.frame_tns.proofs.coefficients.Goals as goal

pub decode-requires-clause-symbol_row : goal.decode-requires-clause-symbol_row
decode-requires-clause-symbol_row c =
    record {
      row = rw c.tns_coefficients-rows.ensures (coefficient-row c.loop-k.k (omega arith));
      place = omega arith;
      short = omega arith;
    }

pub returns-in_err-symbol-clause-out_after : goal.returns-in_err-symbol-clause-out_after
returns-in_err-symbol-clause-out_after c =
    let p = err_from_is_err_and c.from_residual.result c.from_residual.ensures.1 in
    let l = c.loop-k in
    let e = rw c.tns_coefficients-rows.ensures at (sym c.in_err-symbol.ensures.result_value) in
    rw (p.1, p.2) (sym (coefficients-cause _ _ _ l.k _ _ _ c.loop-k-test.true e) ∙ l.invariant.2)

pub loop-k-preserved : goal.loop-k-preserved
loop-k-preserved c =
    let l = c.loop-k in
    let g = c.in_ok-symbol.ensures.good_symbol in
    let t = g.1 in
    let e = rw c.tns_coefficients-rows.ensures at (sym c.in_ok-symbol.ensures.result_value) in
    (g.2, omega arith, coefficients-more _ _ _ l.k _ _ _ _ c.loop-k-test.true e ∙ l.invariant.2)

pub returns-clause-out_after : goal.returns-clause-out_after
returns-clause-out_after c =
    let l = c.loop-k in sym (coefficients-done _ _ _ l.k _ _ c.loop-k-test.false) ∙ l.invariant.2
