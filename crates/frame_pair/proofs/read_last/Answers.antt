-- `frame_pair::read_last` meets its contract. The loop has the rest of the escapes equal to the whole. Assumes nothing.
use mathlib.Core.Path.{sym, ◌∙◌}
use native.Mathlib.Omega.{arith}
use Rattle.std.proofs.lemmas.Result.{err_from_is_err_and}
use Rattle.coder_tables.specs.Tables.{look_table, spectrum_table}
use Rattle.coder_tables.proofs.Rules.{spectrum-tables}
use Rattle.frame_pair.proofs.Escaping.{row_at, last_none, last-stop, last_found, last_out, last_more}
use Rattle.frame_pair.proofs.read_last.Goals as goal

pub decode-requires-clause-symbol_row : goal.decode-requires-clause-symbol_row
decode-requires-clause-symbol_row c = record {
  row = rw c.spectrum.ensures (row_at look_table spectrum_table c.args.base c.loop-level.level c.row_of.result spectrum-tables
      c.requires.base_bound c.row_of.ensures.value);
  place = c.row_of.ensures.upper_bound;
  short = omega arith;
}

pub returns-in_err-got-clause-result_value : goal.returns-in_err-got-clause-result_value
returns-in_err-got-clause-result_value c =
    let p = err_from_is_err_and c.from_residual.result c.from_residual.ensures.1 in
    let e = rw (c.row_of.ensures.value, c.spectrum.ensures) at (sym c.in_err-got.ensures.result_value) in
    rw (p.1, p.2) (sym (last-stop _ _ _ _ _ _ _ _ _ _ _ c.loop-level-test.true e) ∙ c.loop-level.invariant.4)

pub returns-then-got-lt16-clause-result_value : goal.returns-then-got-lt16-clause-result_value
returns-then-got-lt16-clause-result_value c =
    let known = rw (c.row_of.ensures.value, c.spectrum.ensures) at (sym c.in_ok-got.ensures.result_value) in
    sym (last_found _ _ _ _ _ _ _ _ _ _ _ _ c.loop-level-test.true known c.if-got-lt16.true) ∙ c.loop-level.invariant.4

pub returns-in_err-plane-clause-result_value : goal.returns-in_err-plane-clause-result_value
returns-in_err-plane-clause-result_value c =
    let p = err_from_is_err_and c.from_residual-in_err-plane.result c.from_residual-in_err-plane.ensures.1 in
    let known = rw (c.row_of.ensures.value, c.spectrum.ensures) at (sym c.in_ok-got.ensures.result_value) in
    let e = sym c.in_err-plane.ensures.result_value in
    rw (p.1, p.2)
    (sym (last_out _ _ _ _ _ _ _ _ _ _ _ _ _ c.loop-level-test.true known c.if-got-lt16.false e) ∙ c.loop-level.invariant.4)

pub loop-level-preserved : goal.loop-level-preserved
loop-level-preserved c =
    let known = rw (c.row_of.ensures.value, c.spectrum.ensures) at (sym c.in_ok-got.ensures.result_value) in
    let g = c.in_ok-got.ensures.good_symbol in
    let t = g.1 in
    let b = c.in_ok-plane.ensures.good_plane in
    let e = sym c.in_ok-plane.ensures.result_value in (
      b.0,
      b.1,
      omega arith,
      g.2,
      last_more _ _ _ _ _ _ _ _ _ _ _ _ _ _ _ c.loop-level-test.true known c.if-got-lt16.false e ∙ c.loop-level.invariant.4,
    )

pub returns-clause-result_value : goal.returns-clause-result_value
returns-clause-result_value c =
    sym (last_none _ _ _ _ _ _ _ _ _ _ c.loop-level-test.false) ∙ c.loop-level.invariant.4
