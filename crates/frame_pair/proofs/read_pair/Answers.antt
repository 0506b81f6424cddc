-- `frame_pair::read_pair` meets its contract. `rest` is the pair behind its last symbol. Assumes nothing.
use mathlib.Core.Path.{sym, ◌∙◌}
use Prim.Native.Nat.{◌/◌, ◌%◌}
use native.Mathlib.Omega.{arith}
use Rattle.std.proofs.lemmas.Result.{err_from_is_err_and}
use Rattle.frame_pair.proofs.Escaping.{room, pair-stop, pair-signed, signed-first, signed-second, signed-crossed, signed-read}
use Rattle.frame_pair.proofs.read_pair.Goals as goal

pub returns-in_err-last-clause-result_value : goal.returns-in_err-last-clause-result_value
returns-in_err-last-clause-result_value c =
    let p = err_from_is_err_and c.from_residual.result c.from_residual.ensures.1 in
    rw (p.1, p.2) (sym (pair-stop _ _ _ _ _ _ _ _ _ (sym c.in_err-last.ensures.result_value)))

pub returns-in_err-xsign-clause-result_value : goal.returns-in_err-xsign-clause-result_value
returns-in_err-xsign-clause-result_value c =
    let p = err_from_is_err_and c.from_residual-in_err-xsign.result c.from_residual-in_err-xsign.ensures.1 in
    let last = sym c.in_ok-last.ensures.result_value in
    let rest = pair-signed _ _ _ _ _ _ _ _ _ _ _ _ _ last c.above-x.ensures c.above-y.ensures in
    rw (p.1, p.2) (sym (rest ∙ signed-first _ _ _ _ _ _ _ _ (sym c.in_err-xsign.ensures.result_value)))

pub returns-in_err-ysign-clause-result_value : goal.returns-in_err-ysign-clause-result_value
returns-in_err-ysign-clause-result_value c =
    let p = err_from_is_err_and c.from_residual-in_err-ysign.result c.from_residual-in_err-ysign.ensures.1 in
    let last = sym c.in_ok-last.ensures.result_value in
    let rest = pair-signed _ _ _ _ _ _ _ _ _ _ _ _ _ last c.above-x.ensures c.above-y.ensures in
    let first = sym c.in_ok-xsign.ensures.result_value in
    rw (p.1, p.2) (sym (rest ∙ signed-second _ _ _ _ _ _ _ _ _ _ first (sym c.in_err-ysign.ensures.result_value)))

pub returns-then-s-coder-clause-result_value : goal.returns-then-s-coder-clause-result_value
returns-then-s-coder-clause-result_value c =
    let last = sym c.in_ok-last.ensures.result_value in
    let rest = pair-signed _ _ _ _ _ _ _ _ _ _ _ _ _ last c.above-x.ensures c.above-y.ensures in
    let first = sym c.in_ok-xsign.ensures.result_value in
    let second = sym c.in_ok-ysign.ensures.result_value in
    sym (rest ∙ signed-crossed _ _ _ _ _ _ _ _ _ _ _ first second c.if-s-coder.true)

pub returns-clause-result_value : goal.returns-clause-result_value
returns-clause-result_value c =
    let last = sym c.in_ok-last.ensures.result_value in
    let rest = pair-signed _ _ _ _ _ _ _ _ _ _ _ _ _ last c.above-x.ensures c.above-y.ensures in
    let first = sym c.in_ok-xsign.ensures.result_value in
    let second = sym c.in_ok-ysign.ensures.result_value in
    sym (rest ∙ signed-read _ _ _ _ _ _ _ _ _ _ _ _ first second c.if-s-coder.false c.next_context.ensures.value)

pub returns-clause-good_pair : goal.returns-clause-good_pair
returns-clause-good_pair c =
    let g = c.in_ok-last.ensures.good_last in
    let l = c.in_ok-last.last.value in (
      rw c.above-x.ensures (room _ l.level l.x (l.symbol % 4) g.2 (omega arith) g.1),
      rw c.above-y.ensures (room _ l.level l.y (l.symbol / 4) g.3 (omega (arith, g.0)) g.1),
      g.1,
      c.next_context.ensures.upper_bound,
      g.4,
      omega (arith, c.if-s-coder.false),
      g.5,
    )
