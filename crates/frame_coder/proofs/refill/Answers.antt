-- `frame_coder::refill` meets its contract. The loop keeps what is still to be taken equal to the whole; two bytes are enough. Assumes
-- nothing.
use mathlib.Core.Path.{sym, ◌∙◌}
use native.Mathlib.Omega.{arith}
use Rattle.frame_coder.proofs.Decoding.{refill-wide, refill-out, refill-more}
use Rattle.frame_coder.proofs.refill.Goals as goal

pub returns-then-s-next-clause-result_value : goal.returns-then-s-next-clause-result_value
returns-then-s-next-clause-result_value c =
    let l = c.loop-next in
    let i = l.invariant in
    sym (refill-out _ _ _ l.next (omega arith) c.loop-next-test.true c.if-s-next.true) ∙ i.5

pub loop-next-preserved : goal.loop-next-preserved
loop-next-preserved c =
    let l = c.loop-next in
    let i = l.invariant in
    let w = i.0 in
    let b = c.type_inv.s l.next.at in (
      record { low = omega arith; wide = omega arith; range = omega arith; at = omega arith; end = omega arith },
      i.1,
      omega arith,
      omega arith,
      omega arith,
      rw c.from.ensures (refill-more _ _ _ _ l.next (omega arith) c.loop-next-test.true c.if-s-next.false ∙ i.5),
    )

pub returns-clause-result_value : goal.returns-clause-result_value
returns-clause-result_value c =
    let l = c.loop-next in sym (refill-wide _ _ _ l.next c.loop-next-test.false) ∙ l.invariant.5
