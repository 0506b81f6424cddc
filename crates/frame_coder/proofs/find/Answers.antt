-- `frame_coder::find` meets its contract. The loop carries the scaled entries round the symbol reached; the row rises, so it is the
-- largest. Assumes nothing.
use mathlib.Core.Path.{sym}
use native.Mathlib.Nat.{le_refl}
use Rattle.frame_coder.proofs.Decoding.{largest-is}
use Rattle.frame_coder.proofs.find.Goals as goal

pub returns-clause-symbol_value : goal.returns-clause-symbol_value
returns-clause-symbol_value c =
    let l = c.loop-above in
    let a = c.args in
    sym (largest-is a.t a.low l.v a.last c.requires.symbol_row.row (rw l.invariant.1 at l.invariant.3) l.invariant.0 (le_refl a.last)
    (λ k. rw l.invariant.2 at c.loop-above-test.false))
