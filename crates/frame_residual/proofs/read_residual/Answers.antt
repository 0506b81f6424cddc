-- `frame_residual::read_residual` meets its contract. The invariant: what is still to be read gives the whole. Assumes nothing.
use mathlib.Core.Path.{sym, ◌∙◌}
use native.Mathlib.Omega.{arith}
use lib.IntN.{pos}
use lib.ListN.{get_or}
use mir.Syntax.{w32}
use mir.Val.{SFits}
use Rattle.frame_residual.proofs.BitsLeft.{front-line, front-end, residual-done, residual-full, residual-skip, residual-more}
use Rattle.frame_residual.proofs.LateBits.{zero-yes, zero-no}
use Rattle.frame_residual.proofs.read_residual.Goals as goal
use Rattle.frame_residual.proofs.read_residual.Goals.{then-line-ne0+else-left-count, else-line-ne0}

pub returns-then-left-count-clause-bits_after : goal.returns-then-left-count-clause-bits_after
returns-then-left-count-clause-bits_after c =
    let l = c.loop-line in
    let f = front-line c.args.n l.line-index c.args.lines.now c.requires.n_in_bounds c.loop-line-test.true in
    let x = get_or c.args.lines.now l.line-index (pos 0) in
    let z = zero-no x (rw f.1 at c.if-line-ne0.true) in
    sym (sym l.invariant.1 ∙ residual-full _ _ _ _ _ l.line-index l.count l.bits f.0 z c.if-left-count.true)

pub loop-line-preserved : goal.loop-line-preserved
loop-line-preserved c =
    let l = c.loop-line in
    let f = front-line c.args.n l.line-index c.args.lines.now c.requires.n_in_bounds c.loop-line-test.true in
    let x = get_or c.args.lines.now l.line-index (pos 0) in
    elim c.if-line-ne0.branch [
      | then-line-ne0+else-left-count w ↦
          let z = zero-no x (rw f.1 at w.if-line-ne0.true) in
          let b = w.bit_at.ensures.value in
          let e = residual-more _ _ _ _ _ l.line-index l.count _ l.bits f.0 z w.if-left-count.false b in
          (omega arith, rw (w.count-is, w.bits-is) (e ∙ l.invariant.1))
      | else-line-ne0 w ↦
          let s : SFits w32 x = rw (← f.1) (record { sfits = omega arith }) in
          let z = zero-yes x s (rw f.1 at w.if-line-ne0.false) in
          (omega arith, rw (w.count-is, w.bits-is) (residual-skip _ _ _ _ _ l.line-index l.count l.bits f.0 z ∙ l.invariant.1))
    ]

pub returns-clause-bits_after : goal.returns-clause-bits_after
returns-clause-bits_after c =
    let l = c.loop-line in
    let e = front-end c.args.n l.line-index c.args.lines.now c.requires.n_in_bounds c.loop-line-test.false in
    sym (sym l.invariant.1 ∙ residual-done _ _ _ _ _ l.line-index l.count l.bits e)
