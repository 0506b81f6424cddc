-- `frame_finish::read_lates` meets its contract. The invariant: what is still to be read gives the whole, and the lines to come have
-- room.
-- Assumes nothing.
use mathlib.Core.Path.{sym, ap, ◌∙◌}
use Prim.Native.Nat.{◌<◌}
use native.Mathlib.Omega.{arith}
use lib.ListN.{length, get_or}
use lib.IntN.{pos}
use mir.Syntax.{w32}
use mir.Val.{to_z, of_z}
use mir.ValLaws.{to_z-of_z}
use Rattle.frame_residual.specs.Residual.{late_given}
use Rattle.frame_finish.proofs.LateLines.{lates-done, lates-skip, lates-stop, lates-more, room-skip, room_next, same-small, small-fits}
use Rattle.frame_finish.proofs.read_lates.Goals as goal
use Rattle.frame_finish.proofs.read_lates.Goals.{then-levels-k-ne0+in-Some, else-levels-k-ne0}

pub returns-in_default-clause-lines_after : goal.returns-in_default-clause-lines_after
returns-in_default-clause-lines_after c =
    let l = c.loop-k in
    let x = get_or l.lines l.k (pos 0) in
    let i = to_z-of_z w32 x (small-fits x x (omega arith) (l.invariant.1.small l.k)) in
    let f = sym c.read_late.ensures.result_value ∙ ap late_given c.in_default.is in
    sym (sym l.invariant.2 ∙ lates-stop _ _ _ l.k _ l.p l.left _ c.loop-k-test.true c.if-levels-k-ne0.true i f)

pub loop-k-preserved : goal.loop-k-preserved
loop-k-preserved c =
    let l = c.loop-k in
    let h = c.loop-k-test.true in
    let x = get_or l.lines l.k (pos 0) in
    let s = l.invariant.1.small l.k in
    let i = to_z-of_z w32 x (small-fits x x (omega arith) s) in
    elim c.if-levels-k-ne0.branch [
      | then-levels-k-ne0+in-Some w ↦
          let v = w.in-Some.late.value in
          let g = w.in-Some.ensures.good_late in
          let o = to_z-of_z w32 v (small-fits v (to_z w32 (of_z w32 x)) g.0 (same-small x _ i s)) in
          let z = w.if-levels-k-ne0.true in
          let f = g.1 in
          let long : l.k < length l.lines = omega arith in
          rw (w.lines-is, w.p-is, w.left-is) (
            omega arith,
            room_next l.k _ _ _ v _ long z i o g.0 l.invariant.1,
            lates-more _ _ _ l.k _ l.p l.left _ v _ _ _ h z i o (sym w.in-Some.ensures.result_value) ∙ l.invariant.2,
          )
      | else-levels-k-ne0 w ↦
          rw (w.lines-is, w.p-is, w.left-is)
          (l.invariant.0, room-skip l.k _ _ l.invariant.1, lates-skip _ _ _ l.k _ l.p l.left h w.if-levels-k-ne0.false ∙ l.invariant.2)
    ]

pub returns-clause-lines_after : goal.returns-clause-lines_after
returns-clause-lines_after c = sym (sym c.loop-k.invariant.2 ∙ lates-done _ _ _ c.loop-k.k _ _ _ c.loop-k-test.false)
