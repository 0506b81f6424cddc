-- `writer_stream::encode` meets its contract. The symbol is placed, with or without a carry, and the range widened. Assumes nothing.
use mathlib.Core.Path.{sym, ap, subst, ◌∙◌}
use Prim.Native.Nat.{ℕ, ◌+◌, ◌-◌, ◌*◌, ◌/◌}
use Rattle.writer_laws.specs.Stream.{widened, coded}
use Rattle.writer_steps.specs.Flow.{Carried}
use Rattle.writer_stream.proofs.Placing.{Placing, placing-plain, placing-carried}
use Rattle.writer_stream.proofs.encode.Goals as goal
use Rattle.writer_stream.proofs.encode.Goals.{then-low-ge16777216, else-low-ge16777216}

-- where both ways meet the symbol is placed
pub returns-clause-result_after : goal.returns-clause-result_after
unfolding coded
returns-clause-result_after c =
    let a = c.args in
    let h = c.requires in
    let x = c.from.result in
    let y = c.from-2.result in
    let t : ℕ = a.c.range / 1024 in
    let p : Placing a.cum.now a.row a.v a.front.now a.c c.if-low-ge16777216.front
    (record { low = c.if-low-ge16777216.low; range = t * y - t * x; at = a.c.at; taken = a.c.taken + 1 }) =
    elim c.if-low-ge16777216.branch [
      | then-low-ge16777216 w ↦ placing-carried _ _ x y h.part h.flows c.from.ensures c.from-2.ensures
          w.if-low-ge16777216.true w.low-is (subst (Carried (a.c.at - 3) a.front.now) (sym w.front-is) w.carry.ensures)
      | else-low-ge16777216 w ↦ placing-plain _ _ x y h.part h.flows c.from.ensures c.from-2.ensures
          w.if-low-ge16777216.false w.low-is w.front-is
    ] in
    c.widen.ensures.result_after ∙ ap (widened 2) p.whole
