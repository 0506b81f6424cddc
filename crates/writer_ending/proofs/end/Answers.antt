-- `writer_ending::end` meets its contract. The last multiple is put behind the bytes, with or without a carry. Assumes nothing.
use mathlib.Core.Path.{sym, subst}
use Prim.Native.Nat.{◌-◌, ◌%◌}
use Rattle.writer_steps.specs.Flow.{Carried}
use Rattle.writer_ending.proofs.Finishing.{Last, Before, last_of, carry-fits, before_same, before-carried, end-done}
use Rattle.writer_ending.proofs.end.Goals as goal
use Rattle.writer_ending.proofs.end.Goals.{then-v-ge16777216, else-v-ge16777216}

pub carry-requires-clause-n_bound : goal.carry-requires-clause-n_bound
carry-requires-clause-n_bound c =
    let g = c.exponent.ensures in
    let v = c.round_up-v.ensures in
    let l = last_of c.requires.flows c.requires.at_bound g.result_value g.lower_bound g.upper_bound v.value v.upper_bound in
    carry-fits l c.if-v-ge16777216.true

pub returns-clause-front_after : goal.returns-clause-front_after
returns-clause-front_after c =
    let a = c.args in
    let g = c.exponent.ensures in
    let v = c.round_up-v.ensures in
    let l : Last a.front.now a.c c.exponent.result c.round_up-v.result =
    last_of c.requires.flows c.requires.at_bound g.result_value g.lower_bound g.upper_bound v.value v.upper_bound in
    let b : Before a.front.now a.c c.exponent.result c.round_up-v.result c.if-v-ge16777216.front (c.round_up-v.result % 16777216) =
    elim c.if-v-ge16777216.branch [
      | then-v-ge16777216 w ↦ before-carried l w.if-v-ge16777216.true
          (subst (Carried (a.c.at - 3) a.front.now) (sym w.front-is) w.carry.ensures)
      | else-v-ge16777216 w ↦ before_same l w.if-v-ge16777216.false w.front-is
    ] in
    end-done b
