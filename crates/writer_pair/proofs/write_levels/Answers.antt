-- `writer_pair::write_levels` meets its contract. The loop has what is left to write make the whole. Assumes nothing.
use mathlib.Core.Logic.{inl, inr}
use native.Mathlib.Omega.{arith}
use Rattle.coder_tables.proofs.Rules.{spectrum-tables}
use Rattle.writer_laws.proofs.Levels.{Escapes}
use Rattle.writer_pair.proofs.Walking.{part_at, escapes-of, walks-first, walks-room, walks-below, walks_more, walks-last}
use Rattle.writer_pair.proofs.write_levels.Goals as goal
use Rattle.writer_pair.proofs.write_levels.Goals.{then-a-ge4, else-a-ge4+then-b-ge4}

pub loop-a-init : goal.loop-a-init
loop-a-init c = walks-first _ _ _ _ _ _ _ _ _ c.requires.sends.flows c.requires.sends.sides

pub encode-c-requires : goal.encode-c-requires
encode-c-requires c =
    let s = c.requires.sends in
    let room = walks-room c.requires.x_bound c.requires.y_bound c.loop-a.invariant s.at s.taken s.written in
    record {
      part = rw c.spectrum-cum.ensures
          (part_at _ _ _ c.loop-a.level _ 16 spectrum-tables c.requires.base_bound c.row_of.ensures.value (omega arith));
      flows = c.loop-a.invariant.flows;
      at_bound = room.at;
      taken_bound = room.taken;
    }

pub put-p-requires : goal.put-p-requires
put-p-requires c =
    let s = c.requires.sends in
    let room = walks-room c.requires.x_bound c.requires.y_bound c.loop-a.invariant s.at s.taken s.written in
    record {
      w_bound = omega arith;
      v_bound = omega arith;
      fact = c.loop-a.invariant.sides;
      at_bound = room.written;
    }

pub overflow_add-level : goal.overflow_add-level
overflow_add-level c =
    let more : Escapes c.loop-a.a c.loop-a.b =
    escapes-of _ _ (elim c.if-a-ge4.branch [ then-a-ge4 w ↦ inl w.if-a-ge4.true | else-a-ge4+then-b-ge4 w ↦ inr w.if-b-ge4.true ])
    (λ t. t) (λ t. t) in
    let less = walks-below c.requires.x_bound c.requires.y_bound c.loop-a.invariant more in
    record { fits = omega arith }

pub loop-a-smaller : goal.loop-a-smaller
loop-a-smaller c =
    let more : Escapes c.loop-a.a c.loop-a.b =
    escapes-of _ _ (elim c.if-a-ge4.branch [ then-a-ge4 w ↦ inl w.if-a-ge4.true | else-a-ge4+then-b-ge4 w ↦ inr w.if-b-ge4.true ])
    (λ t. t) (λ t. t) in
    let less = walks-below c.requires.x_bound c.requires.y_bound c.loop-a.invariant more in
    omega arith

pub loop-a-preserved : goal.loop-a-preserved
loop-a-preserved c =
    let more : Escapes c.loop-a.a c.loop-a.b =
    escapes-of _ _ (elim c.if-a-ge4.branch [ then-a-ge4 w ↦ inl w.if-a-ge4.true | else-a-ge4+then-b-ge4 w ↦ inr w.if-b-ge4.true ])
    (λ t. t) (λ t. t) in
    let d = rw c.spectrum-cum.ensures at c.encode-c.ensures.result_after in
    walks_more c.requires.x_bound c.requires.y_bound c.loop-a.invariant _ _ _ _ _ more c.row_of.ensures.value d
    c.encode-c.ensures.flows_2 c.encode-c.ensures.one_more
    c.put-p.ensures.puts c.put-p.ensures.fact_2 c.put-p.ensures.at_value

pub encode-last-requires : goal.encode-last-requires
encode-last-requires c =
    let s = c.requires.sends in
    let room = walks-room c.requires.x_bound c.requires.y_bound c.loop-a.invariant s.at s.taken s.written in
    record {
      part = rw c.spectrum-cum.ensures
          (part_at _ _ _ c.loop-a.level _ _ spectrum-tables c.requires.base_bound c.row_of-2.ensures.value (omega arith));
      flows = c.loop-a.invariant.flows;
      at_bound = room.at;
      taken_bound = room.taken;
    }

pub returns : goal.returns
returns c =
    let d = rw c.spectrum-cum.ensures at c.encode-last.ensures.result_after in
    let u = walks-last c.requires.x_bound c.requires.y_bound c.loop-a.invariant _ _ _ c.if-a-ge4.false c.if-b-ge4.false
    c.row_of-2.ensures.value d c.encode-last.ensures.flows_2 c.encode-last.ensures.one_more in record
    { level_value = u.0; symbol_value = u.1.0; symbol_bound = u.1.1.0; sent = u.1.1.1.0; sends_2 = u.1.1.1.1 }
