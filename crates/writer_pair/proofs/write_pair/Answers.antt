-- `writer_pair::write_pair` meets its contract. The escapes with the last symbol, then both signs. Assumes nothing.
use native.Mathlib.Omega.{arith}
use Rattle.coder_tables.specs.Tables.{look_table, spectrum_table}
use Rattle.writer_pair.proofs.Walking.{size_is, size_small, sign-puts, sign_at, sign-room, pair-sent, pair-sends, pair-context}
use Rattle.writer_pair.proofs.write_pair.Goals as goal

pub write_levels-w-requires : goal.write_levels-w-requires
write_levels-w-requires c = let a = c.args in record {
  base_bound = c.requires.base_bound;
  x_bound = size_small a.u c.requires.u_bound c.unsigned_abs.ensures.value;
  y_bound = size_small a.v c.requires.v_bound c.unsigned_abs-2.ensures.value;
  sends = c.requires.sends;
}

pub write_sign-p2-requires : goal.write_sign-p2-requires
write_sign-p2-requires c = let m = c.requires.sends.written in
    let n = c.write_levels-w.ensures.sends_2.written in
    record {
      fact = c.write_levels-w.ensures.sends_2.sides;
      at_bound = omega arith;
    }

pub write_sign-p3-requires : goal.write_sign-p3-requires
write_sign-p3-requires c = let m = c.requires.sends.written in
    let n = c.write_levels-w.ensures.sends_2.written in
    let u = c.args.u in
    record {
      fact = c.write_sign-p2.ensures.fact_2;
      at_bound = sign-room u m n (sign_at u c.requires.u_bound _ c.write_sign-p2.ensures.at_value);
    }

pub returns : goal.returns
returns c = let a = c.args in
    let hu = c.requires.u_bound in
    let hv = c.requires.v_bound in
    let isx = size_is a.u hu c.unsigned_abs.ensures.value in
    let isy = size_is a.v hv c.unsigned_abs-2.ensures.value in
    let at2 = sign_at a.u hu c.write_levels-w.result.side.at c.write_sign-p2.ensures.at_value in
    let at3 = sign_at a.v hv c.write_sign-p2.result.at c.write_sign-p3.ensures.at_value in record {
      context_value = pair-context _ _ a.u a.v a.context c.write_levels-w.result.symbol c.write_levels-w.result.level _ isx isy hu hv
          c.write_levels-w.ensures.level_value c.write_levels-w.ensures.symbol_value
          c.next_context.ensures.value;
      context_bound = c.next_context.ensures.upper_bound;
      sent = pair-sent look_table spectrum_table a.base _ _ a.u a.v isx isy a.front.now _ a.side.now _ _ _ a.c _ a.p _ _ _
          c.write_levels-w.ensures.sent (sign-puts a.u hu c.write_sign-p2.ensures.puts) at2
          (sign-puts a.v hv c.write_sign-p3.ensures.puts) at3;
      sends_2 = pair-sends a.u a.v a.p.at c.write_sign-p2.result.at c.write_levels-w.ensures.sends_2 c.write_sign-p3.ensures.fact_2 at2
          at3;
    }
