-- `writer_side::put_side` meets its contract: the four parts in a row. Assumes nothing.
use native.Mathlib.Omega.{arith}
use Rattle.frame_settings.specs.Settings.{filters_of}
use Rattle.writer_side.proofs.Fields.{side_parts, side-puts, flags_fit, flags-same, tail-same}
use Rattle.writer_side.proofs.put_side.Goals as goal

pub put_head-c1-requires-clause-h_value : goal.put_head-c1-requires-clause-h_value
put_head-c1-requires-clause-h_value c = (side_parts c.args.r c.args.v c.requires.v_value).0

pub put_flags-c2-requires-clause-f_value : goal.put_flags-c2-requires-clause-f_value
put_flags-c2-requires-clause-f_value c =
    flags-same _ _ _ _ c.args.v.flags c.tns_filters.ensures.value c.from.ensures (side_parts c.args.r c.args.v c.requires.v_value).1

pub put_shape-c3-requires-clause-q_value : goal.put_shape-c3-requires-clause-q_value
put_shape-c3-requires-clause-q_value c = (side_parts c.args.r c.args.v c.requires.v_value).2

pub put_tail-requires-clause-pitch_bound : goal.put_tail-requires-clause-pitch_bound
put_tail-requires-clause-pitch_bound c =
    let v = c.args.v in
    let f = flags_fit (filters_of c.args.r.duration) v.head.bandwidth v.flags (side_parts c.args.r v c.requires.v_value).1 in
    omega (arith, f.2)

pub put_tail-requires-clause-t_value : goal.put_tail-requires-clause-t_value
put_tail-requires-clause-t_value c =
    tail-same _ _ c.args.v.tail c.from-2.ensures (side_parts c.args.r c.args.v c.requires.v_value).3

pub returns-clause-kept : goal.returns-clause-kept
returns-clause-kept c =
    side-puts c.args.r c.args.v _ _ _ _ _ _ _ _ _ _ _ _ c.tns_filters.ensures.value c.from.ensures c.from-2.ensures
    c.requires.side_value c.put_head-c1.ensures.puts c.put_flags-c2.ensures.puts c.put_shape-c3.ensures.puts c.put_tail.ensures.puts
