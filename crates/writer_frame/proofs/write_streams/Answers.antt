-- `writer_frame::write_streams` meets its contract. The side information, both filters, and the pairs. Assumes nothing.
use native.Mathlib.Omega.{arith}
use Rattle.writer_laws.specs.Writing.{Given, given}
use Rattle.writer_frame.proofs.Asked.{asked}
use Rattle.writer_frame.proofs.Streaming.{start-counts, filtered-is, sends-filtered, streams-are}
use Rattle.writer_frame.proofs.write_streams.Goals as goal

pub put_side-p-requires : goal.put_side-p-requires
put_side-p-requires c =
    let a = asked c.requires.writable in
    record {
      known = c.requires.writable.known;
      v_value = a.side;
      side_value = c.requires.side_value;
    }

pub write_filter-c1-requires : goal.write_filter-c1-requires
write_filter-c1-requires c =
    let a = asked c.requires.writable in
    let n = start-counts _ c.start-c.ensures.result_value in
    let e = c.from.ensures in
    let m = a.order0 in
    let n0 = n.0 in
    let n1 = n.1 in
    record {
      w_bound = c.tns_weighting-w.ensures.upper_bound;
      order_bound = omega arith;
      l_len = c.requires.writable.first;
      sendable = (λ k h. a.first k (omega arith));
      flows = c.start-c.ensures.flows;
      at_bound = omega arith;
      taken_bound = omega arith;
    }

pub write_filter-c2-requires : goal.write_filter-c2-requires
write_filter-c2-requires c =
    let a = asked c.requires.writable in
    let n = start-counts _ c.start-c.ensures.result_value in
    let e = c.from-2.ensures in
    let m = a.order1 in
    let n0 = n.0 in
    let n1 = n.1 in
    let more0 = c.write_filter-c1.ensures.within.at in
    let more1 = c.write_filter-c1.ensures.within.taken in
    record {
      w_bound = c.tns_weighting-w.ensures.upper_bound;
      order_bound = omega arith;
      l_len = c.requires.writable.second;
      sendable = (λ k h. a.second k (omega arith));
      flows = c.write_filter-c1.ensures.flows_2;
      at_bound = omega arith;
      taken_bound = omega arith;
    }

pub write_pairs-requires : goal.write_pairs-requires
write_pairs-requires c =
    let a = asked c.requires.writable in
    let n = start-counts _ c.start-c.ensures.result_value in
    let m0 = a.some in
    let m1 = a.most in
    let m2 = a.inside in
    let whole : Given =
    given c.args.f c.args.first.now c.args.second.now c.args.lines.now c.args.bits.now in
    let sends =
    sends-filtered c.args.r c.args.bytes whole _ _ _ _ _ _ c.write_filter-c2.ensures.flows_2 c.put_side-p.ensures.fact
    c.put_side-p.ensures.at_bound n.0 n.1
    c.write_filter-c1.ensures.within c.write_filter-c2.ensures.within in
    record {
      offset_bound = c.rate_offset.ensures.upper_bound;
      le_n = omega arith;
      n_bound = omega arith;
      n_in_bounds = omega arith;
      small = a.small;
      bytes_bound = c.requires.writable.most;
      sends = sends;
    }

pub returns : goal.returns
returns c =
    let whole : Given =
    given c.args.f c.args.first.now c.args.second.now c.args.lines.now c.args.bits.now in
    let e =
    filtered-is c.args.r c.args.bytes whole _ _ _ _ _ _ c.tns_weighting-w.ensures.value c.from.ensures
    c.from-2.ensures c.start-c.ensures.result_value c.write_filter-c1.ensures.result_after c.write_filter-c2.ensures.result_after in
    streams-are c.args.r c.args.bytes whole _ c.write_pairs.new.front _ c.write_pairs.new.side _ _ e c.put_side-p.ensures.kept _ _ _
    c.write_pairs.result c.from-3.ensures c.rate_offset.ensures.value
    c.from-4.ensures c.write_pairs.ensures
