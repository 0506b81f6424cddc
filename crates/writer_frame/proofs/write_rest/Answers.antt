-- `writer_frame::write_rest` meets its contract. Both streams are ended and joined. Assumes nothing.
use native.Mathlib.Omega.{arith}
use Rattle.std.proofs.Common.{rules}
use Rattle.laws.specs.Tab.{Below}
use Rattle.writer_frame.proofs.Resting.{bits_most, rest-apart, rest-is}
use Rattle.writer_frame.proofs.write_rest.Goals as goal

pub put_bits-q-requires : goal.put_bits-q-requires
put_bits-q-requires c = let m = bits_most c.requires in
    record {
      n_in_bounds = c.requires.inside;
      binary = c.requires.binary;
      fact = c.requires.sends.sides;
      n_bound = omega arith;
    }

pub close-requires : goal.close-requires
close-requires c = let m = bits_most c.requires in
    let e = c.put_bits-q.ensures.at_value in
    record {
      fact = c.put_bits-q.ensures.fact_2;
      at_bound = omega arith;
    }

pub end-requires : goal.end-requires
end-requires c = let a = c.requires.sends.at in
    record {
      flows = c.requires.sends.flows;
      at_bound = omega arith;
    }

pub join-requires : goal.join-requires
join-requires c =
    let bytes : Below 256 c.end.new.front = search rules in
    let a =
    rest-apart c.requires _ _ c.close.new.side _ c.put_bits-q.ensures.puts c.put_bits-q.ensures.at_value c.close.ensures.closes
    c.end.ensures.front_after bytes in
    record {
      front_len = c.end.ensures.front_len;
      side_len = c.close.ensures.side_len;
      frame_len_bound = c.requires.most;
      apart = a;
    }

pub returns : goal.returns
returns c =
    let bytes : Below 256 c.end.new.front = search rules in
    rest-is c.requires _ _ c.close.new.side _ c.put_bits-q.ensures.puts c.put_bits-q.ensures.at_value c.close.ensures.closes
    c.end.ensures.front_after bytes _ c.join.ensures
