-- `slot_gathering::receive_all` meets its contract. The loop has the first words in front, joined. Assumes nothing.
use mathlib.Core.Path.{refl}
use Prim.Native.Nat.{◌+◌}
use native.Mathlib.Omega.{arith}
use Rattle.slot_gathering.proofs.Arriving.{WordRoom, arrived-none, arrives-end, arrives-room, arrived-one, arrived-all}
use Rattle.slot_gathering.proofs.receive_all.Goals as goal
use Rattle.slot_gathering.proofs.receive_all.Goals.{After-word_length}

-- where the loop's word comes to stand
room : (c : After-word_length)
    → WordRoom c.args.size c.args.mode c.loop-i.i c.loop-i.at c.word_length.result (c.loop-i.at + c.word_length.result) c.args.places.now
    c.loop-i.all
room c = record {
  range = c.requires.semi_octets_of.range;
  inside = omega arith;
  arrived = c.loop-i.invariant;
  long = c.word_length.ensures.value;
  end = refl;
}

pub loop-i-init : goal.loop-i-init
loop-i-init c = arrived-none c.args.size c.args.mode c.args.places.now c.args.all.now c.requires.all_len

pub overflow_add-e : goal.overflow_add-e
overflow_add-e c =
    let end = arrives-end (room c) in
    record { fits = omega arith }

pub slice_bounds-receive-end-in-loop-i : goal.slice_bounds-receive-end-in-loop-i
slice_bounds-receive-end-in-loop-i c =
    let end = arrives-end (room (goal.at.slice_bounds-receive-end-in-loop-i c).After-word_length) in
    omega arith

pub receive-requires : goal.receive-requires
receive-requires c =
    let r = room (goal.at.receive-requires c).After-word_length in
    record {
      at_word = record {
        range = r.range;
        word_below = r.inside;
        row_long = c.signature_row-row.ensures.result_len;
        row_is = c.signature_row-row.ensures.by_index;
        places_long = c.requires.semi_octets_of.long;
      };
      w_len = arrives-room r;
    }

pub loop-i-preserved : goal.loop-i-preserved
loop-i-preserved c = arrived-one (room (goal.at.loop-i-preserved c).After-word_length) c.receive.new.w c.receive.ensures

pub returns : goal.returns
returns c =
    let a = c.args in
    let h = c.loop-i in
    let s = c.requires.semi_octets_of in
    arrived-all a.size a.mode h.i h.at a.places.now h.all s.range s.below (omega arith) h.invariant
