-- `slot_each::each` meets its contract. The loop has the answers and the frames of the slots before. Assumes nothing.
use mathlib.Core.Path.{refl, ap, ◌∙◌}
use Prim.Native.Nat.{ℕ, ◌+◌, ◌<◌}
use native.Mathlib.Omega.{arith}
use lib.ListN.{length}
use Rattle.slot_laws.specs.Sizes.{frame_size}
use Rattle.slot_answers.specs.Answers.{told_of}
use Rattle.slot_each.specs.Each.{five}
use Rattle.slot_each.proofs.EachSteps.{PlacePart, next_place, part-is, part-long, tells, each_next}
use Rattle.slot_each.proofs.each.Goals as goal

pub loop-i-preserved : goal.loop-i-preserved
loop-i-preserved c =
    let a = c.args in
    let h = c.loop-i in
    let judged = c.judge-answer in
    let many = length h.numbers in
    let inside : h.i < many = omega (arith, h.auto.numbers) in
    let slot : PlacePart a.size h.i h.at (h.at + a.size) many =
    record { start = h.invariant.slot_place; end = refl; inside = inside } in
    let place : PlacePart (frame_size a.size a.mode) h.i h.put (h.put + c.frame_bytes-long.result) many =
    record {
      start = h.invariant.frame_place;
      end = ap (λ (x : ℕ). h.put + x) c.frame_bytes-long.ensures.value;
      inside = inside;
    } in
    let room = h.invariant.lent in
    let f = h.invariant.each_to.left in
    let last-long = judged.auto.frame ∙ part-long place h.frames f.frames_fit in
    record {
      slot_place = next_place slot;
      frame_place = next_place place;
      lent = record {
        range = room.range;
        places_long = judged.auto.places ∙ room.places_long;
        all_long = judged.auto.all ∙ room.all_long;
        rooms = record {
          many = judged.auto.changes ∙ room.rooms.many;
          many_bits = judged.auto.ones ∙ room.rooms.many_bits;
          given = judged.ensures.fact;
        };
      };
      each_to = each_next a.size a.mode h.i h.put _ a.slots.now _ (five h.numbers h.requests h.counts h.bits h.frames)
          h.invariant.each_to place judged.new.frame last-long (told_of judged.result) _ _
          (tells judged.result _ _ c.numbered.ensures c.unwrap_or-told.ensures) _ _ (part-is slot a.slots.now f.slots_fit)
          (part-is place h.frames f.frames_fit) judged.ensures.unprotects;
    }
