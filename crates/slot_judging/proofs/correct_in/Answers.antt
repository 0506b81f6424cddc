-- `slot_judging::correct_in` meets its contract. Assumes nothing.
use Rattle.slot_clean.proofs.Unpacking.{unpacked-whole}
use Rattle.slot_judging.proofs.correct_in.Goals as goal

pub returns-then-clean : goal.returns-then-clean
returns-then-clean c = record {
  repair = c.clean.ensures.mended_to c.if-clean.true;
  fact = c.clean.ensures.fact;
}

pub correct-requires : goal.correct-requires
correct-requires c = let r = c.requires.lent.rooms in
    let places = c.clean.new.places in record {
      semi_octets_of = unpacked-whole c.args.size c.args.slot.now places c.requires.slot_len c.clean.ensures.places_after
          c.requires.lent.range;
      rooms = record { many = r.many; many_bits = r.many_bits; given = c.clean.ensures.fact };
      all_len = c.requires.lent.all_long;
    }

pub returns : goal.returns
returns c = record {
  repair = c.correct.ensures.repair_from c.args.slot.now c.requires.slot_len c.clean.ensures.places_after;
  fact = c.correct.ensures.fact;
}
