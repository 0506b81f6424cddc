-- `slot_repair::clean` meets its contract. Assumes nothing.
use Rattle.slot_clean.proofs.Unpacking.{unpacked-whole}
use Rattle.slot_repair.proofs.ReceiveSteps.{clean-slot}
use Rattle.slot_repair.proofs.clean.Goals as goal

pub read_clean-requires : goal.read_clean-requires
read_clean-requires c = record {
  semi_octets_of = unpacked-whole c.args.size c.args.slot.now _ c.requires.slot_and_data.long c.unpack.ensures
      c.requires.slot_and_data.range;
  fact = c.requires.slot_and_data.given;
}

pub returns : goal.returns
returns c = let a = c.args in record {
  places_after = c.unpack.ensures;
  fact = c.read_clean.ensures.fact_2;
  mended_to = λ e. clean-slot a.size a.mode a.slot.now _ c.read_clean.new.message c.requires.slot_and_data.range
      c.requires.slot_and_data.long
      c.unpack.ensures c.read_clean.ensures.fact_2 (c.read_clean.ensures.all_clean e);
}
