-- `slot_protection::protect_sized` meets its contract. Assumes nothing.
use Rattle.slot_laws.proofs.ProtectSteps.{blanks, message-is, slot_is}
use Rattle.slot_laws.proofs.Order.{data-of}
use lib.Seq.{length-take-le}
use lib.ListN.{drop}
use native.Mathlib.Omega.{arith}
use mathlib.Core.Path.{◌∙◌}
use Rattle.slot_protection.proofs.protect_sized.Goals as goal

pub arrange-requires : goal.arrange-requires
arrange-requires c = record {
  settings = c.requires;
  data_room = record {
    frame_long = omega (arith, c.frame_bytes.ensures.value, c.if-frame-frame_bytes.false);
    room = length-take-le c.data_size-e.result blanks c.data_size-e.ensures.most ∙ c.data_size-e.ensures.is;
  };
}

pub write_slot-requires : goal.write_slot-requires
write_slot-requires c =
    let a = c.args in
    let l = c.arrange.new.out in
    let d = drop c.data_size-e.result blanks in
    record {
      range = c.requires.range;
      long = omega (arith, c.if-slot-size.false);
      given =
          rw (message-is a.size a.mode a.request c.data_size-e.result a.frame.now l d c.data_size-e.ensures.is c.arrange.ensures)
          (data-of a.size a.mode a.request a.frame.now);
    }

pub returns : goal.returns
returns c =
    let a = c.args in
    record {
      settings = c.requires;
      lengths = record {
        frame_long = omega (arith, c.frame_bytes.ensures.value, c.if-frame-frame_bytes.false);
        slot_long = omega (arith, c.if-slot-size.false);
      };
      bytes = λ i. (c.type_inv.frame i).fits;
      made = slot_is a.size a.mode a.request c.data_size-e.result a.frame.now c.arrange.new.out (drop c.data_size-e.result blanks)
          c.write_slot.new.slot c.data_size-e.ensures.is c.arrange.ensures c.write_slot.ensures;
    }
