-- `slot::unprotect_sized` meets its contract. Assumes nothing.
use Rattle.slot.proofs.UnprotectSteps.{data-blank}
use Rattle.slot_laws.proofs.ProtectSteps.{blanks}
use lib.Seq.{length-take-le}
use native.Mathlib.Omega.{arith}
use mathlib.Core.Path.{sym}
use Rattle.slot.proofs.unprotect_sized.Goals as goal

pub slice_bounds-judge-end : goal.slice_bounds-judge-end
slice_bounds-judge-end c = sym (length-take-le c.data_size-e.result blanks c.data_size-e.ensures.most)

pub judge-requires : goal.judge-requires
judge-requires c =
    record {
      range = c.requires;
      lengths = record {
        frame_long = omega (arith, c.frame_bytes.ensures.value, c.if-frame-frame_bytes.false);
        slot_long = omega (arith, c.if-slot-size.false);
      };
      room = data-blank c.args.size c.args.mode c.data_size-e.result c.data_size-e.ensures.is c.data_size-e.ensures.most;
    }
