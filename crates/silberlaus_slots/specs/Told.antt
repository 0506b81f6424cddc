-- What C's struct of an answer tells.
-- Assumes nothing.
use Rattle.slot_answers.specs.Answers.{Told}
use Rattle.silberlaus_slots.specs.declared.SilberlausUnprotected.{SilberlausUnprotected}

abbrev pub told_of : SilberlausUnprotected → Told
told_of r = record { number = r.number; request = r.request; count = r.semi_octets; bits = r.bits }
