-- `slot_repair::repair` meets its contract. The room that it lends is as long as asked. Assumes nothing.
use mathlib.Core.Path.{◌≡◌, ◌∙◌}
use Prim.Native.Nat.{ℕ, ◌*◌, ◌≤◌}
use native.Mathlib.Omega.{arith}
use lib.Seq.{length-take-le}
use lib.ListN.{length, take, replicate}
use Rattle.slot_laws.proofs.ProtectSteps.{blanks}
use Rattle.slot_repair.proofs.repair.Goals as goal

-- room for the counts
room-for : (count : ℕ) → count ≤ 54 → length {A = ℕ} (take count (replicate 54 0)) ≡ count
room-for count l = length-take-le count (replicate 54 0) l

pub correct-requires : goal.correct-requires
correct-requires c =
    let many = room-for c.word_count-count.result c.word_count-count.ensures.upper_bound ∙ c.word_count-count.ensures.value in record {
      semi_octets_of = c.requires.semi_octets_of;
      rooms = record { many = many; many_bits = many; given = c.requires.fact };
      all_len = length-take-le (2 * c.args.size) blanks (omega arith);
    }
