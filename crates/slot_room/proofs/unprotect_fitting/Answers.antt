-- `slot_room::unprotect_fitting` meets its contract. The room that it lends is as long as asked. Assumes nothing.
use mathlib.Core.Path.{◌≡◌, ◌∙◌}
use Prim.Native.Nat.{ℕ, ◌*◌, ◌≤◌}
use native.Mathlib.Omega.{arith}
use lib.ListN.{length, take, replicate}
use lib.Seq.{length-take-le}
use Rattle.slot_laws.proofs.ProtectSteps.{blanks}
use Rattle.slot.proofs.UnprotectSteps.{data-blank}
use Rattle.slot_room.proofs.unprotect_fitting.Goals as goal

-- room for the counts
room-for : (count : ℕ) → count ≤ 54 → length {A = ℕ} (take count (replicate 54 0)) ≡ count
room-for count l = length-take-le count (replicate 54 0) l

pub each-requires : goal.each-requires
each-requires c =
    let size = c.args.size in
    let places = length-take-le (2 * size) blanks (omega arith) in
    let many = room-for c.word_count-count.result c.word_count-count.ensures.upper_bound ∙ c.word_count-count.ensures.value in
    let e = c.data_size-e in
    record {
      lent = record {
        range = c.requires.in_range;
        places_long = places;
        all_long = places;
        rooms = record { many = many; many_bits = many; given = data-blank size c.args.mode e.result e.ensures.is e.ensures.most };
      };
      fits = c.requires.fits;
    }
