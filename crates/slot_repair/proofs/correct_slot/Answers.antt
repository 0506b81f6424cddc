-- `slot_repair::correct_slot` meets its contract. The semi-octets that it lends are those of the slot. Assumes nothing.
use mathlib.Core.Path.{◌≡◌, sym}
use mathlib.Core.List.{List, ◌++◌}
use Prim.Native.Nat.{ℕ, ◌*◌}
use native.Mathlib.Omega.{arith}
use lib.ListN.{take, drop}
use lib.Seq.{length-take-le}
use Rattle.slot_clean.specs.Inner.{unpacked, SemiOctetsOf}
use Rattle.slot_laws.proofs.ProtectSteps.{blanks}
use Rattle.slot_clean.proofs.Unpacking.{lent_is, unpacked-whole}
use Rattle.slot_repair.proofs.correct_slot.Goals as goal
use Rattle.slot_repair.proofs.correct_slot.Goals.{After-clean}

-- the semi-octets that are lent once the slot is unpacked
abbrev lent : ℕ → List ℕ → List ℕ
lent size places = let n = 2 * size in take n (places ++ drop n blanks)

is : (c : After-clean) → lent c.args.size c.clean.new.places ≡ unpacked c.args.slot.now
is c = lent_is c.args.size c.args.slot.now c.clean.new.places _ c.requires.long c.clean.ensures.places_after

whole : (c : After-clean) → SemiOctetsOf c.args.size c.args.mode (lent c.args.size c.clean.new.places)
whole c = unpacked-whole c.args.size c.args.slot.now (lent c.args.size c.clean.new.places) c.requires.long (is c) c.requires.range

pub clean-requires : goal.clean-requires
clean-requires c = record {
  slot_and_data = c.requires;
  places_len = length-take-le (2 * c.args.size) blanks (omega arith);
}

pub slice_bounds-repair-end : goal.slice_bounds-repair-end
slice_bounds-repair-end c = let w = whole (goal.at.slice_bounds-repair-end c).After-clean in sym w.long

pub repair-requires : goal.repair-requires
repair-requires c = record {
  semi_octets_of = whole (goal.at.repair-requires c).After-clean;
  fact = c.clean.ensures.fact;
}

pub returns : goal.returns
returns c = c.repair.ensures c.args.slot.now c.requires.long (is (goal.at.returns c).After-clean)
