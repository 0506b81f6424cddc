-- `slot_gathering::gather` meets its contract. The loop has the data of the first words where they belong, and the sum of their counts.
-- Assumes nothing.
use mathlib.Core.Path.{◌≡◌}
use Prim.Native.Nat.{◌≤◌, ◌*◌}
use Rattle.laws.specs.Tab.{total}
use Rattle.slot_laws.specs.Sizes.{word_length, data_length}
use Rattle.slot_gathering.specs.Inner.{GatheredTo}
use Rattle.slot_gathering.proofs.gather.Given as goal

abbrev pub invariant-loop-i : goal.invariant-loop-i
invariant-loop-i l = record {
  sum_to : l.sum ≤ 3 * l.i;
  bits_to : l.bit_sum ≤ 255 * l.i;
  place : l.from ≡ total (word_length l.size) l.i;
  room : l.at ≡ total (data_length l.size l.mode) l.i;
  gathered : GatheredTo l.size l.mode l.all l.counts l.bits l.message l.i l.sum l.bit_sum;
}
