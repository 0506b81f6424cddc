-- `frame_pairs::read_pairs` meets its contract. The loop has the rest of the pairs equal to the whole. Assumes nothing.
use mathlib.Core.Path.{◌≡◌}
use Prim.Native.Nat.{◌+◌, ◌-◌, ◌*◌, ◌≤◌, ◌<◌}
use lib.ListN.{length}
use Rattle.coder_tables.specs.Tables.{look_table, spectrum_table}
use Rattle.frame_pairs.specs.Pairs.{pairs_of}
use Rattle.frame_coder.specs.Sound.{Sound}
use Rattle.frame_pairs.specs.Sound.{Roomy}
use Rattle.frame_pairs.proofs.read_pairs.Given as goal

abbrev pub invariant-loop-k : goal.invariant-loop-k
invariant-loop-k l =
    Sound l.s l.at.coder × (l.context < 256) × (l.at.side ≤ 8 * length l.s + 23)
    × (l.at.coder.taken ≤ l.fn.from.coder.taken + 14 * l.k) × Roomy l.o.lsb l.lines l.levels
    × (pairs_of l.s look_table spectrum_table l.o (l.n - l.k) l.k l.context l.at.coder l.at.side l.lines l.levels
    ≡ pairs_of l.s look_table spectrum_table l.o l.n 0 0 l.fn.from.coder l.fn.from.side l.initial.lines l.initial.levels)
