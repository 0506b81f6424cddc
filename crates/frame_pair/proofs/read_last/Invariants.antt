-- `frame_pair::read_last` meets its contract. The loop has the rest of the escapes equal to the whole. Assumes nothing.
use mathlib.Core.Path.{◌≡◌}
use Prim.Native.Nat.{◌+◌, ◌-◌, ◌≤◌}
use Rattle.coder_tables.specs.Tables.{look_table, spectrum_table}
use Rattle.frame_pair.specs.Pair.{last_of}
use Rattle.frame_coder.specs.Sound.{Sound}
use Rattle.frame_pair.specs.Sound.{Built}
use Rattle.frame_pair.proofs.read_last.Given as goal

abbrev pub invariant-loop-level : goal.invariant-loop-level
invariant-loop-level l =
    Built l.lsb l.level l.v.x × Built l.lsb l.level l.v.y × (l.at.coder.taken ≤ l.fn.from.coder.taken + l.level) × Sound l.s l.at.coder
    × (last_of l.s look_table spectrum_table l.lsb l.base (14 - l.level) l.level l.v.x l.v.y l.at.coder l.at.side
    ≡ last_of l.s look_table spectrum_table l.lsb l.base 14 0 0 0 l.fn.from.coder l.fn.from.side)
