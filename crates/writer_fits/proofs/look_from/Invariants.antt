-- `writer_fits::look_from` meets its contract. The invariant: what is still to be looked at gives the whole. Assumes nothing.
use mathlib.Core.Path.{◌≡◌}
use mathlib.Core.Bool.{cond, ◌&&◌}
use Prim.Native.Nat.{◌+◌, ◌-◌, ◌≤◌}
use Rattle.writer_laws.specs.Fits.{magnitudes_from, non_zero_from}
use Rattle.writer_fits.proofs.look_from.Given as goal

abbrev pub invariant-loop-k : goal.invariant-loop-k
invariant-loop-k l =
    (l.count ≤ l.k)
    × (l.fit && magnitudes_from (cond l.behind 0 32767) l.to l.lines (l.to - l.k) l.k ≡ magnitudes_from (cond l.behind 0 32767) l.to
    l.lines (l.to - l.from) l.from)
    × (l.count + non_zero_from l.lines (l.to - l.k) l.k ≡ non_zero_from l.lines (l.to - l.from) l.from)
