-- `frame_residual::read_residual` meets its contract. The invariant: what is still to be read gives the whole. Assumes nothing.
use mathlib.Core.Path.{◌≡◌}
use Prim.Native.Nat.{◌≤◌, ◌-◌}
use Rattle.frame_residual.specs.Residual.{residual_of}
use Rattle.frame_residual.proofs.read_residual.Given as goal

abbrev pub invariant-loop-line : goal.invariant-loop-line
invariant-loop-line l =
    (l.count ≤ l.line-index)
    × (residual_of l.s l.lines l.p l.left (l.n - l.line-index) l.line-index l.count l.bits
    ≡ residual_of l.s l.lines l.p l.left l.n 0 0 l.initial.bits)
