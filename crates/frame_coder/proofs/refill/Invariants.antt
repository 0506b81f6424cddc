-- `frame_coder::refill` meets its contract. The loop keeps what is still to be taken equal to the whole; two bytes are enough. Assumes
-- nothing.
use mathlib.Core.Path.{◌≡◌}
use Prim.Native.Nat.{◌+◌, ◌-◌, ◌*◌, ◌≤◌}
use Rattle.frame_coder.specs.Symbol.{refill_of}
use Rattle.frame_coder.specs.Sound.{Narrow}
use Rattle.frame_coder.proofs.refill.Given as goal

-- with n bytes that may still be taken
abbrev pub invariant-loop-next : goal.invariant-loop-next
invariant-loop-next l =
    let n = l.initial.next.at + 2 - l.next.at in
    Narrow l.s l.next × (l.next.taken ≡ l.initial.next.taken) × (l.initial.next.at ≤ l.next.at)
    × (16384 ≤ l.next.range + 16384 * (n - 1)) × (65536 ≤ l.next.range + 65536 * n)
    × (refill_of l.s n l.v l.next ≡ refill_of l.s 2 l.v l.initial.next)

abbrev pub decreases-loop-next : goal.decreases-loop-next
decreases-loop-next l = 65536 - l.next.range
