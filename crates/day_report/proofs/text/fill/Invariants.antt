-- `day_report::text::fill` meets its contract. The invariant: the text ends inside the buffer. Assumes nothing.
use Rattle.std.proofs.Common.{◌≡◌, ◌≤◌, length}
use Rattle.day_report.proofs.text.fill.Given as goal

abbrev pub invariant-loop-line : goal.invariant-loop-line
invariant-loop-line l = (length l.out ≡ length l.initial.out) × (l.end ≤ length l.out)
