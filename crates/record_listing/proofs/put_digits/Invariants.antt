-- `record_listing::put_digits` meets its contract. The invariant is `Spelling`: the digits of what is left go in front. Assumes nothing.
use mathlib.Core.Path.{◌≡◌}
use lib.ListN.{length}
use Rattle.record_listing.proofs.Spelling.{Spelling}
use Rattle.record_listing.proofs.put_digits.Given as goal

abbrev pub invariant-loop-rest : goal.invariant-loop-rest
invariant-loop-rest l = Spelling l.initial.out l.out l.end l.at l.rest l.n × (length l.out ≡ length l.initial.out)

abbrev pub decreases-loop-rest : goal.decreases-loop-rest
decreases-loop-rest l = l.rest
