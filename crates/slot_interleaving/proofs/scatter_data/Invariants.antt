-- `slot_interleaving::scatter_data` meets its contract. The invariant of its loop stands at the head. Assumes nothing.
use mathlib.Core.Path.{◌≡◌}
use lib.ListN.{get_or}
use Rattle.code_word_laws.specs.Checks.{summed}
use Rattle.slot_interleaving.specs.Inner.{DataSpanned}
use Rattle.slot_interleaving.proofs.scatter_data.Given as goal

abbrev pub invariant-loop-k : goal.invariant-loop-k
invariant-loop-k l = (l.r ≡ summed l.rows (λ j. get_or l.message j 0) l.k) × DataSpanned l.size l.mode l.i
    l.message l.k l.initial.places l.places
