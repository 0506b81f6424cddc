-- `slot_interleaving::scatter_checks` meets its contract. The invariant of its loop stands at the head. Assumes nothing.
use mathlib.Core.Path.{◌≡◌}
use mathlib.Core.List.{[]}
use Prim.Native.Nat.{◌-◌}
use lib.ListN.{drop}
use Rattle.code_word_laws.specs.Word.{distance}
use Rattle.code_word_laws.specs.Register.{with_checks}
use Rattle.slot_interleaving.specs.Inner.{ChecksSpanned}
use Rattle.slot_interleaving.proofs.scatter_checks.Given as goal

abbrev pub invariant-loop-k : goal.invariant-loop-k
invariant-loop-k l =
    (with_checks l.k l.rest (drop l.k (with_checks (distance l.mode - 1) l.r [])) ≡ with_checks (distance l.mode - 1) l.r [])
    × ChecksSpanned l.size l.mode l.i l.r l.k l.initial.places l.places
