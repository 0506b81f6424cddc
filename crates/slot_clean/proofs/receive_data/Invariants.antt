-- `slot_clean::receive_data` meets its contract. The invariant of its loop stands at the head. Assumes nothing.
use mathlib.Core.Path.{◌≡◌}
use mathlib.Core.List.{List}
use Prim.Native.Nat.{ℕ}
use lib.ListN.{length, get_or}
use Rattle.slot_clean.specs.Inner.{data_from}
use Rattle.laws.proofs.Fill.{Filled}
use Rattle.code_word_laws.specs.Checks.{summed}
use Rattle.slot_clean.proofs.receive_data.Given as goal

-- data semi-octet k of word i
abbrev pub datum : ℕ → ℕ → List ℕ → ℕ → ℕ → ℕ
datum size mode places i k = get_or (data_from size mode places i) k 0

abbrev pub invariant-loop-k : goal.invariant-loop-k
invariant-loop-k l = Filled (datum l.size l.mode l.places l.i) (length l.initial.w) l.k l.w ×
    (l.r ≡ summed l.rows (datum l.size l.mode l.places l.i) l.k)
