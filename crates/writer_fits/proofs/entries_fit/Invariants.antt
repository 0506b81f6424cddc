-- `writer_fits::entries_fit` meets its contract. The invariant: what `fit` says of the entries before k. Assumes nothing.
use mathlib.Core.Path.{◌≡◌}
use mathlib.Core.Logic.{◌↔◌}
use mathlib.Core.Bool.{true}
use Prim.Native.Nat.{ℕ}
use lib.ListN.{get_or}
use Rattle.writer_fits.proofs.EntriesFit.{Within}
use Rattle.writer_fits.proofs.entries_fit.Given as goal

abbrev pub invariant-loop-k : goal.invariant-loop-k
invariant-loop-k l = (l.fit ≡ true) ↔ Within l.most l.n (λ (i : ℕ). get_or l.l i 0) 0 l.k
