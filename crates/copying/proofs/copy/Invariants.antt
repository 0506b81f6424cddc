-- `copying::copy` meets its contract: the elements passed are copied. Assumes nothing.
use Rattle.std.proofs.Common.{◌≡◌, ℕ, ◌<◌, get_or}
use Rattle.copying.proofs.copy.Given as goal

abbrev pub invariant-loop-k : goal.invariant-loop-k
invariant-loop-k g l = ((k : ℕ) (d : g.row.T.Denot) → k < l.k → get_or l.to k d ≡ get_or l.from k d)
