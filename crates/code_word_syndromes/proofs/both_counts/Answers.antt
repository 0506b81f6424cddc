-- `code_word_syndromes::both_counts` meets its contract. Assumes nothing.
use mathlib.Core.Path.{ap, ◌∙◌}
use Prim.Native.Nat.{ℕ, ◌%◌}
use native.Mathlib.Omega.{arith}
use lib.ListN.{get_or}
use Rattle.code_word_laws.proofs.Changes.{both-few}
use Rattle.code_word_syndromes.proofs.both_counts.Goals as goal

pub returns : goal.returns
returns c = let d = c.args.v % 16 in
    let e =
    ap (λ (i : ℕ). get_or c.table.result.now i 0 % 4294967296) c.from-at.ensures ∙ c.table.ensures.counts d (omega arith) in
    record {
      value = e;
      upper_bound = rw e (both-few d);
    }
