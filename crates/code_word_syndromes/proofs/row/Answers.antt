-- `code_word_syndromes::row` meets its contract. Assumes nothing.
use native.Mathlib.Omega.{arith}
use Rattle.code_word_syndromes.proofs.row.Goals as goal

pub returns : goal.returns
returns c = λ j l. rw c.from.ensures (c.table.ensures.spread c.args.a c.args.x j (omega arith) (omega arith) l)
