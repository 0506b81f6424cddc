-- `writer_side::put_head` meets its contract: four fields in a row. Assumes nothing.
use mathlib.Core.Path.{ap, ◌∙◌}
use Prim.Native.Nat.{ℕ}
use Rattle.frame_side.specs.Side.{last_pair}
use Rattle.writer_side.proofs.Fields.{head_puts}
use Rattle.writer_side.proofs.put_head.Goals as goal

pub returns-clause-puts : goal.returns-clause-puts
returns-clause-puts c =
    let pair = c.last_pair.ensures ∙ ap (λ (x : ℕ). last_pair x) c.from-2.ensures in
    head_puts c.args.r c.args.h _ _ _ _ _ _ _ _ _ _ _ _ _ _ c.from.ensures pair c.from-3.ensures c.from-4.ensures
    c.put-c1.ensures.puts c.put-c2.ensures.puts c.put-c3.ensures.puts c.put.ensures.puts
