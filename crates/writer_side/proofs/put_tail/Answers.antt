-- `writer_side::put_tail` meets its contract: three fields in a row. Assumes nothing.
use Rattle.writer_side.proofs.Fields.{tail-puts}
use Rattle.writer_side.proofs.put_tail.Goals as goal

pub returns-clause-puts : goal.returns-clause-puts
returns-clause-puts c =
    tail-puts c.args.pitch c.args.t _ _ _ _ _ _ _ _ _ _ _ c.from.ensures c.from-2.ensures c.from-3.ensures
    c.put-c1.ensures.puts c.put-c2.ensures.puts c.put.ensures.puts
