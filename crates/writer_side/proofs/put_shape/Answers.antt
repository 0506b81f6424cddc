-- `writer_side::put_shape` meets its contract: six fields in a row. Assumes nothing.
use mathlib.Core.Path.{refl}
use Rattle.writer_side.proofs.Fields.{shape-puts}
use Rattle.writer_side.proofs.put_shape.Goals as goal

pub returns-clause-puts : goal.returns-clause-puts
returns-clause-puts c =
    shape-puts c.args.q _ _ _ _ _ _ _ _ _ _ _ _ _ _ _ _ _ _ _ _ c.from.ensures c.from-2.ensures c.from-m.ensures c.from-3.ensures
    c.from-4.ensures refl c.put-c1.ensures.puts c.put-c2.ensures.puts c.put-c3.ensures.puts c.put-c4.ensures.puts
    c.put-c5.ensures.puts c.put.ensures.puts
