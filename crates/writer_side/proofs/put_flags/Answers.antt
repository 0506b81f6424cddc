-- `writer_side::put_flags` meets its contract: three fields in a row. Assumes nothing.
use Rattle.writer_side.proofs.Fields.{flags-puts}
use Rattle.writer_side.proofs.put_flags.Goals as goal

pub returns-clause-puts : goal.returns-clause-puts
returns-clause-puts c =
    flags-puts c.args.filters c.args.bandwidth c.args.f _ _ _ _ _ _ _ _ _ _ _ _ c.second_flag-second.ensures.value c.from.ensures
    c.from-2.ensures c.from-3.ensures c.put-c1.ensures.puts c.put-c2.ensures.puts c.put.ensures.puts
