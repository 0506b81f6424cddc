-- `writer_stream::start` meets its contract. No byte counts yet. Assumes nothing.
use mathlib.Core.Path.{refl}
use Rattle.writer_laws.specs.Stream.{front_of}
use Rattle.writer_stream.proofs.Shifting.{start-flows}
use Rattle.writer_stream.proofs.start.Goals as goal

pub returns : goal.returns
unfolding front_of
returns c = record {
  result_value = refl;
  flows = start-flows c.args.front.now c.requires;
}
