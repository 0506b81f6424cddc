-- `writer_bits::close` meets its contract. Assumes nothing.
use mathlib.Core.Path.{◌∙◌}
use Prim.Native.Nat.{◌/◌, ◌%◌}
use lib.ListN.{length-set}
use Rattle.writer_bits.proofs.Putting.{close-done}
use Rattle.writer_bits.proofs.close.Goals as goal

pub returns : goal.returns
returns c = let a = c.args in
    record {
      closes = close-done a.side.now a.c c.requires.fact.room c.requires.at_bound;
      side_len = length-set a.side.now (a.c.at / 8) (a.c.held % 256) ∙ c.requires.fact.room;
    }
