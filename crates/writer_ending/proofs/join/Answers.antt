-- `writer_ending::join` meets its contract. The invariant: the first i bytes are joined. Assumes nothing.
use Rattle.laws.proofs.Fill.{filled-last}
use Rattle.writer_steps.specs.Joined.{joined_of}
use Rattle.writer_ending.proofs.join.Goals as goal

pub returns : goal.returns
unfolding joined_of
returns c = filled-last _ _ c.loop-i.i c.loop-i.frame c.loop-i.invariant c.loop-i-test.false
