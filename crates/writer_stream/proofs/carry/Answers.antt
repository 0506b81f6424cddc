-- `writer_stream::carry` meets its contract. The byte to grow counts as much as is still to be added. Assumes nothing.
use native.Mathlib.Omega.{arith}
use Rattle.writer_stream.proofs.Carrying.{pending-more, pending_next, pending-last}
use Rattle.writer_stream.proofs.carry.Goals as goal

pub overflow_sub-j-in-loop-front : goal.overflow_sub-j-in-loop-front
overflow_sub-j-in-loop-front c =
    let l = c.loop-front in
    pending-more c.args.n c.args.front.now l.front l.j c.requires.n_in_bounds c.requires.n_bound l.invariant c.loop-front-test.true

pub loop-front-smaller : goal.loop-front-smaller
loop-front-smaller c =
    let l = c.loop-front in
    let m =
    pending-more c.args.n c.args.front.now l.front l.j c.requires.n_in_bounds c.requires.n_bound l.invariant c.loop-front-test.true in
    omega arith

pub loop-front-preserved : goal.loop-front-preserved
loop-front-preserved c =
    let l = c.loop-front in
    let more =
    pending-more c.args.n c.args.front.now l.front l.j c.requires.n_in_bounds c.requires.n_bound l.invariant c.loop-front-test.true in
    pending_next c.args.n c.args.front.now l.front l.j c.requires.n_in_bounds more l.invariant c.loop-front-test.true

pub returns : goal.returns
returns c =
    let l = c.loop-front in
    pending-last c.args.n c.args.front.now l.front l.j c.requires.n_in_bounds l.invariant
