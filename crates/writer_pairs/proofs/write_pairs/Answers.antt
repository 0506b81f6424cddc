-- `writer_pairs::write_pairs` meets its contract. The loop has the rest of the pairs make the whole. Assumes nothing.
use mathlib.Core.Path.{refl}
use Prim.Native.Nat.{◌+◌, ◌*◌}
use Rattle.writer_laws.specs.Pairs.{line_at}
use Rattle.writer_pair.proofs.Walking.{bits_are, size_small}
use Rattle.writer_pairs.proofs.Pairing.{going-first, going-wide, going-last, going_more, going-small}
use Rattle.writer_pairs.proofs.write_pairs.Goals as goal

pub loop-k-init : goal.loop-k-init
loop-k-init c = going-first _ _ _ _ _ _ _ _ _ _ c.requires.sends

pub write_pair-w-requires : goal.write_pair-w-requires
write_pair-w-requires c =
    let xs = c.args.lines.now in
    let k = c.loop-k.k in
    record {
      base_bound = c.base_of-base.ensures.upper_bound;
      u_bound = size_small (line_at xs (2 * k)) (c.requires.small (2 * k)) refl;
      v_bound = size_small (line_at xs (2 * k + 1)) (c.requires.small (2 * k + 1)) refl;
      sends = going-wide c.loop-k.invariant c.requires.sends.taken c.requires.n_bound;
    }

pub returns-then-bytes-c : goal.returns-then-bytes-c
returns-then-bytes-c c =
    let xs = c.args.lines.now in
    let k = c.loop-k.k in
    let u = bits_are (line_at xs (2 * k)) (c.requires.small (2 * k)) in
    let v = bits_are (line_at xs (2 * k + 1)) (c.requires.small (2 * k + 1)) in
    let w = c.write_pair-w.ensures in
    going-small c.loop-k.invariant _ _ _ _ _ _ _ _ c.loop-k-test.true c.base_of-base.ensures.value u v w.context_value w.sent
    c.if-bytes-c.true

pub loop-k-preserved : goal.loop-k-preserved
loop-k-preserved c =
    let xs = c.args.lines.now in
    let k = c.loop-k.k in
    let u = bits_are (line_at xs (2 * k)) (c.requires.small (2 * k)) in
    let v = bits_are (line_at xs (2 * k + 1)) (c.requires.small (2 * k + 1)) in
    let w = c.write_pair-w.ensures in
    going_more c.loop-k.invariant _ _ _ _ _ _ _ _ c.loop-k-test.true c.base_of-base.ensures.value u v w.context_value w.sent
    c.requires.bytes_bound w.context_bound w.sends_2 c.if-bytes-c.false

pub returns : goal.returns
returns c = going-last c.loop-k.invariant c.requires.le_n c.loop-k-test.false c.requires.sends.taken c.requires.n_bound
