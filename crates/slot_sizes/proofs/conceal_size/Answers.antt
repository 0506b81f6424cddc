-- `slot_sizes::conceal_size` meets its contract. The invariant of its loop stands at the head. Assumes nothing.
use Rattle.slot_sizes.proofs.SizeSteps.{block_none, block-next, block_last}
use Rattle.slot_laws.specs.Sizes.{block, words, word_length, conceal_words}
use native.Mathlib.Omega.{arith}
use mathlib.Core.Path.{◌≡◌}
use Prim.Native.Nat.{◌-◌}
use Rattle.slot_sizes.proofs.conceal_size.Goals as goal

pub loop-k-init : goal.loop-k-init
loop-k-init c = let a = c.args in (omega arith, block_none a.size a.mode)

pub loop-k-preserved : goal.loop-k-preserved
loop-k-preserved c =
    let a = c.args in
    let d = c.distance-checks in
    let e = c.word_count-count.ensures.value in
    let l = c.word_length in
    let w : l.result ≡ word_length a.size (words a.size - 1 - c.loop-k.k) = rw e at l.ensures.value in (
      omega arith,
      block-next a.size a.mode c.loop-k.k l.result d.result c.loop-k.sum d.ensures.is w c.loop-k.invariant.1,
    )

pub returns : goal.returns
returns c = let a = c.args in
    let e : c.loop-k.k ≡ conceal_words a.size a.mode = omega arith in
    let s : c.loop-k.sum ≡ block a.size a.mode (conceal_words a.size a.mode) = rw e at c.loop-k.invariant.1 in
    let u = block_last a.size a.mode c.loop-k.sum c.requires s in record { value = u.0; upper_bound = u.1 }
