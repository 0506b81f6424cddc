-- `writer_bits::put_bits` meets its contract: bit after bit. Assumes nothing.
use mathlib.Core.Path.{◌≡◌, ◌∙◌}
use Prim.Native.Nat.{◌<◌}
use native.Mathlib.Omega.{arith}
use lib.ListN.{get_or}
use Rattle.std.proofs.lemmas.List.{length-take-le, get_or-take}
use Rattle.writer_bits.proofs.Putting.{puts-more}
use Rattle.writer_bits.proofs.put_bits.Goals as goal

pub loop-bit-preserved : goal.loop-bit-preserved
loop-bit-preserved c =
    let a = c.args in
    let l = c.loop-bit in
    let i : l.bit-index < a.n = omega (arith, length-take-le a.n a.bits.now c.requires.n_in_bounds) in
    let b = c.requires.binary l.bit-index i in
    let x : c.from.result ≡ get_or a.bits.now l.bit-index 0 = c.from.ensures ∙ get_or-take a.n a.bits.now l.bit-index 0 i in
    let e = c.put-c.ensures in
    record {
      at = omega arith;
      cursor = e.fact_2;
      puts = puts-more a.bits.now _ l.side c.put-c.new.side _ l.c c.put-c.result l.bit-index _ (omega arith) x (omega arith)
          l.invariant.puts e.puts;
    }
