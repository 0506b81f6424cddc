-- `writer_bits::put_bits` meets its contract: bit after bit. Assumes nothing.
use mathlib.Core.Path.{◌≡◌}
use Prim.Native.Nat.{◌+◌}
use lib.ListN.{take}
use Rattle.writer_steps.specs.Cursors.{Open, Puts}
use Rattle.writer_bits.proofs.put_bits.Given as goal

abbrev pub invariant-loop-bit : goal.invariant-loop-bit
invariant-loop-bit l = record {
  at : l.c.at ≡ l.initial.c.at + l.bit-index;
  cursor : Open l.side l.c;
  puts : Puts (take l.bit-index l.bits) l.initial.side l.side l.initial.c l.c;
}
