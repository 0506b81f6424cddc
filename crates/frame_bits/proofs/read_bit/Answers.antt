-- `frame_bits::read_bit` meets its contract. Assumes nothing.
use mathlib.Core.Path.{sym, refl}
use Rattle.frame_bits.proofs.SideBits.{bit-inside, bit-outside}
use Rattle.frame_bits.proofs.read_bit.Goals as goal

pub returns-then-p-s : goal.returns-then-p-s
returns-then-p-s c = let a = c.args in
    let b = c.bit_at.ensures in
    record {
      result_value = rw b.value (sym (bit-inside a.s.now a.p c.if-p-s.true));
      good_bit = (b.upper_bound, refl, c.if-p-s.true);
    }

pub returns-else-p-s : goal.returns-else-p-s
returns-else-p-s c = let a = c.args in record {
  result_value = sym (bit-outside a.s.now a.p c.if-p-s.false);
  good_bit = tt;
}
