-- `frame_bits::read_bits` meets its contract. Assumes nothing.
use mathlib.Core.Path.{◌≡◌, refl, ◌∙◌}
use Prim.Native.Nat.{ℕ, ◌*◌, ◌/◌, ◌%◌, ◌^◌, ◌<◌}
use native.Mathlib.Nat.{one-mul}
use native.Mathlib.Omega.{arith}
use lib.Pow.{pow_pos, shl_exact}
use Rattle.frame_bits.specs.Bits.{bits_of}
use Rattle.frame_bits.proofs.SideBits.{bits_below, field-inside, four-field}
use Rattle.frame_bits.proofs.read_bits.Goals as goal

-- one more than the highest number of n bits
above : (n : ℕ) → n < 64 → 1 * 2 ^ n % 2 ^ 64 ≡ 2 ^ n
above n h = shl_exact 1 n 64 (omega arith) (omega arith) ∙ one-mul (2 ^ n)

pub nonzero_rem-result-2 : goal.nonzero_rem-result-2
nonzero_rem-result-2 c =
    let n = c.args.n in
    let e = above n (omega arith) in
    let p = pow_pos n in
    omega arith

pub returns : goal.returns
returns c =
    let a = c.args in
    let z = c.requires in
    let s = a.s.now in
    let l = z.sized.least in
    let e = above a.n (omega arith) in
    let f = four-field s (λ i. omega (arith, c.type_inv.s i)) a.p a.n (omega arith) z.n_bound in
    let v : c.four_back-bytes.result / 2 ^ (a.p % 8) % (1 * 2 ^ a.n % 2 ^ 64) ≡ bits_of s a.p a.n =
    rw (c.four_back-bytes.ensures, e) f in
    record {
      found = rw v (field-inside s a.p a.n (omega arith));
      below = rw v (bits_below s a.p a.n);
      next = refl;
    }
