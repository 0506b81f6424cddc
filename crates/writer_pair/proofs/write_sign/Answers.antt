-- `writer_pair::write_sign` meets its contract. A sign bit, or none. Assumes nothing.
use mathlib.Core.Path.{ap, ◌∙◌}
use Prim.Native.Nat.{ℕ, ◌+◌}
use native.Mathlib.Omega.{arith}
use Rattle.writer_pair.proofs.Walking.{Signed, Counted, sign-bit, sign-count, sign_below, sign-put}
use Rattle.writer_pair.proofs.write_sign.Goals as goal

pub put-requires : goal.put-requires
put-requires c =
    let s : Signed c.args.u c.from.result = sign-bit c.args.u c.ranges.u c.from.ensures in
    let k : Counted c.args.u c.from-2.result = sign-count c.args.u c.ranges.u c.from-2.ensures in
    let n = k.1 in
    record {
      w_bound = omega arith;
      v_bound = sign_below c.args.u s k;
      fact = c.requires.fact;
      at_bound = c.requires.at_bound;
    }

pub returns : goal.returns
returns c =
    let s : Signed c.args.u c.from.result = sign-bit c.args.u c.ranges.u c.from.ensures in
    let k : Counted c.args.u c.from-2.result = sign-count c.args.u c.ranges.u c.from-2.ensures in
    record {
      puts = sign-put c.args.u s k c.put.ensures.puts;
      fact_2 = c.put.ensures.fact_2;
      at_value = c.put.ensures.at_value ∙ ap (λ (n : ℕ). c.args.p.at + n) k.0;
    }
