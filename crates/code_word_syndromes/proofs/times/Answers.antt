-- `code_word_syndromes::times` meets its contract: the number that is read has the product in its highest digit. Assumes nothing.
use native.Mathlib.Omega.{arith}
use Rattle.gf16.proofs.Laws.{product_lt}
use Rattle.code_word_syndromes.proofs.times.Goals as goal

pub overflow_cast-result : goal.overflow_cast-result
overflow_cast-result c =
    let e = c.table.ensures.times c.args.a c.args.b (omega arith) (omega arith) in
    omega (arith, e, c.from.ensures, c.from-2.ensures, product_lt c.args.a c.args.b)

pub returns : goal.returns
returns c =
    let e = c.table.ensures.times c.args.a c.args.b (omega arith) (omega arith) in
    record {
      value = rw (c.from.ensures, c.from-2.ensures) e;
      upper_bound = omega (arith, e, c.from.ensures, c.from-2.ensures, product_lt c.args.a c.args.b);
    }
