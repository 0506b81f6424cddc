-- `record_listing::put_field` meets its contract. Assumes nothing.
use native.Mathlib.Omega.{arith}
use lib.ListN.{length-set}
use Rattle.record_listing.proofs.Spelling.{field-placed}
use Rattle.record_listing.proofs.put_field.Goals as goal

pub bounds-out-end-2 : goal.bounds-out-end-2
bounds-out-end-2 c = simp length-set (omega arith)

pub put_digits-requires : goal.put_digits-requires
put_digits-requires c = record {
  le_end = omega arith;
  end_in_bounds = simp length-set (omega arith);
  n_bound = omega arith;
}

pub returns : goal.returns
returns c =
    let a = c.args in
    let p = c.put_digits.ensures in record {
      placed = field-placed a.out.now c.put_digits.new.out c.put_digits.result a.end a.n
          c.digit.result a.after (omega arith) (omega arith)
          c.digit.ensures p.placed;
      end_bound = omega (arith, p.end_bound);
    }
