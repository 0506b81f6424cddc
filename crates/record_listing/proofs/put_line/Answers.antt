-- `record_listing::put_line` meets its contract: four fields, each in front of the one before. Assumes nothing.
use native.Mathlib.Omega.{arith}
use Rattle.record_listing.proofs.Lines.{line-placed}
use Rattle.record_listing.proofs.put_line.Goals as goal

pub returns : goal.returns
returns c =
    let a = c.args in
    let p1 = c.put_field-count in
    let p2 = c.put_field-request in
    let p3 = c.put_field-length in
    let p4 = c.put_field in
    record {
      placed = line-placed a.out.now p1.new.out p2.new.out p3.new.out p4.new.out p1.result p2.result p3.result p4.result
          a.end a.place a.e.length a.e.request a.e.count _ _ _ c.requires.end_in_bounds c.from.ensures c.from-2.ensures c.from-3.ensures
          p1.ensures.placed p2.ensures.placed p3.ensures.placed p4.ensures.placed;
      end_bound = omega (arith, p1.ensures.end_bound, p2.ensures.end_bound, p3.ensures.end_bound, p4.ensures.end_bound);
    }
