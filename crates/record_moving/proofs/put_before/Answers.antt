-- `record_moving::put_before` meets its contract. Assumes nothing.
use Rattle.record_moving.proofs.Carrying.{entry-placed}
use Rattle.record_moving.proofs.put_before.Goals as goal

pub returns : goal.returns
returns c =
    let a = c.args in
    entry-placed a.form a.bytes.now a.out.now c.put_entry.new.out a.e c.from-size.result c.trailer.result a.end c.from-size.ensures
    c.trailer.ensures c.requires.length_in_bounds c.requires.form_bound c.requires.end_in_bounds c.put_entry.ensures
