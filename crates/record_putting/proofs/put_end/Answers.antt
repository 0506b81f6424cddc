-- `record_putting::put_end` meets its contract: the number, and the mark behind it, form by form. Assumes nothing.
use Rattle.record_putting.proofs.Parts.{end-one, end-two}
use Rattle.record_putting.proofs.put_end.Goals as goal

pub bounds-out-at : goal.bounds-out-at
bounds-out-at c =
    let a = c.args in
    (end-two a.form a.out.now c.copy_in.new.dst _ a.at a.n c.in-Two.is c.to_be_bytes.ensures c.requires c.copy_in.ensures).0

pub returns-in-One : goal.returns-in-One
returns-in-One c =
    let a = c.args in
    end-one a.form a.out.now c.copy_in.new.dst _ a.at a.n c.in-One.is c.to_be_bytes.ensures c.copy_in.ensures

pub returns-in-Two : goal.returns-in-Two
returns-in-Two c =
    let a = c.args in
    (end-two a.form a.out.now c.copy_in.new.dst _ a.at a.n c.in-Two.is c.to_be_bytes.ensures c.requires c.copy_in.ensures).1
