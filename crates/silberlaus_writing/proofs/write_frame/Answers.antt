-- `silberlaus_writing::write_frame` meets its contract: that of `writer::write`, with the number in place of the result. Assumes nothing.
use Rattle.silberlaus_writing.proofs.Told.{told-by}
use Rattle.silberlaus_writing.proofs.write_frame.Goals as goal

pub returns : goal.returns
returns c =
    told-by _ _ _ _ _ _ _ _ _ _ _ _ c.grouped.ensures c.written.ensures c.write.ensures
