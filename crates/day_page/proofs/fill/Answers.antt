-- `day_page::fill` is safe, and both texts lie inside their buffers. Assumes nothing.
use Rattle.record_listing.proofs.Lines.{listed-most}
use Rattle.day_page.proofs.fill.Goals as goal

pub returns : goal.returns
returns c = (c.report-end.ensures, listed-most _ _ _ c.in_ok-start.ensures.result_value)
