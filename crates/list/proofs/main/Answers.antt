-- `list::main` is safe: what was read fits its buffer, and the listing starts inside its own. Assumes nothing.
use Rattle.std.proofs.Common.{arith, sym, ap, ◌∙◌, ◌≤◌}
use Rattle.record_listing.proofs.Lines.{listed-there, listed-most}
use Rattle.record_listing.specs.Listing.{listed_answer}
use Rattle.list.proofs.main.Goals as goal

pub unwrap-at-requires : goal.unwrap-at-requires
unwrap-at-requires c = listed-there _ _ _ (omega arith) c.list.ensures.result_value

pub slice_bounds-write_all-count : goal.slice_bounds-write_all-count
slice_bounds-write_all-count c =
    let f = listed-most _ _ _ (sym (ap listed_answer c.unwrap-at.ensures) ∙ c.list.ensures.result_value) in
    omega arith

pub slice_bounds-write_all-start : goal.slice_bounds-write_all-start
slice_bounds-write_all-start c =
    let f : c.unwrap-at.result ≤ 65536 =
    let g = listed-most _ _ _ (sym (ap listed_answer c.unwrap-at.ensures) ∙ c.list.ensures.result_value) in omega arith in
    f
