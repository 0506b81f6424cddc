-- `slot_interleaving::place_word` meets its contract. Assumes nothing.
use Rattle.slot_interleaving.proofs.PlaceSteps.{word-scattered}
use Rattle.slot_interleaving.proofs.place_word.Goals as goal

pub returns : goal.returns
returns c =
    let a = c.args in
    word-scattered a.size a.mode a.i c.scatter_data-r.result a.rows.now a.message.now a.places.now c.scatter_data-r.new.places
    c.scatter_checks.new.places c.requires.with_rows c.requires.below c.scatter_data-r.ensures.value
    c.scatter_data-r.ensures.data_spanned c.scatter_checks.ensures
