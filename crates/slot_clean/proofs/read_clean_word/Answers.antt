-- `slot_clean::read_clean_word` meets its contract. Assumes nothing.
use Rattle.slot_clean.proofs.CleanSteps.{clean-coded}
use Rattle.slot_clean.proofs.read_clean_word.Goals as goal

pub returns-clause-clean_over : goal.returns-clause-clean_over
returns-clause-clean_over c e =
    clean-coded c.requires.with_rows c.requires.below c.receive_data-r.ensures.w_after c.receive_data-r.ensures.checks_summed
    (c.same_checks.ensures e)
