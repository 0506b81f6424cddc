-- `slot_sizes::word_count` meets its contract. Assumes nothing.
use Rattle.slot_laws.specs.Sizes.{words}
use mathlib.Core.Path.{refl}
use Rattle.slot_sizes.proofs.word_count.Goals as goal

pub returns-clause-value : goal.returns-clause-value
unfolding words
returns-clause-value c = refl
