-- `code_word_locator::locator_one` meets its contract. Assumes nothing.
use native.Mathlib.Omega.{arith}
use Rattle.code_word_locator.proofs.Levels.{locator-one-done}
use Rattle.code_word_locator.proofs.locator_one.Goals as goal

pub returns-then-most-eq1 : goal.returns-then-most-eq1
returns-then-most-eq1 c =
    let t = c.requires.sought in
    locator-one-done c.args.s t.most_from t.most_to c.syndrome.ensures.value c.syndrome-s2.ensures.value c.requires.minors_zero
    c.inverse-i.ensures.value c.times-first.ensures.value c.times-start.ensures.upper_bound (λ e. c.times-start.ensures.value)
    (λ n. absurd (omega arith))

pub returns-else-most-eq1 : goal.returns-else-most-eq1
returns-else-most-eq1 c =
    let t = c.requires.sought in
    locator-one-done c.args.s t.most_from t.most_to c.syndrome.ensures.value c.syndrome-s2.ensures.value c.requires.minors_zero
    c.inverse-i.ensures.value c.times-first.ensures.value c.syndrome-start.ensures.upper_bound (λ e. absurd (omega arith))
    (λ n. c.syndrome-start.ensures.value)
