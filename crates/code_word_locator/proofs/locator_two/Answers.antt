-- `code_word_locator::locator_two` meets its contract. Assumes nothing.
use Rattle.code_word_locator.proofs.Levels.{locator-two-done}
use Rattle.code_word_locator.proofs.locator_two.Goals as goal

pub returns : goal.returns
returns c =
    let m = c.requires.second_minor in
    locator-two-done c.args.s m.most_from m.most_to c.syndrome-s1.ensures.value c.syndrome-s2.ensures.value
    c.syndrome-s3.ensures.value c.syndrome-s4.ensures.value m.not_zero m.is m.third c.minor_two-first.ensures.value
    c.minor_two-second.ensures.value c.inverse-i.ensures.value c.times.ensures.value c.times-2.ensures.value
