-- `code_word_locator::locator_three` meets its contract. Assumes nothing.
use Rattle.code_word_locator.proofs.Levels.{locator-three-done}
use Rattle.code_word_locator.proofs.locator_three.Goals as goal

pub returns : goal.returns
returns c =
    locator-three-done c.args.s c.syndrome-s1.ensures.value c.syndrome-s2.ensures.value c.syndrome-s3.ensures.value
    c.syndrome-s4.ensures.value c.syndrome-s5.ensures.value c.syndrome-s6.ensures.value c.requires.third_minor.not_zero
    c.requires.third_minor.is c.minor_two-m01.ensures.value c.minor_two-m02.ensures.value c.minor_two-m03.ensures.value
    c.minor_two-m12.ensures.value c.minor_two-m13.ensures.value c.minor_two-m23.ensures.value c.tripled-first.ensures.value
    c.tripled-second.ensures.value c.tripled-third.ensures.value c.inverse-i.ensures.value c.times.ensures.value
    c.times-2.ensures.value c.times-3.ensures.value
