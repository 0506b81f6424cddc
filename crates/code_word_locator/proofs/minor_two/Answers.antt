-- `code_word_locator::minor_two` meets its contract. Assumes nothing.
use Rattle.code_word_laws.proofs.Turns.{minor-two-is}
use Rattle.code_word_locator.proofs.minor_two.Goals as goal

pub returns : goal.returns
returns c =
    let a = c.args in
    let u = minor-two-is a.a a.b a.c a.d c.times.ensures.value c.times-2.ensures.value in
    record { value = u.0; upper_bound = u.1 }
