-- `code_word_locator::tripled` meets its contract. Assumes nothing.
use Rattle.code_word_laws.proofs.Turns.{tripled-is}
use Rattle.code_word_locator.proofs.tripled.Goals as goal

pub returns : goal.returns
returns c =
    let a = c.args in
    let u = tripled-is a.a a.x a.b a.y a.c a.z c.times.ensures.value c.times-2.ensures.value c.times-3.ensures.value in
    record { value = u.0; upper_bound = u.1 }
