-- `code_word_locator::error_word` meets its contract. Assumes nothing.
use Rattle.code_word_laws.proofs.Correcting.{error-word-is}
use Rattle.code_word_locator.proofs.error_word.Goals as goal

pub returns : goal.returns
returns c =
    let r = c.find_locator-r in
    error-word-is c.args.most c.args.s r.result.first r.result.second r.result.third r.result.start c.errors.result
    c.requires.most_from r.ensures.locator (rw (c.syndrome.ensures.value, c.syndrome-2.ensures.value) at c.errors.ensures)
