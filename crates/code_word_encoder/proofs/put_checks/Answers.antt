-- `code_word_encoder::put_checks` meets its contract: the digits still to be put in front of what stands gives the result. Assumes nothing.
use mathlib.Core.Path.{◌≡◌}
use native.Mathlib.Omega.{arith}
use borrow.Author.Rules.{rules}
use Rattle.code_word_laws.proofs.Encoding as encoding
use Rattle.code_word_encoder.proofs.put_checks.Goals as goal

pub loop-k-preserved : goal.loop-k-preserved
loop-k-preserved c =
    let l = c.loop-k in
    (search rules, encoding.put-checks-next l.k l.r l.word _ (omega arith) (omega arith) l.invariant.1)

pub returns : goal.returns
returns c =
    let l = c.loop-k in
    let e : l.k ≡ 0 = omega arith in
    encoding.put-checks-last l.k l.r l.word _ e l.invariant.1
