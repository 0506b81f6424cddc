-- `code_word_syndromes::clear` meets its contract. Assumes nothing.
use Prim.Native.Nat.{◌+◌}
use native.Mathlib.Omega.{arith}
use Rattle.code_word_laws.proofs.Turns.{clears, pow_pos}
use Rattle.code_word_syndromes.proofs.clear.Goals as goal

pub nonzero_rem-result : goal.nonzero_rem-result
nonzero_rem-result c = let e = c.window.ensures in omega (arith, pow_pos (c.args.most + c.args.most))

pub returns : goal.returns
returns c = clears (c.args.most + c.args.most) c.args.s c.window.result c.window.ensures
