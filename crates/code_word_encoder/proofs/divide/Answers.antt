-- `code_word_encoder::divide` meets its contract: each turn feeds the semi-octet in front of those fed before. Assumes nothing.
use Prim.Native.Nat.{◌-◌}
use native.Mathlib.Omega.{arith}
use borrow.Author.Rules.{rules}
use Rattle.code_word_laws.proofs.Encoding as encoding
use Rattle.code_word_encoder.proofs.divide.Goals as goal

pub loop-i-init : goal.loop-i-init
loop-i-init c = let a = c.args in (search rules, encoding.register-first a.rows.now a.word.now)

pub shift-r-requires : goal.shift-r-requires
shift-r-requires c =
    encoding.among c.args.word.now c.args.n (c.loop-i.i - 1) (omega arith) c.requires.semi_octets

pub loop-i-preserved : goal.loop-i-preserved
loop-i-preserved c =
    let a = c.args in (
      search rules,
      encoding.register-next a.rows.now a.word.now c.loop-i.i (omega arith) (omega arith) c.loop-i.invariant.1 c.shift-r.ensures,
    )
