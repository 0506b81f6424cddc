-- `gf16::SemiOctet::inverse` meets its contract. Assumes nothing.
use mathlib.Core.Path.{sym, ap, ◌∙◌}
use Prim.Native.Nat.{ℕ, ◌-◌}
use Rattle.gf16.specs.Field.{power}
use Rattle.gf16.proofs.Logarithms.{inverse-of-zero, inverse-of-other}
use Rattle.gf16.proofs.SemiOctet.inverse.Goals as goal

pub returns-then-is_zero-clause-value : goal.returns-then-is_zero-clause-value
returns-then-is_zero-clause-value c = inverse-of-zero c.args.self.0 (sym c.is_zero.ensures ∙ c.if-is_zero.true)

pub returns-clause-value : goal.returns-clause-value
returns-clause-value c =
    c.powered.ensures.value
    ∙ ap (λ (n : ℕ). power 2 (15 - n)) c.logarithm.ensures.value
    ∙ inverse-of-other c.args.self.0 (sym c.is_zero.ensures ∙ c.if-is_zero.false)
