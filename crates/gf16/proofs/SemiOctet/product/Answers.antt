-- `gf16::SemiOctet::product` meets its contract. Assumes nothing.
use mathlib.Core.Path.{sym, ap₂, ◌∙◌}
use Prim.Native.Nat.{ℕ, ◌+◌}
use Rattle.gf16.specs.Field.{power}
use Rattle.gf16.proofs.Logarithms.{of_zero, by_zero, of_others}
use Rattle.gf16.proofs.SemiOctet.product.Goals as goal

pub returns-then-is_zero : goal.returns-then-is_zero
returns-then-is_zero c =
    of_zero c.args.self.0 c.args.b.0 (sym c.is_zero.ensures ∙ c.if-is_zero.true)

pub returns-then-is_zero-2 : goal.returns-then-is_zero-2
returns-then-is_zero-2 c =
    by_zero c.args.self.0 c.args.b.0 (sym c.is_zero.ensures ∙ c.if-is_zero.false)
    (sym c.is_zero-2.ensures ∙ c.if-is_zero-2.true)

pub returns : goal.returns
returns c =
    c.powered.ensures.value
    ∙ ap₂ (λ (i j : ℕ). power 2 (i + j)) c.logarithm.ensures.value c.logarithm-2.ensures.value
    ∙ of_others c.args.self.0 c.args.b.0 (sym c.is_zero.ensures ∙ c.if-is_zero.false)
    (sym c.is_zero-2.ensures ∙ c.if-is_zero-2.false)
