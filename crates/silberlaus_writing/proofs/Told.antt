-- From the answer of the writer to that of the C face. Assumes nothing.
use mathlib.Core.Path.{◌≡◌, sym, subst}
use mathlib.Core.List.{List}
use Prim.Native.Nat.{ℕ}
use lib.IntN.{ℤ}
use Rattle.frame_answers.specs.declared.Fields.{Fields}
use Rattle.writer_laws.specs.Writing.{given}
use Rattle.writer.specs.Writer.{Told}
use Rattle.writer.specs.Trip.{Writes}

-- the same fields, and the same number and residual bits
pub told-by : (khz q : ℕ) (f e : Fields) (first second : List ℕ) (lines : List ℤ) (residual frame frame' : List ℕ) (t u : Told) → f ≡ e
    → u ≡ t → Writes khz q (given f first second lines residual) frame frame' t
    → Writes khz q (given e first second lines residual) frame frame' u
told-by khz q f e first second lines residual frame frame' t u a b w =
    subst (λ (x : Told). Writes khz q (given e first second lines residual) frame frame' x) (sym b)
    (subst (λ (x : Fields). Writes khz q (given x first second lines residual) frame frame' t) a w)
