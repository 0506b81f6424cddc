-- `copying::copy` meets its contract. Assumes nothing.
use mathlib.Core.Path.{◌≡◌, refl}
use mathlib.Core.List.{List, [], ◌∷◌}
use Prim.Native.Nat.{ℕ, ◌<◌}
use native.Mathlib.Omega.{arith}
use lib.ListN.{length, get_or}
use lib.Seq.{ext_get_or}
use Rattle.copying.proofs.copy.Goals as goal

-- two lists of one length are the same where they are at each place, whatever stands past their end
same : {A : Type 0} (xs ys : List A) → length xs ≡ length ys → ((k : ℕ) (d : A) → k < length xs → get_or xs k d ≡ get_or ys k d) → xs ≡ ys
same [] [] e h = refl
same [] (y ∷ ys) e h = absurd (omega arith)
same (x ∷ xs) ys e h = ext_get_or x (x ∷ xs) ys e (λ k l. h k x l)

pub returns : goal.returns
returns g c =
    same c.loop-k.to c.args.from.now (omega (arith, c.loop-k.auto.to, c.requires))
    (λ k d l. c.loop-k.invariant k d (omega (arith, l, c.loop-k.auto.to, c.loop-k-test.false)))
