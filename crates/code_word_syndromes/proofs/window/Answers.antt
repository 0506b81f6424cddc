-- `code_word_syndromes::window` meets its contract. Assumes nothing.
use mathlib.Core.Path.{◌≡◌, sym, ap}
use Prim.Native.Nat.{ℕ, ◌+◌, ◌^◌}
use native.Mathlib.Omega.{arith}
use Rattle.code_word_syndromes.proofs.window.Goals as goal

pub returns-in-1 : goal.returns-in-1
returns-in-1 c =
    let e : c.args.most ≡ 1 = omega arith in
    sym (ap (λ (n : ℕ). 16 ^ (n + n)) e)

pub returns-in-2 : goal.returns-in-2
returns-in-2 c =
    let e : c.args.most ≡ 2 = omega arith in
    sym (ap (λ (n : ℕ). 16 ^ (n + n)) e)

pub returns-in_default : goal.returns-in_default
returns-in_default c =
    let e : c.args.most ≡ 3 = omega arith in
    sym (ap (λ (n : ℕ). 16 ^ (n + n)) e)
