-- `code_word_syndromes::syndrome` meets its contract: a shift by four for each digit below. Assumes nothing.
use mathlib.Core.Path.{◌≡◌, sym, ap, ◌∙◌}
use Prim.Native.Nat.{ℕ, zero, suc, ◌+◌, ◌*◌, ◌/◌, ◌%◌, ◌^◌}
use native.Mathlib.Omega.{arith}
use native.Mathlib.Nat.{div-div-eq-div-mul}
use Rattle.std.proofs.Common.{pow-add}
use Rattle.code_word_laws.specs.Packed.{nibble}
use Rattle.code_word_syndromes.proofs.syndrome.Goals as goal

shifted : (j s : ℕ) → s / 2 ^ (4 * j) % 16 ≡ nibble j s
shifted zero s = omega arith
shifted (suc j) s =
    let e : 4 * suc j ≡ 4 + 4 * j = omega arith in
    ap (λ (x : ℕ). s / x % 16) (ap (λ (n : ℕ). 2 ^ n) e ∙ pow-add 2 4 (4 * j))
    ∙ ap (λ (x : ℕ). x % 16) (sym (div-div-eq-div-mul s 16 (2 ^ (4 * j))))
    ∙ shifted j (s / 16)

pub returns-clause-value : goal.returns-clause-value
returns-clause-value c = shifted c.args.j c.args.s
