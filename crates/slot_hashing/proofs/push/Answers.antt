-- `slot_hashing::push` meets its contract. Assumes nothing.
use Rattle.slot_hashing.proofs.HashSteps.{degree-fits, top_bit, push-is}
use Rattle.laws.proofs.Digit.{digit_lt}
use native.Mathlib.Omega.{arith}
use mathlib.Core.Path.{refl}
use Rattle.slot_hashing.proofs.push.Goals as goal

pub overflow_mul-result : goal.overflow_mul-result
overflow_mul-result c =
    let a = c.args in
    let f = digit_lt _ a.p 8388608 (top_bit a.n a.b a.r c.requires.divisor.to c.requires.b_bound c.requires.r_bound)
    (degree-fits a.p a.n c.requires.divisor.degree c.requires.divisor.to) in
    omega arith

pub returns : goal.returns
returns c = let a = c.args in
    let u = push-is a.p a.n a.b a.r _ _ c.requires.divisor.degree c.requires.divisor.to c.requires.b_bound c.requires.r_bound
    refl refl in record { value = u.0; upper_bound = u.1 }
