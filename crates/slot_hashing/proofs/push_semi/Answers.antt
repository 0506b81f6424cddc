-- `slot_hashing::push_semi` meets its contract. Assumes nothing.
use Rattle.slot_hashing.proofs.HashTable.{low_fits, place-lt, semi-step}
use native.Mathlib.Omega.{arith}
use mathlib.Core.Path.{refl}
use Rattle.slot_hashing.proofs.push_semi.Goals as goal

pub overflow_mul-result : goal.overflow_mul-result
overflow_mul-result c =
    let f = low_fits c.args.by.now.degree 4 18 c.args.r c.requires.stepped.divisor.to (omega arith) in omega arith

pub bounds-by-t : goal.bounds-by-t
bounds-by-t c =
    let f = place-lt c.args.by.now.degree 4 c.from.result c.args.r (omega arith) c.requires.r_bound (omega arith) in omega arith

pub returns : goal.returns
returns c =
    let a = c.args in
    let d = a.by.now in
    let u = semi-step d.bits d.degree a.c a.r _ _ d.steps c.requires.stepped c.requires.r_bound c.from.ensures refl in
    record { value = u.0; upper_bound = u.1 }
