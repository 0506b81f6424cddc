-- `slot_hashing::push_four` meets its contract. Assumes nothing.
use Rattle.slot_hashing.proofs.HashFours.{upper_lt, four-step}
use native.Mathlib.Omega.{arith}
use mathlib.Core.Path.{refl}
use borrow.Author.Rules.{rules}
use Rattle.slot_hashing.proofs.push_four.Goals as goal

pub bounds-by-t : goal.bounds-by-t
bounds-by-t c = upper_lt c.args.by.now.degree _ c.args.r c.requires.stepped.from c.requires.r_bound (omega arith)

pub returns : goal.returns
returns c =
    let a = c.args in
    let d = a.by.now in
    let u = four-step d.bits d.degree _ _ _ _ a.r _ _ _ d.steps c.requires.stepped c.requires.r_bound (omega arith) refl refl in
    record { value = u.0; upper_bound = u.1; four_len = search rules }
