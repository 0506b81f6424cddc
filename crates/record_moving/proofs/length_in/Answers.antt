-- `record_moving::length_in` meets its contract: what stands beside the frames is small, and no more than the record. Assumes nothing.
use native.Mathlib.Omega.{arith}
use Rattle.record_forms.proofs.Sizes.{mark-most}
use Rattle.record_moving.proofs.Carrying.{beside-most}
use Rattle.record_moving.proofs.length_in.Goals as goal

pub overflow_mul-frames : goal.overflow_mul-frames
overflow_mul-frames c =
    let a = c.args in
    let was = beside-most a.from a.n c.trailer.result c.trailer.ensures c.requires.n_bound in
    record { fits = omega (arith, was.1) }

pub overflow_add-frames : goal.overflow_add-frames
overflow_add-frames c =
    let a = c.args in
    let was = beside-most a.from a.n c.trailer.result c.trailer.ensures c.requires.n_bound in
    record { fits = omega (arith, was.1, c.end.ensures, mark-most c.args.from) }

pub overflow_sub-frames : goal.overflow_sub-frames
overflow_sub-frames c =
    let a = c.args in
    let was = beside-most a.from a.n c.trailer.result c.trailer.ensures c.requires.n_bound in
    omega (arith, was.0, c.end.ensures, c.requires.from_bound)

pub overflow_mul-result : goal.overflow_mul-result
overflow_mul-result c =
    let a = c.args in
    let becomes = beside-most a.to a.n c.trailer-2.result c.trailer-2.ensures c.requires.n_bound in
    record { fits = omega (arith, becomes.1) }

pub overflow_add-result : goal.overflow_add-result
overflow_add-result c =
    let a = c.args in
    let becomes = beside-most a.to a.n c.trailer-2.result c.trailer-2.ensures c.requires.n_bound in
    record { fits = omega (arith, becomes.1, c.end-2.ensures, mark-most c.args.to) }

pub overflow_add-result-2 : goal.overflow_add-result-2
overflow_add-result-2 c =
    let a = c.args in
    let becomes = beside-most a.to a.n c.trailer-2.result c.trailer-2.ensures c.requires.n_bound in
    record { fits = omega (arith, becomes.1, c.end-2.ensures, mark-most c.args.to, c.requires.used_bound) }

pub returns : goal.returns
returns c =
    let a = c.args in
    let was = beside-most a.from a.n c.trailer.result c.trailer.ensures c.requires.n_bound in
    let a = c.args in
    let becomes = beside-most a.to a.n c.trailer-2.result c.trailer-2.ensures c.requires.n_bound in
    omega (arith, was.0, c.end.ensures, becomes.0, c.end-2.ensures, c.requires.from_bound)
