-- `record::frame` meets its contract: the part starts where the entry was found, and is its frame. Assumes nothing.
use native.Mathlib.Nat.{add-sub_cancel_left}
use native.Mathlib.Omega.{arith}
use Rattle.record_bytes.proofs.Numbers.{Bytes}
use Rattle.record.proofs.Answered.{frame_found, frame-none}
use Rattle.record.proofs.frame.Goals as goal

pub slice_bounds-result-end : goal.slice_bounds-result-end
slice_bounds-result-end c =
    let a = c.args in
    let b : Bytes a.bytes.now = λ i. omega (arith, c.type_inv.bytes i) in
    let stands = frame_found a.form a.bytes.now a.place c.in-Ok.e b c.in-Ok.ensures in
    omega (arith, stands.within, c.from.ensures)

pub returns-in-Ok : goal.returns-in-Ok
returns-in-Ok c =
    let a = c.args in
    let b : Bytes a.bytes.now = λ i. omega (arith, c.type_inv.bytes i) in
    let stands = frame_found a.form a.bytes.now a.place c.in-Ok.e b c.in-Ok.ensures in
    rw (add-sub_cancel_left c.in-Ok.e.start c.from.result, c.from.ensures) stands.bytes

pub returns-in-Err : goal.returns-in-Err
returns-in-Err c = frame-none c.args.form c.args.bytes.now c.args.place c.in-Err.field-0 c.in-Err.ensures
