-- `record_moving::moved` meets its contract: the length is that of the moved record, and its end and its entries are put. Assumes nothing.
use mathlib.Core.Path.{◌≡◌, sym, ap, ◌∙◌}
use mathlib.Core.List.{List}
use Prim.Native.Nat.{ℕ, ◌-◌}
use native.Mathlib.Omega.{arith}
use lib.ListN.{length}
use Rattle.std.proofs.lemmas.Result.{err_from_is_err_and}
use Rattle.record_bytes.specs.Steps.{Whole, put}
use Rattle.record_bytes.specs.Answers.{accepted}
use Rattle.record_moving.specs.Moving.{moved_entries}
use Rattle.record_bytes.proofs.Inverse.{length-end}
use Rattle.record_bytes.proofs.Walking.{whole-read, none_read}
use Rattle.record_bytes.proofs.Putting.{length-put}
use Rattle.record.proofs.Answered.{none_given, some_given}
use Rattle.record_moving.proofs.Carrying.{move-none, move_full, Sized, beside-frames, sized, move-made}
use Rattle.record_moving.proofs.moved.Goals as goal
use Rattle.record_moving.proofs.moved.Goals.{After-length_in-used}

pub returns-in_err-walked : goal.returns-in_err-walked
returns-in_err-walked c =
    let a = c.args in
    let p = err_from_is_err_and c.from_residual.result c.from_residual.ensures.1 in
    let g = none_given c.walk.result _ _ c.in_err-walked.ensures.value in
    let u = move-none a.from a.to a.bytes.now a.out.now (none_read a.from a.bytes.now 0 (sym c.walk.ensures ∙ g.0)) in
    rw (p.1, p.2, g.1) record { result_value = u.0; out_after = u.1 }

pub length_in-used-requires : goal.length_in-used-requires
length_in-used-requires c =
    let a = c.args in
    let w = c.in_ok-walked.walked in
    let whole = whole-read a.from a.bytes.now 0 w.entries w.end (sym c.walk.ensures ∙ some_given _ _ _ c.in_ok-walked.ensures.value) in
    let b = beside-frames a.from a.to a.bytes.now a.out.now w.entries whole (λ i. omega (arith, c.type_inv.bytes i)) in
    record { from_bound = b.0; used_bound = b.1; n_bound = b.2 }

-- the bytes are a record
whole : (c : After-length_in-used) → Whole c.args.from c.args.bytes.now c.in_ok-walked.walked.entries
whole c =
    let w = c.in_ok-walked.walked in
    whole-read c.args.from c.args.bytes.now 0 w.entries w.end (sym c.walk.ensures ∙ some_given _ _ _ c.in_ok-walked.ensures.value)

-- the length is that of the moved record
long : (c : After-length_in-used)
    → Sized c.args.from c.args.to c.args.bytes.now c.args.out.now c.in_ok-walked.walked.entries (whole c) c.length_in-used.result
long c =
    let a = c.args in
    sized a.from a.to a.bytes.now a.out.now c.in_ok-walked.walked.entries (whole c) (λ i. omega (arith, c.type_inv.bytes i))
    c.length_in-used.result c.length_in-used.ensures

pub returns-then-out-used : goal.returns-then-out-used
returns-then-out-used c =
    let k = (goal.at.returns-then-out-used c).After-length_in-used in
    let a = c.args in
    let full = rw (long k).long at c.then-out-used.either in
    let u = move_full a.from a.to a.bytes.now a.out.now c.in_ok-walked.walked.entries (whole k) full in
    record { result_value = u.0; out_after = u.1 }

pub overflow_sub-at : goal.overflow_sub-at
overflow_sub-at c = omega (arith, c.end.ensures, (long (goal.at.overflow_sub-at c).After-length_in-used).front)

pub put_end-requires : goal.put_end-requires
put_end-requires c =
    omega (arith, c.end.ensures, (long (goal.at.put_end-requires c).After-length_in-used).front, c.if-out-used.false)

pub put_entries-requires : goal.put_entries-requires
put_entries-requires c =
    let k = (goal.at.put_entries-requires c).After-length_in-used in
    let a = c.args in
    let front = (long k).front in
    let size = c.end.ensures in
    let room = c.if-out-used.false in
    let m = length-end a.to c.in_ok-walked.walked.entries in
    let l : length c.put_end.new.out ≡ length a.out.now = ap length c.put_end.ensures ∙ length-put a.out.now _ _ (omega arith) in
    record { whole = whole k; end_value = omega arith; end_in_bounds = omega arith }

pub returns : goal.returns
returns c =
    let k = (goal.at.returns c).After-length_in-used in
    let a = c.args in
    let f = a.to in
    let at = c.length_in-used.result - c.end.result in
    let z = long k in
    let size = c.end.ensures in
    let front = z.front in
    let m = move-made a.from f a.bytes.now a.out.now c.in_ok-walked.walked.entries (whole k) at
    (omega (arith, c.if-out-used.false, z.long)) (omega (arith, c.if-used-gt65536.false, z.long)) (omega (arith, z.long)) in
    record {
      result_value = ap accepted z.long ∙ m.0;
      out_after = c.put_entries.ensures ∙ ap (λ (l : List ℕ). put l 0 (moved_entries a.from f a.bytes.now)) c.put_end.ensures ∙ m.1;
    }
