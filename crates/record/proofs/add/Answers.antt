-- `record::add` meets its contract. `may` and `whole` are what the tests and the walk have shown where bytes are written. Assumes nothing.
use mathlib.Core.Path.{◌≡◌, refl, sym, ap, ◌∙◌, subst}
use mathlib.Core.Bool.{true, false}
use mathlib.Core.List.{List}
use Prim.Native.Nat.{ℕ, ◌+◌, ◌-◌, ◌≤◌}
use native.Mathlib.Omega.{arith}
use borrow.Author.Rules.{rules}
use lib.ListN.{length, take}
use lib.Seq.{length-take-le}
use Rattle.record_forms.specs.declared.Form.TheVariants as form
use Rattle.std.proofs.lemmas.Result.{err_from_is_err_and}
use Rattle.record_forms.specs.Forms.{end_size}
use Rattle.record_bytes.specs.Layout.{RecordEntry, trailer, entry_bytes}
use Rattle.record_bytes.specs.Reading.{read_record}
use Rattle.record_bytes.specs.Answers.{accepted, refused}
use Rattle.record.specs.Answers.{asked, may_add, has_room, add_answer, add_buffer}
use Rattle.record_bytes.specs.Steps.{whole, walk_of, put}
use Rattle.record.specs.Meaning.{Stored}
use Rattle.record_bytes.proofs.Numbers.{Bytes}
use Rattle.record.proofs.Answered.{none_given, some_given}
use Rattle.record.proofs.Theorems.{add-stores}
use Rattle.record.proofs.Adding.{
  Allowed,
  allowed,
  used-known,
  room-yes,
  room_none,
  add-bad,
  add_none,
  add-full,
  add-stored,
  put-added,
}
use Rattle.record.proofs.add.Goals as goal
use Rattle.record.proofs.add.Goals.{Else-not-may_add, In_ok-walked}

-- the buffer and the entry of the call
abbrev given : goal.Else-not-may_add → RecordEntry
given c = asked c.args.frame.now c.args.request c.args.count c.args.bits

may : (c : goal.Else-not-may_add) → may_add c.args.buffer.now c.args.used (given c) c.args.length ≡ true
unfolding may_add
may c = sym c.may_add.ensures ∙ c.if-not-may_add.false

ok : (c : goal.Else-not-may_add) → Allowed c.args.buffer.now c.args.used (given c) c.args.length
ok c = allowed c.args.buffer.now c.args.used (given c) c.args.length (may c)

-- the same where the used bytes are a record
abbrev lent : goal.In_ok-walked → List ℕ
lent c = c.args.buffer.now

abbrev entry-of : goal.In_ok-walked → RecordEntry
entry-of c = asked c.args.frame.now c.args.request c.args.count c.args.bits

may-whole : (c : goal.In_ok-walked) → may_add (lent c) c.args.used (entry-of c) c.args.length ≡ true
unfolding may_add
may-whole c = sym c.may_add.ensures ∙ c.if-not-may_add.false

bytes : (c : goal.In_ok-walked) → Bytes (lent c)
bytes c i = search rules

walked : (c : goal.In_ok-walked) → walk_of form.Two (read_record form.Two (take c.args.used (lent c))) 0
    ≡ whole c.in_ok-walked.walked.entries c.in_ok-walked.walked.end
walked c = sym c.walk.ensures ∙ some_given _ _ _ c.in_ok-walked.ensures.value

known : (c : goal.In_ok-walked) → (5 ≤ c.args.used) × (c.in_ok-walked.walked.entries ≤ c.args.used)
known c =
    let a = allowed (lent c) c.args.used (entry-of c) c.args.length (may-whole c) in
    used-known form.Two (lent c) c.args.used (entry-of c) c.args.length a.inside (bytes c)
    c.in_ok-walked.walked.entries c.in_ok-walked.walked.end (walked c)

pub slice_bounds-walk-end : goal.slice_bounds-walk-end
slice_bounds-walk-end c = (ok c).inside

pub slice_bounds-walk-end-2 : goal.slice_bounds-walk-end-2
slice_bounds-walk-end-2 c = sym (length-take-le c.args.used c.args.buffer.now (ok c).inside)

pub returns-in_err-walked : goal.returns-in_err-walked
returns-in_err-walked c =
    let t = (goal.at.returns-in_err-walked c).Else-not-may_add in
    let p = err_from_is_err_and c.from_residual.result c.from_residual.ensures.1 in
    let g = none_given c.walk.result _ _ c.in_err-walked.ensures.value in
    let r = add_none form.Two c.args.buffer.now c.args.used (given t) c.args.length (may t) (sym c.walk.ensures ∙ g.0) in
    rw (p.1, p.2, g.1) record { result_value = r.0; buffer_after = r.1; stored_by = refl }

pub overflow_add-end : goal.overflow_add-end
overflow_add-end c =
    let a = ok (goal.at.overflow_add-end c).Else-not-may_add in
    omega arith

pub overflow_add-end-2 : goal.overflow_add-end-2
overflow_add-end-2 c =
    let a = ok (goal.at.overflow_add-end-2 c).Else-not-may_add in
    omega (arith, c.trailer.ensures)

-- the record has no room for the entry
full : (c : goal.In_ok-walked) → has_room form.Two (lent c) c.args.used (entry-of c) ≡ false
    → (refused 6 ≡ add_answer form.Two (lent c) c.args.used (entry-of c) c.args.length)
    × (lent c ≡ add_buffer form.Two (lent c) c.args.used (entry-of c) c.args.length)
full c =
    add-full form.Two (lent c) c.args.used (entry-of c) c.args.length (may-whole c) (bytes c)
    c.in_ok-walked.walked.entries c.in_ok-walked.walked.end (walked c)

pub returns-then-room-end : goal.returns-then-room-end
returns-then-room-end c =
    let w = (goal.at.returns-then-room-end c).In_ok-walked in
    let e = rw c.trailer.ensures at c.then-room-end.either in
    let r = full w (room_none form.Two (lent w) c.args.used (entry-of w) c.args.length e) in
    record { result_value = r.0; buffer_after = r.1; stored_by = refl }

pub overflow_sub-at : goal.overflow_sub-at
overflow_sub-at c =
    let k = known (goal.at.overflow_sub-at c).In_ok-walked in
    omega (arith, c.end.ensures)

pub overflow_cast-request : goal.overflow_cast-request
overflow_cast-request c =
    let a = ok (goal.at.overflow_cast-request c).Else-not-may_add in
    omega arith

pub overflow_cast-count : goal.overflow_cast-count
overflow_cast-count c =
    let a = ok (goal.at.overflow_cast-count c).Else-not-may_add in
    omega arith

pub overflow_cast-bits : goal.overflow_cast-bits
overflow_cast-bits c =
    let a = ok (goal.at.overflow_cast-bits c).Else-not-may_add in
    omega arith

pub put_entry-requires : goal.put_entry-requires
put_entry-requires c =
    let k = known (goal.at.put_entry-requires c).In_ok-walked in
    let a = ok (goal.at.put_entry-requires c).Else-not-may_add in
    let x = c.end.ensures in
    let t = c.trailer.ensures in
    record { in_bounds = omega arith; frame_len_bound = omega arith; form_in_bounds = omega arith }

pub overflow_add-walked : goal.overflow_add-walked
overflow_add-walked c =
    let k = known (goal.at.overflow_add-walked c).In_ok-walked in
    let a = ok (goal.at.overflow_add-walked c).Else-not-may_add in
    omega arith

pub returns : goal.returns
unfolding entry_bytes trailer
returns c =
    let w = (goal.at.returns c).In_ok-walked in
    let six = c.trailer in
    let five = c.end-2.ensures in
    let used = c.args.used in
    let frame = c.args.frame.now in
    let n = c.in_ok-walked.walked.entries in
    let v = c.in_ok-walked.walked.end in
    let room : used + length frame + 6 ≤ length (lent w) = omega (arith, six.ensures) in
    let small : used + length frame + 6 ≤ 65536 = omega (arith, six.ensures) in
    let stored = add-stored form.Two (lent w) used (entry-of w) c.args.length (may-whole w) (bytes w) n v (walked w) room small in
    let kept = add-stores form.Two (lent w) used (entry-of w) c.args.length (may-whole w) (bytes w) n v (walked w)
    (room-yes form.Two (lent w) used (entry-of w) c.args.length room small) small in
    let next : used + length frame + six.result ≡ used + length frame + 6 = ap (λ (x : ℕ). used + length frame + x) six.ensures in
    let least = (known w).0 in
    let after = c.put_end.new.out in
    let entry_put : c.put_entry.new.out ≡ put (lent w) (used - end_size form.Two) (entry_bytes form.Two (entry-of w)) =
    c.put_entry.ensures ∙ ap (λ (x : ℕ). put (lent w) (used - x) (entry_bytes form.Two (entry-of w))) c.end.ensures in
    let left = put-added form.Two (lent w) c.put_entry.new.out after (used - end_size form.Two)
    (used + length frame + six.result - c.end-2.result) n (entry-of w) (omega (arith, six.ensures))
    (omega (arith, six.ensures)) entry_put c.put_end.ensures ∙ stored.1 in
    record {
      result_value = ap accepted next ∙ stored.0;
      buffer_after = left;
      stored_by = subst (λ (x : ℕ). Stored form.Two (lent w) after used x (entry-of w)) (sym next) (rw left kept);
    }

pub returns-then-not-may_add : goal.returns-then-not-may_add
unfolding may_add
returns-then-not-may_add c =
    let a = c.args in
    let r = add-bad form.Two a.buffer.now a.used (asked a.frame.now a.request a.count a.bits) a.length
    (sym c.may_add.ensures ∙ c.if-not-may_add.true) in
    record { result_value = r.0; buffer_after = r.1; stored_by = refl }
