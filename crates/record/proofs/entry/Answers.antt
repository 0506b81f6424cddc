-- `record::entry` meets its contract: the entry before the place that the walk noted, or a place that is not there. Assumes nothing.
use mathlib.Core.Path.{◌≡◌, sym, ◌∙◌}
use native.Mathlib.Omega.{arith}
use borrow.Author.Rules.{rules}
use Rattle.std.proofs.lemmas.Result.{err_from_is_err_and}
use Rattle.record_bytes.specs.Steps.{whole, walk_of}
use Rattle.record_bytes.specs.Reading.{read_record}
use Rattle.record_bytes.proofs.Numbers.{Bytes}
use Rattle.record.proofs.Answered.{none_given, some_given, entry_in-is, entry-no, found, found-there, found_inside, past, no_record}
use Rattle.record.proofs.entry.Goals as goal
use Rattle.record.proofs.entry.Goals.{In_ok-walked}

-- what the walk found
walked : (c : In_ok-walked) → walk_of c.in_ok-f.f (read_record c.in_ok-f.f c.args.bytes.now) c.args.place
    ≡ whole c.in_ok-walked.walked.entries c.in_ok-walked.walked.end
walked c = sym c.walk.ensures ∙ some_given _ _ _ c.in_ok-walked.ensures.value

bytes : (c : In_ok-walked) → Bytes c.args.bytes.now
bytes c i = search rules

pub returns-in_err-f : goal.returns-in_err-f
returns-in_err-f c =
    let p = err_from_is_err_and c.from_residual.result c.from_residual.ensures.1 in
    rw (p.1, p.2) (entry-no c.args.form c.in_err-f.field-0.0 (sym c.try_from.ensures ∙ c.in_err-f.was) c.args.bytes.now c.args.place)

pub returns-in_err-walked : goal.returns-in_err-walked
returns-in_err-walked c =
    let a = c.args in
    let f = c.in_ok-f.f in
    let p = err_from_is_err_and c.from_residual-in_err-walked.result c.from_residual-in_err-walked.ensures.1 in
    let g = none_given c.walk.result _ _ c.in_err-walked.ensures.value in
    rw (p.1, p.2, g.1) (no_record f a.bytes.now a.place (sym c.walk.ensures ∙ g.0)
    ∙ entry_in-is a.form f (sym c.try_from.ensures ∙ c.in_ok-f.was) a.bytes.now a.place)

pub returns-then-walked-place : goal.returns-then-walked-place
returns-then-walked-place c =
    let a = c.args in
    let w = (goal.at.returns-then-walked-place c).In_ok-walked in
    past c.in_ok-f.f a.bytes.now a.place _ _ (bytes w) (walked w) c.if-walked-place.true
    ∙ entry_in-is a.form c.in_ok-f.f (sym c.try_from.ensures ∙ c.in_ok-f.was) a.bytes.now a.place

pub entry_before-requires : goal.entry_before-requires
entry_before-requires c =
    let a = c.args in
    let w = (goal.at.entry_before-requires c).In_ok-walked in
    let i = found_inside c.in_ok-f.f a.bytes.now a.place _ _ (bytes w) (walked w) c.if-walked-place.false in
    record { end_in_bounds = i.0; end_bound = omega (arith, i.0, i.1) }

pub unwrap-requires : goal.unwrap-requires
unwrap-requires c =
    let w = (goal.at.unwrap-requires c).In_ok-walked in
    found-there c.in_ok-f.f c.args.bytes.now c.args.place _ _ (bytes w) (walked w) c.if-walked-place.false _ c.entry_before.ensures

pub returns : goal.returns
returns c =
    let a = c.args in
    let w = (goal.at.returns c).In_ok-walked in
    found c.in_ok-f.f a.bytes.now a.place _ _ (bytes w) (walked w) c.unwrap.result c.if-walked-place.false
    (sym c.entry_before.ensures ∙ c.unwrap.ensures)
    ∙ entry_in-is a.form c.in_ok-f.f (sym c.try_from.ensures ∙ c.in_ok-f.was) a.bytes.now a.place
