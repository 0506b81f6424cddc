-- `record_bytes::walk_back` meets its contract. The invariant is `Walking`: what is left to read gives, with the later entries, the whole.
-- Assumes nothing.
use mathlib.Core.Bool.{true, cond}
use mathlib.Core.Path.{◌≡◌, sym, ◌∙◌, refl}
use Prim.Native.Nat.{◌-◌}
use native.Mathlib.Omega.{arith}
use lib.Dec.{eqb}
use borrow.Author.Tests.{eq-eqb, ne_eqb}
use Rattle.record_bytes.specs.Reading.{may_be}
use Rattle.record_bytes.proofs.Walking.{may-be-sized, walk-not, walk_start, turn, walk-stop, walk-whole, walk-over}
use Rattle.record_bytes.proofs.walk_back.Goals as goal
use Rattle.record_bytes.proofs.walk_back.Goals.{then-left-place, else-left-place}

pub returns-then-not-may_be : goal.returns-then-not-may_be
returns-then-not-may_be c =
    let a = c.args in
    sym (walk-not a.form a.bytes.now a.place (sym c.may_be.ensures ∙ c.if-not-may_be.true))

pub overflow_sub-end : goal.overflow_sub-end
overflow_sub-end c =
    let a = c.args in
    let k = may-be-sized a.form a.bytes.now (sym c.may_be.ensures ∙ c.if-not-may_be.false) in
    omega (arith, c.end.ensures, k.0)

pub number4-entries-requires : goal.number4-entries-requires
number4-entries-requires c =
    let a = c.args in
    let k = may-be-sized a.form a.bytes.now (sym c.may_be.ensures ∙ c.if-not-may_be.false) in
    omega (arith, c.end.ensures, k.0)

pub loop-left-init : goal.loop-left-init
loop-left-init c =
    let a = c.args in
    let may : may_be a.form a.bytes.now ≡ true = sym c.may_be.ensures ∙ c.if-not-may_be.false in
    let k = may-be-sized a.form a.bytes.now may in
    let e = c.end.ensures in (
      omega arith,
      omega (arith, k.1),
      walk_start a.form a.bytes.now _ c.number4-entries.result a.place may (rw e refl) c.number4-entries.ensures,
    )

pub returns-in_err-e : goal.returns-in_err-e
returns-in_err-e c =
    let a = c.args in
    let l = c.loop-left in
    c.from_residual.ensures ∙ sym (walk-stop a.form a.bytes.now l.end l.left a.place c.number4-entries.result
    l.found (omega arith) l.invariant.2 (sym c.entry_before.ensures ∙ c.in_err-e.was))

pub loop-left-preserved : goal.loop-left-preserved
loop-left-preserved c =
    let a = c.args in
    let l = c.loop-left in
    let t = turn a.form a.bytes.now l.end l.left a.place c.number4-entries.result l.found c.in_ok-e.e l.invariant.0
    (omega arith) l.invariant.2 (sym c.entry_before.ensures ∙ c.in_ok-e.was) in
    let low = t.lower in
    let found : c.if-left-place.found ≡ cond (eqb (l.left - 1) a.place) l.end l.found =
    elim c.if-left-place.branch [
      | then-left-place w ↦ rw (eq-eqb (l.left - 1) a.place w.if-left-place.true) w.found-is
      | else-left-place w ↦ rw (ne_eqb (l.left - 1) a.place w.if-left-place.false) w.found-is
    ] in
    (omega arith, omega arith, rw found t.walking)

pub returns-then-end-ne0 : goal.returns-then-end-ne0
returns-then-end-ne0 c =
    let l = c.loop-left in
    let a = c.args in
    sym (walk-over a.form a.bytes.now l.end l.left a.place c.number4-entries.result l.found c.if-end-ne0.true
    (omega arith) l.invariant.2)

pub returns : goal.returns
returns c =
    let l = c.loop-left in
    let a = c.args in
    sym (walk-whole a.form a.bytes.now l.end l.left a.place c.number4-entries.result l.found c.if-end-ne0.false
    (omega arith) l.invariant.2)
