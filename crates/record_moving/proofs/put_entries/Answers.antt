-- `record_moving::put_entries` meets its contract. The invariant is `Carrying`: the later entries stand in the other form. Assumes nothing.
use mathlib.Core.Path.{refl, sym, ◌∙◌}
use Prim.Native.Nat.{◌≤◌}
use native.Mathlib.Omega.{arith}
use lib.ListN.{length}
use Rattle.record_bytes.proofs.Putting.{placed-length}
use Rattle.record_moving.proofs.Carrying.{carrying-start, found, carried, there, carried-all, beside-frames}
use Rattle.record_moving.proofs.put_entries.Goals as goal

pub overflow_sub-place : goal.overflow_sub-place
overflow_sub-place c =
    let a = c.args in
    let k = beside-frames a.from a.to a.bytes.now a.out.now a.n c.requires.whole (λ i. omega (arith, c.type_inv.bytes i)) in
    omega (arith, k.0, c.end.ensures)

pub loop-left-init : goal.loop-left-init
loop-left-init c =
    let a = c.args in (
      rw c.end.ensures (carrying-start a.from a.to a.bytes.now a.out.now a.n a.end
          (λ i. omega (arith, c.type_inv.bytes i)) c.requires.whole c.requires.end_value),
      refl,
      omega arith,
      omega arith,
    )

pub entry_before-requires : goal.entry_before-requires
entry_before-requires c =
    let a = c.args in
    let k = beside-frames a.from a.to a.bytes.now a.out.now a.n c.requires.whole (λ i. omega (arith, c.type_inv.bytes i)) in
    let i = c.loop-left.invariant in
    record { end_in_bounds = i.2; end_bound = omega (arith, i.2, k.1) }

pub unwrap-e-requires : goal.unwrap-e-requires
unwrap-e-requires c =
    let l = c.loop-left in
    let a = c.args in
    there a.from a.to a.bytes.now a.out.now a.n a.end l.out l.at l.place l._left l.invariant.0 c.loop-left-test.true _
    c.entry_before.ensures

pub put_before-at-requires : goal.put_before-at-requires
put_before-at-requires c =
    let a = c.args in
    let l = c.loop-left in
    let f = found a.from a.to a.bytes.now a.out.now a.n a.end l.out l.at l.place l._left l.invariant.0
    c.unwrap-e.result c.loop-left-test.true (sym c.entry_before.ensures ∙ c.unwrap-e.ensures) in
    record {
      le_length = omega (arith, f.long);
      length_in_bounds = f.inside;
      form_bound = f.room;
      end_in_bounds = omega (arith, l.invariant.1, l.invariant.3, c.requires.end_in_bounds);
    }

pub loop-left-preserved : goal.loop-left-preserved
loop-left-preserved c =
    let a = c.args in
    let l = c.loop-left in
    let v = c.unwrap-e.result in
    let p = c.put_before-at in
    let step = sym c.entry_before.ensures ∙ c.unwrap-e.ensures in
    let more = c.loop-left-test.true in
    let f = found a.from a.to a.bytes.now a.out.now a.n a.end l.out l.at l.place l._left l.invariant.0 v more step in
    let t = carried a.from a.to a.bytes.now a.out.now a.n a.end l.out l.at l.place l._left l.invariant.0 v
    more step p.new.out p.result p.ensures c.requires.end_in_bounds in
    let at_most : l.at ≤ length l.out = omega (arith, l.invariant.1, l.invariant.3, c.requires.end_in_bounds) in (
      t,
      placed-length l.out p.new.out p.result l.at _ at_most p.ensures ∙ l.invariant.1,
      omega (arith, l.invariant.2, f.lower),
      omega (arith, l.invariant.3, p.ensures.sized),
    )

pub returns : goal.returns
returns c =
    let l = c.loop-left in
    let a = c.args in
    carried-all a.from a.to a.bytes.now a.out.now a.n a.end l.out l.at l.place l._left (omega arith) l.invariant.0
