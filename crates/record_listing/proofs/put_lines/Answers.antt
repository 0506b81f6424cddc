-- `record_listing::put_lines` meets its contract. The invariant is `Lining`: the lines of the later entries stand. Assumes nothing.
use mathlib.Core.Path.{refl, sym, ◌∙◌}
use Prim.Native.Nat.{◌≤◌}
use native.Mathlib.Omega.{arith}
use lib.ListN.{length}
use Rattle.record_bytes.proofs.Putting.{placed-length}
use Rattle.record_listing.proofs.Lines.{whole-sized, lining-start, lining-turn, lining-there, lining-done, found-size}
use Rattle.record_listing.proofs.put_lines.Goals as goal

pub overflow_sub-end : goal.overflow_sub-end
overflow_sub-end c =
    let a = c.args in
    let k = whole-sized a.form a.bytes.now a.out.now a.n (λ i. omega (arith, c.type_inv.bytes i)) c.requires.whole in
    omega (arith, k.0, c.end.ensures)

pub loop-left-init : goal.loop-left-init
loop-left-init c =
    let a = c.args in
    let k = whole-sized a.form a.bytes.now a.out.now a.n (λ i. omega (arith, c.type_inv.bytes i)) c.requires.whole in (
      rw c.end.ensures (lining-start a.form a.bytes.now a.out.now a.n
          (λ i. omega (arith, c.type_inv.bytes i)) c.requires.in_bounds c.requires.whole),
      refl,
      omega arith,
      omega arith,
    )

pub entry_before-requires : goal.entry_before-requires
entry_before-requires c =
    let a = c.args in
    let k = whole-sized a.form a.bytes.now a.out.now a.n (λ i. omega (arith, c.type_inv.bytes i)) c.requires.whole in
    let i = c.loop-left.invariant in
    record {
      end_in_bounds = i.2;
      end_bound = omega (arith, i.2, k.1);
    }

pub unwrap-e-requires : goal.unwrap-e-requires
unwrap-e-requires c =
    let l = c.loop-left in
    let a = c.args in
    lining-there a.form a.bytes.now a.out.now a.n l.out l.end l.left l.at l.invariant.0 (omega arith) _ c.entry_before.ensures

pub put_line-at-requires : goal.put_line-at-requires
put_line-at-requires c =
    let a = c.args in
    let k = whole-sized a.form a.bytes.now a.out.now a.n (λ i. omega (arith, c.type_inv.bytes i)) c.requires.whole in
    let l = c.loop-left in
    let room = l.invariant.0.room in
    let text = l.invariant.0.text.sized in
    let v = c.unwrap-e.result in
    let size = (found-size a.form a.bytes.now a.out.now a.n l.out l.end l.left l.at l.invariant.0 v (omega arith)
    (sym c.entry_before.ensures ∙ c.unwrap-e.ensures)).0 in
    record {
      le_end = omega arith;
      end_in_bounds = omega (arith, l.invariant.1);
      place_bound = omega (arith, l.invariant.3, k.0, k.1);
      length_bound = omega arith;
    }

pub loop-left-preserved : goal.loop-left-preserved
loop-left-preserved c =
    let a = c.args in
    let l = c.loop-left in
    let v = c.unwrap-e.result in
    let p = c.put_line-at in
    let found = sym c.entry_before.ensures ∙ c.unwrap-e.ensures in
    let start = (found-size a.form a.bytes.now a.out.now a.n l.out l.end l.left l.at l.invariant.0 v (omega arith)
    found).1 in
    let t = lining-turn a.form a.bytes.now a.out.now a.n l.out l.end l.left l.at l.invariant.0 p.new.out
    p.result v (omega arith) p.ensures.placed p.ensures.end_bound found in
    let text = l.invariant.0.text.sized in
    let at_most : l.at ≤ length l.out = omega (arith, l.invariant.1) in (
      t,
      placed-length l.out p.new.out p.result l.at _ at_most p.ensures.placed ∙ l.invariant.1,
      omega (arith, l.invariant.2),
      omega (arith, l.invariant.3),
    )

pub returns : goal.returns
returns c =
    let a = c.args in
    let k = whole-sized a.form a.bytes.now a.out.now a.n (λ i. omega (arith, c.type_inv.bytes i)) c.requires.whole in
    let l = c.loop-left in
    let room = l.invariant.0.room in record {
      placed = lining-done a.form a.bytes.now a.out.now a.n l.out l.end l.left l.at (omega arith) l.invariant.0;
      lower_bound = omega arith;
      n_bound = omega (arith, k.0, k.1);
    }
