-- `record_listing::put_digits` meets its contract. The invariant is `Spelling`: the digits of what is left go in front. Assumes nothing.
use mathlib.Core.Path.{refl}
use Prim.Native.Nat.{◌+◌, ◌-◌}
use native.Mathlib.Omega.{arith}
use lib.ListN.{length-set}
use Rattle.record_listing.proofs.Spelling.{shorter, spelling-start, spelling-turn, spelling-done}
use Rattle.record_listing.proofs.put_digits.Goals as goal

pub loop-rest-init : goal.loop-rest-init
loop-rest-init c = (spelling-start c.args.out.now c.args.end c.args.n (omega arith) (omega arith), refl)

pub overflow_sub-at : goal.overflow_sub-at
overflow_sub-at c =
    let l = c.loop-rest in
    let s = l.invariant.0 in
    let a = c.args in
    let m = (shorter l.rest (l.at + 3 - a.end) (omega arith) s.room).0 in
    omega arith

pub loop-rest-preserved : goal.loop-rest-preserved
loop-rest-preserved c =
    let l = c.loop-rest in
    let a = c.args in (
      spelling-turn a.out.now l.out a.end l.at l.rest a.n c.digit.result (omega arith) (omega arith) (omega arith)
          c.digit.ensures l.invariant.0,
      simp length-set l.invariant.1,
    )

pub returns : goal.returns
returns c =
    let l = c.loop-rest in
    let a = c.args in
    let s = l.invariant.0 in
    record {
      placed = spelling-done a.out.now l.out a.end l.at l.rest a.n (omega arith) s;
      end_bound = s.low;
    }
