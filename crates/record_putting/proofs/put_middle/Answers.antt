-- `record_putting::put_middle` meets its contract, case by case. Assumes nothing.
use mathlib.Core.Path.{◌≡◌, sym, ap, ◌∙◌}
use mathlib.Core.Bool.{Bool, cond}
use Prim.Native.Nat.{ℕ, ◌+◌, ◌-◌}
use native.Mathlib.Omega.{arith}
use lib.ListN.{take, drop}
use borrow.Author.Tests.{le-leb, lt-leb}
use Rattle.record_bytes.specs.Steps.{put}
use Rattle.record_putting.proofs.Parts.{part_length}
use Rattle.record_putting.proofs.put_middle.Goals as goal

pub put_part-requires : goal.put_part-requires
put_part-requires c = let a = c.args in
    let l = part_length (a.i + 16 - a.i) a.i 16 a.frame.now (omega arith) (omega arith) in
    record {
      bytes_len_bound = omega arith;
      bytes_in_bounds = omega (arith, c.requires.frame_in_bounds);
    }

pub returns-then-i-last : goal.returns-then-i-last
returns-then-i-last c =
    let a = c.args in
    let m : a.i + 16 - a.i ≡ 16 = omega arith in
    c.put_part.ensures ∙ ap (λ (n : ℕ). put a.out.now (a.at + a.i) (take n (drop a.i a.frame.now))) m
    ∙ sym (ap (λ (b : Bool). cond b (put a.out.now (a.at + a.i) (take 16 (drop a.i a.frame.now))) a.out.now)
    (le-leb a.i a.last c.if-i-last.true))

pub returns-else-i-last : goal.returns-else-i-last
returns-else-i-last c =
    let a = c.args in
    simp (lt-leb a.i a.last c.if-i-last.false)
