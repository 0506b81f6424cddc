-- `writer_bits::put` meets its contract: what is held and the value are one number, whose bytes are written. Assumes nothing.
use mathlib.Core.Path.{◌≡◌, sym, ap, ◌∙◌}
use mathlib.Core.List.{List}
use Prim.Native.Nat.{ℕ, ◌+◌, ◌-◌, ◌*◌, ◌/◌, ◌%◌, ◌^◌, ◌≤◌}
use native.Mathlib.Omega.{arith}
use native.Mathlib.Nat.{div-one}
use lib.ListN.{length, take, drop}
use lib.Seq.{get_or-set_same, get_or-set_other}
use borrow.Author.Count.{below_more}
use Rattle.std.proofs.lemmas.List.{length-drop, length-take-le}
use Rattle.writer_bits.proofs.Numbers.{shifted-exact, joined-below, byte-off}
use Rattle.writer_bits.proofs.Putting.{filled-mid, held_next, put-done}
use Rattle.writer_bits.proofs.put.Goals as goal

pub loop-b-init : goal.loop-b-init
loop-b-init c =
    let a = c.args in
    let s : a.c.at + a.w - 8 * (a.c.at / 8 + 0) ≡ a.c.at % 8 + a.w = omega arith in
    let e = shifted-exact a.v (a.c.at % 8) a.w c.requires.v_bound (omega arith) c.requires.w_bound in
    let b = joined-below a.c.held a.v (a.c.at % 8) a.w c.requires.fact.held c.requires.v_bound in
    record {
      held = rw (s, e) b;
      rest = sym (div-one (a.c.held + a.v * 2 ^ (a.c.at % 8) % 2 ^ 64));
      full = λ i k. absurd (omega arith);
    }

-- the bytes that are full now
bytes : (s : List ℕ) (at w : ℕ) → length s ≡ 512 → at ≤ 4000 → w ≤ 25
    → length (take (at / 8 + (at % 8 + w) / 8 - at / 8) (drop (at / 8) s)) ≡ at / 8 + (at % 8 + w) / 8 - at / 8
bytes s at w r h k =
    let d = length-drop (at / 8) s in length-take-le (at / 8 + (at % 8 + w) / 8 - at / 8) (drop (at / 8) s) (omega arith)

pub loop-b-preserved : goal.loop-b-preserved
loop-b-preserved c =
    let a = c.args in
    let l = c.loop-b in
    let i = l.invariant in
    let t = bytes a.side.now a.c.at a.w c.requires.fact.room c.requires.at_bound c.requires.w_bound in
    let h : ℕ = a.c.held + a.v * 2 ^ (a.c.at % 8) % 2 ^ 64 in
    let n : ℕ = a.c.at + a.w - 8 * (a.c.at / 8 + l.b-index) in
    let s : a.c.at + a.w - 8 * (a.c.at / 8 + (l.b-index + 1)) ≡ n - 8 = omega arith in
    record {
      held = rw s (byte-off l.held n i.held (omega arith));
      rest = held_next h l.b-index l.held i.rest;
      full = below_more _ _ (λ k q. get_or-set_other l.b-items l.b-index k (l.held % 256) 0 (omega arith) ∙ i.full k q)
          (get_or-set_same l.b-items l.b-index (l.held % 256) 0 (omega arith) ∙ ap (λ (x : ℕ). x % 256) i.rest);
    }

pub returns-clause-puts : goal.returns-clause-puts
returns-clause-puts c =
    let a = c.args in
    let l = c.loop-b in
    let i = l.invariant in
    let r = c.requires.fact.room in
    let b : ℕ = a.c.at / 8 in
    let k : ℕ = b + (a.c.at % 8 + a.w) / 8 - b in
    let t = bytes a.side.now a.c.at a.w r c.requires.at_bound c.requires.w_bound in
    let d : l.b-index ≡ k = omega arith in
    let z : l.b-index ≡ b + k - b = omega arith in
    let h : ℕ = a.c.held + a.v * 2 ^ (a.c.at % 8) % 2 ^ 64 in
    let e = shifted-exact a.v (a.c.at % 8) a.w c.requires.v_bound (omega arith) c.requires.w_bound in
    let g : h ≡ a.c.held + a.v * 2 ^ (a.c.at % 8) = ap (λ (x : ℕ). a.c.held + x) e in
    let x : l.held ≡ h / 2 ^ (8 * (b + k - b)) = i.rest ∙ ap (λ (y : ℕ). h / 2 ^ (8 * y)) z in
    let f = filled-mid a.side.now l.b-items b k h (omega arith) (l.auto.b-items ∙ t) (λ j q. i.full j (omega arith)) in
    put-done a.v a.w a.side.now _ a.c h (b + k) (a.c.at + a.w - 8 * (b + k)) l.held c.requires.v_bound g f (omega arith) (omega arith)
    (omega arith) x
