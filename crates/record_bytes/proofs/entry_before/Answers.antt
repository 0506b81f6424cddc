-- `record_bytes::entry_before` meets its contract: each way out is a law of one step. Assumes nothing.
use mathlib.Core.Path.{◌≡◌, refl, sym, ◌∙◌}
use Prim.Native.Nat.{ℕ, ◌+◌, ◌-◌}
use native.Mathlib.Omega.{arith}
use Rattle.record_forms.specs.Forms.{trailer_size}
use Rattle.record_forms.specs.Ranges.{in_range}
use Rattle.record_bytes.proofs.Walking.{step-short, step-far, step-out, step-entry}
use Rattle.record_bytes.proofs.entry_before.Goals as goal

pub returns-then-end-size : goal.returns-then-end-size
returns-then-end-size c =
    let a = c.args in
    sym (step-short a.form a.bytes.now a.end (omega (arith, c.trailer-size.ensures)))

pub returns-then-at-length : goal.returns-then-at-length
returns-then-at-length c =
    let a = c.args in
    let at : a.end - c.trailer-size.result + trailer_size a.form ≡ a.end = omega (arith, c.trailer-size.ensures) in
    sym (step-far a.form a.bytes.now a.end _ c.number2-length.result at c.number2-length.ensures.value c.if-at-length.true)

fields : {q q' c c' b b' : ℕ} → q ≡ q' → c ≡ c' → b ≡ b' → (n : ℕ) → in_range q' c' b' n ≡ in_range q c b n
fields x y z n = rw (x, y, z) refl

pub returns-then-not-in_range : goal.returns-then-not-in_range
returns-then-not-in_range c =
    let a = c.args in
    let at : a.end - c.trailer-size.result + trailer_size a.form ≡ a.end = omega (arith, c.trailer-size.ensures) in
    sym (step-out a.form a.bytes.now a.end _ c.number2-length.result at c.number2-length.ensures.value
    (fields c.from.ensures c.from-2.ensures c.bits_at-bits.ensures.value _ ∙ sym c.in_range.ensures ∙ c.if-not-in_range.true))

pub returns : goal.returns
returns c =
    let a = c.args in
    let at : a.end - c.trailer-size.result + trailer_size a.form ≡ a.end = omega (arith, c.trailer-size.ensures) in
    let ranged = fields c.from.ensures c.from-2.ensures c.bits_at-bits.ensures.value c.number2-length.result
    ∙ sym c.in_range.ensures ∙ c.if-not-in_range.false in
    rw c.bits_at-bits.ensures.value
    (sym (step-entry a.form a.bytes.now a.end _ c.number2-length.result at c.number2-length.ensures.value
    (omega arith) c.if-at-length.false ranged))
