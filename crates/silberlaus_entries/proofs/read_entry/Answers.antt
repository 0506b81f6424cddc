-- `silberlaus_entries::read_entry` meets its contract, test by test in the order of the refusals. Assumes nothing.
use mathlib.Core.Path.{sym, ◌∙◌}
use native.Mathlib.Omega.{arith}
use lib.ListN.{length}
use Rattle.silberlaus_frames.proofs.Returns.{refusal, reading}
use Rattle.silberlaus_entries.proofs.Entry.{no-form, no-setting, other-spectrum, other-residual, no-frame, part-read}
use Rattle.silberlaus_entries.proofs.read_entry.Goals as goal

pub returns-in_default : goal.returns-in_default
returns-in_default c =
    let a = c.args in
    let u = refusal _ _ 1 c.unread.result _ _
    (no-form a.form a.khz a.duration a.bytes.now a.place (length a.spectrum.now) (length a.residual.now)
    c.in_default.field-0 (sym c.try_from.ensures ∙ c.in_default.is))
    (omega arith) (λ z. omega arith) c.unread.ensures in
    record { answers = u.0; bounded = u.1 }

pub returns-then-lines-eq0 : goal.returns-then-lines-eq0
returns-then-lines-eq0 c =
    let a = c.args in
    let l = c.line_count-lines.ensures in
    let u = refusal _ _ 1 c.unread-then-lines-eq0.result _ _
    (no-setting a.form c.in-Ok.field-0 (sym c.try_from.ensures ∙ c.in-Ok.is) a.khz a.duration a.bytes.now a.place
    (length a.spectrum.now) (length a.residual.now)
    (omega (arith, l, c.if-lines-eq0.true)))
    (omega arith) (λ z. omega arith) c.unread-then-lines-eq0.ensures in
    record { answers = u.0; bounded = u.1 }

pub returns-then-spectrum-lines : goal.returns-then-spectrum-lines
returns-then-spectrum-lines c =
    let a = c.args in
    let l = c.line_count-lines.ensures in
    let u = refusal _ _ 2 c.unread-then-spectrum-lines.result _ _
    (other-spectrum a.form c.in-Ok.field-0 (sym c.try_from.ensures ∙ c.in-Ok.is) a.khz a.duration a.bytes.now a.place
    (length a.spectrum.now) (length a.residual.now)
    (λ z. omega (arith, l, z, c.if-lines-eq0.false)) (λ z. omega (arith, l, z, c.if-spectrum-lines.true)))
    (omega arith) (λ z. omega arith) c.unread-then-spectrum-lines.ensures in
    record { answers = u.0; bounded = u.1 }

pub returns-then-residual-lines : goal.returns-then-residual-lines
returns-then-residual-lines c =
    let a = c.args in
    let l = c.line_count-lines.ensures in
    let u = refusal _ _ 2 c.unread-then-residual-lines.result _ _
    (other-residual a.form c.in-Ok.field-0 (sym c.try_from.ensures ∙ c.in-Ok.is) a.khz a.duration a.bytes.now a.place
    (length a.spectrum.now) (length a.residual.now)
    (λ z. omega (arith, l, z, c.if-lines-eq0.false)) (λ z. omega (arith, l, z, c.if-residual-lines.true)))
    (omega arith) (λ z. omega arith) c.unread-then-residual-lines.ensures in
    record { answers = u.0; bounded = u.1 }

pub returns-then-part-eq0 : goal.returns-then-part-eq0
returns-then-part-eq0 c =
    let a = c.args in
    let l = c.line_count-lines.ensures in
    let n = no-frame a.form c.in-Ok.field-0 (sym c.try_from.ensures ∙ c.in-Ok.is) a.khz a.duration a.bytes.now a.place
    (length a.spectrum.now) (length a.residual.now) (λ i. omega (arith, c.type_inv.bytes i))
    (λ z. omega (arith, l, z, c.if-lines-eq0.false)) (omega (arith, l, c.if-spectrum-lines.false))
    (omega (arith, l, c.if-residual-lines.false))
    c.frame-part.result.now c.frame-part.ensures (omega (arith, c.if-part-eq0.true)) in
    let u = refusal _ _ _ c.unread-then-part-eq0.result _ _ n.0 n.1 n.2
    (rw c.why_missing.ensures at c.unread-then-part-eq0.ensures) in
    record { answers = u.0; bounded = u.1 }

pub returns : goal.returns
returns c =
    let a = c.args in
    let l = c.line_count-lines.ensures in
    let r = c.read in
    let p = part-read a.form c.in-Ok.field-0 (sym c.try_from.ensures ∙ c.in-Ok.is) a.khz a.duration a.bytes.now a.place
    (length a.spectrum.now) (length a.residual.now) (λ i. omega (arith, c.type_inv.bytes i))
    (λ z. omega (arith, l, z, c.if-lines-eq0.false)) (omega (arith, l, c.if-spectrum-lines.false))
    (omega (arith, l, c.if-residual-lines.false))
    c.frame-part.result.now c.frame-part.ensures (λ z. omega (arith, z, c.if-part-eq0.false)) in
    let u = reading _ _ _ r.result c.numbered.result _ _ _ _ p c.numbered.ensures r.ensures.answers r.ensures.bounded in
    record { answers = u.0; bounded = u.1 }
