-- `writer::write_sized` meets its contract. Assumes nothing.
use mathlib.Core.Path.{◌≡◌, sym, ap, ◌∙◌}
use mathlib.Core.Bool.{true}
use mathlib.Core.List.{List}
use Prim.Native.Nat.{ℕ, ◌<◌}
use native.Mathlib.Omega.{arith}
use lib.ListN.{length}
use Rattle.std.specs.Prelude.{Err}
use Rattle.std.proofs.lemmas.Result.{err_from_is_err_and}
use Rattle.frame_settings.specs.Settings.{Known}
use Rattle.frame_settings.specs.declared.Setting.{Setting}
use Rattle.refusals.specs.declared.Refusal.TheVariants as refusal
use Rattle.writer_laws.specs.Fits.{lines_fit}
use Rattle.writer_laws.specs.Writing.{Given, given, sent_of}
use Rattle.writer_laws.proofs.Given.{lines-given, nonzero-most}
use Rattle.writer_laws.proofs.Parts.{sent-most}
use Rattle.writer.specs.Writer.{Outcome, telling, told_of, frame_after}
use Rattle.writer.proofs.Outcomes.{fields-unfit, short-lines, short-residual, lines-reached, lines-unfit, whole-small, whole-room}
use Rattle.writer.proofs.write_sized.Goals as goal

-- the answer and the frame of an outcome
by-outcome : {o p : Outcome} (frame : List ℕ) → o ≡ p → (told_of p ≡ told_of o) × (frame_after p frame ≡ frame_after o frame)
by-outcome frame e = (ap told_of (sym e), ap (λ (x : Outcome). frame_after x frame) (sym e))

-- so many residual bits were sent as the definition says, which are not more than there are lines
few : (r : Setting) (n k : ℕ) (g : Given) → Known r → lines_fit g.fields g.lines g.residual ≡ true → length g.lines ≡ r.lines
    → k ≡ sent_of r n g → k < 65536
few r n k g known fits lines e =
    let a = (sent-most r n g).1 in
    let b = (lines-given g.fields g.lines g.residual fits).count in
    let c = nonzero-most g.lines (length g.lines) 0 in
    let f = known.lines in
    omega arith

pub returns-then-not-fields_fit : goal.returns-then-not-fields_fit
returns-then-not-fields_fit c =
    let a = c.args in
    let g : Given = given a.f a.first.now a.second.now a.spectrum.now a.residual.now in
    let o = by-outcome a.frame.now (fields-unfit a.r _ g (sym c.fields_fit.ensures ∙ c.if-not-fields_fit.true)) in
    record { result_value = o.0; frame_after = o.1 }

pub returns-then-spectrum-lines : goal.returns-then-spectrum-lines
returns-then-spectrum-lines c =
    let a = c.args in
    let g : Given = given a.f a.first.now a.second.now a.spectrum.now a.residual.now in
    let fit = sym c.fields_fit.ensures ∙ c.if-not-fields_fit.false in
    let o = by-outcome a.frame.now (short-lines a.r _ g fit c.if-spectrum-lines.true) in
    record { result_value = o.0; frame_after = o.1 }

pub returns-then-residual-lines : goal.returns-then-residual-lines
returns-then-residual-lines c =
    let a = c.args in
    let g : Given = given a.f a.first.now a.second.now a.spectrum.now a.residual.now in
    let fit = sym c.fields_fit.ensures ∙ c.if-not-fields_fit.false in
    let o = by-outcome a.frame.now (short-residual a.r _ g fit c.if-spectrum-lines.false c.if-residual-lines.true) in
    record { result_value = o.0; frame_after = o.1 }

pub returns-then-not-lines_fit : goal.returns-then-not-lines_fit
returns-then-not-lines_fit c =
    let a = c.args in
    let g : Given = given a.f a.first.now a.second.now a.spectrum.now a.residual.now in
    let fit = sym c.fields_fit.ensures ∙ c.if-not-fields_fit.false in
    let unfit = sym c.lines_fit.ensures ∙ c.if-not-lines_fit.true in
    let reached = lines-reached a.r _ g fit c.if-spectrum-lines.false c.if-residual-lines.false in
    let o = by-outcome a.frame.now (reached ∙ lines-unfit a.r _ g unfit) in
    record { result_value = o.0; frame_after = o.1 }

pub write_fitting-written-requires : goal.write_fitting-written-requires
write_fitting-written-requires c = record {
  known = c.requires.known;
  least = c.requires.in_bounds;
  most = c.requires.frame_len_bound;
  fields = sym c.fields_fit.ensures ∙ c.if-not-fields_fit.false;
  lines = sym c.lines_fit.ensures ∙ c.if-not-lines_fit.false;
  spectrum = c.if-spectrum-lines.false;
  residual = c.if-residual-lines.false;
  first = c.requires.first_len;
  second = c.requires.second_len;
}

pub returns-in_err-sent : goal.returns-in_err-sent
returns-in_err-sent c =
    let a = c.args in
    let g : Given = given a.f a.first.now a.second.now a.spectrum.now a.residual.now in
    let fit = sym c.fields_fit.ensures ∙ c.if-not-fields_fit.false in
    let fits = sym c.lines_fit.ensures ∙ c.if-not-lines_fit.false in
    let none = c.in_err-sent.ensures.ok_part in
    let h = rw none at c.write_fitting-written.ensures in
    let why = rw none at c.in_err-sent.ensures.value in
    let p = err_from_is_err_and c.from_residual.result c.from_residual.ensures.1 in
    let small : c.from_residual.result ≡ Err refusal.TooSmall = rw (p.1, p.2) why in
    let o =
    by-outcome a.frame.now
    (whole-small a.r _ g fit c.if-spectrum-lines.false c.if-residual-lines.false fits h.0) in
    record { result_value = rw small o.0; frame_after = h.1 ∙ o.1 }

pub overflow_cast-result : goal.overflow_cast-result
overflow_cast-result c =
    let a = c.args in
    let g : Given = given a.f a.first.now a.second.now a.spectrum.now a.residual.now in
    let fits = sym c.lines_fit.ensures ∙ c.if-not-lines_fit.false in
    let h = rw c.in_ok-sent.ensures.ok_part at c.write_fitting-written.ensures in
    record { fits = few a.r _ _ g c.requires.known fits c.if-spectrum-lines.false h.1 }

pub returns : goal.returns
returns c =
    let a = c.args in
    let g : Given = given a.f a.first.now a.second.now a.spectrum.now a.residual.now in
    let fit = sym c.fields_fit.ensures ∙ c.if-not-fields_fit.false in
    let fits = sym c.lines_fit.ensures ∙ c.if-not-lines_fit.false in
    let h = rw c.in_ok-sent.ensures.ok_part at c.write_fitting-written.ensures in
    let o =
    by-outcome a.frame.now
    (whole-room a.r _ g fit c.if-spectrum-lines.false c.if-residual-lines.false fits h.0) in
    record { result_value = ap (λ (k : ℕ). telling 0 k) h.1 ∙ o.0; frame_after = h.2 ∙ o.1 }
