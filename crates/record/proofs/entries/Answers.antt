-- `record::entries` meets its contract, form by form. Assumes nothing.
use mathlib.Core.Path.{sym, ap, ◌∙◌}
use native.Mathlib.Omega.{arith}
use Rattle.std.specs.Prelude.{Ok}
use Rattle.std.proofs.lemmas.Result.{err_from_is_err_and}
use Rattle.record_forms.specs.declared.Form.TheVariants as form
use Rattle.record.proofs.Theorems.{count-means, no-form-means}
use Rattle.record.proofs.Answered.{entries-in, entries-no}
use Rattle.record.proofs.entries.Goals as goal

pub returns-in_err-f : goal.returns-in_err-f
returns-in_err-f c =
    let p = err_from_is_err_and c.from_residual.result c.from_residual.ensures.1 in
    let no = sym c.try_from.ensures ∙ c.in_err-f.was in
    rw (p.1, p.2) record {
      result_value = entries-no c.args.form c.in_err-f.field-0.0 no c.args.bytes.now;
      count_means = no-form-means c.args.form c.in_err-f.field-0.0 no c.args.bytes.now;
    }

pub returns-in-One : goal.returns-in-One
returns-in-One c =
    let a = c.args in
    let n = sym c.try_from.ensures ∙ c.in_ok-f.was ∙ ap Ok c.in-One.is in
    let e = c.entries_in.ensures in record {
      result_value = e ∙ entries-in a.form form.One n a.bytes.now;
      count_means = count-means form.One a.form n a.bytes.now (λ i. omega (arith, c.type_inv.bytes i)) _ e;
    }

pub returns-in-Two : goal.returns-in-Two
returns-in-Two c =
    let a = c.args in
    let n = sym c.try_from.ensures ∙ c.in_ok-f.was ∙ ap Ok c.in-Two.is in
    let e = c.entries_in-in-Two.ensures in record {
      result_value = e ∙ entries-in a.form form.Two n a.bytes.now;
      count_means = count-means form.Two a.form n a.bytes.now (λ i. omega (arith, c.type_inv.bytes i)) _ e;
    }
