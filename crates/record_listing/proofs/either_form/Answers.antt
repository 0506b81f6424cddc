-- `record_listing::either_form` meets its contract: form 2 is asked first. Assumes nothing.
use mathlib.Core.Path.{refl, sym, ap, ◌∙◌}
use Prim.Native.Nat.{ℕ}
use Rattle.record_forms.specs.declared.Form.TheVariants as form
use Rattle.record_bytes.proofs.Walking.{whole-read, none_read}
use Rattle.record_listing.specs.Listing.{known, known_in}
use Rattle.record_listing.proofs.either_form.Goals as goal

pub returns-in-Some : goal.returns-in-Some
unfolding known_in
returns-in-Some c =
    let s = c.args.bytes.now in
    let w = c.in-Some.two in
    let k = whole-read form.Two s 0 w.entries w.end (sym c.walk.ensures ∙ c.in-Some.is) in
    rw k.read (ap (λ (n : ℕ). known form.Two n) k.counted)

pub returns-in_err-one : goal.returns-in_err-one
unfolding known_in
returns-in_err-one c =
    let s = c.args.bytes.now in
    let two = none_read form.Two s 0 (sym c.walk.ensures ∙ c.in_default.is) in
    let one = none_read form.One s 0 (sym c.walk-2.ensures ∙ c.in_err-one.was) in
    c.from_residual.ensures ∙ rw (two, one) refl

pub returns : goal.returns
unfolding known_in
returns c =
    let s = c.args.bytes.now in
    let w = c.in_ok-one.one in
    let two = none_read form.Two s 0 (sym c.walk.ensures ∙ c.in_default.is) in
    let k = whole-read form.One s 0 w.entries w.end (sym c.walk-2.ensures ∙ c.in_ok-one.was) in
    rw (two, k.read) (ap (λ (n : ℕ). known form.One n) k.counted)
