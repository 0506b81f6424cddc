-- `writer::write` meets its contract. Assumes nothing.
use mathlib.Core.Path.{◌≡◌, sym, ◌∙◌}
use lib.ListN.{length}
use borrow.Author.Rules.{rules}
use Rattle.std.proofs.lemmas.Result.{err_from_is_err_and}
use Rattle.refusals.specs.declared.Refusal.{Refusal}
use Rattle.refusals.specs.declared.Refusal.TheVariants as refusal
use Rattle.writer.proofs.Outcomes.{written-unknown, written-unsized, written_known, writes-refused, writes_as}
use Rattle.writer.proofs.write.Goals as goal

pub returns-in_err-r : goal.returns-in_err-r
returns-in_err-r c =
    let a = c.args in
    let none = c.in_err-r.ensures.ok_part in
    let why = rw none at c.in_err-r.ensures.value in
    let setting : ◌≡◌ {A = Refusal} c.in_err-r.field-0.0 refusal.Setting = cc in
    let p = err_from_is_err_and c.from_residual.result c.from_residual.ensures.1 in
    rw (p.1, p.2, setting)
    (writes-refused a.khz a.duration _ _ _ (written-unknown a.khz a.duration _ _ (sym c.setting_of.ensures.value ∙ none)))

pub returns-then-n-lt20 : goal.returns-then-n-lt20
returns-then-n-lt20 c =
    let a = c.args in
    let e = sym c.setting_of.ensures.value ∙ c.in_ok-r.ensures.ok_part in
    writes-refused a.khz a.duration _ _ _ (written-unsized a.khz a.duration _ _ _ e c.then-n-lt20.either)

pub write_sized-requires : goal.write_sized-requires
write_sized-requires c = record {
  known = rw c.in_ok-r.ensures.ok_part at c.setting_of.ensures.known_setting;
  in_bounds = c.if-n-lt20.false;
  frame_len_bound = c.if-n-gt400.false;
  first_len = search rules;
  second_len = search rules;
}

pub returns : goal.returns
returns c =
    let a = c.args in
    let e = sym c.setting_of.ensures.value ∙ c.in_ok-r.ensures.ok_part in
    -- both arrays have eight entries
    let g : length a.tns_coefficients_0 ≡ 8 = search rules in
    let h : length a.tns_coefficients_1 ≡ 8 = search rules in
    let known = rw c.in_ok-r.ensures.ok_part at c.setting_of.ensures.known_setting in
    writes_as a.khz a.duration _ _ _ _ _ _ e known g h
    (written_known a.khz a.duration _ _ _ e c.if-n-lt20.false c.if-n-gt400.false) c.write_sized.ensures.result_value
    c.write_sized.ensures.frame_after
