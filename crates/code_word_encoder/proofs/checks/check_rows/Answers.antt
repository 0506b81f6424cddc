-- `code_word_encoder::checks::check_rows` meets its contract: each table is computed from the field, and a mode has one. Assumes nothing.
use mathlib.Core.Path.{◌≡◌, refl, sym}
use native.Mathlib.Omega.{arith}
use Rattle.laws.specs.Tab.{tab}
use Rattle.gf16.specs.Field.{sum, expanded, lowered, reduced, product, power}
use Rattle.code_word_laws.specs.Polynomial.{scaled, added, multiplied, rooted}
use Rattle.code_word_laws.specs.Register.{gathered, row, rows_from, feedback, register}
use Rattle.code_word_laws.specs.Checks.{alone}
use Rattle.code_word_laws.proofs.Checks.{register_rows, rows-register}
use Rattle.code_word_encoder.proofs.checks.check_rows.Goals as goal

pub returns-in-2 : goal.returns-in-2
unfolding register_rows tab alone register feedback rows_from row gathered rooted multiplied scaled added product reduced lowered expanded
    power sum
returns-in-2 c = let e : c.args.mode ≡ 2 = omega arith in record {
  inside = λ _ _. rw e (sym (rows-register 2 (omega arith)));
  outside = λ n. absurd (n (omega arith) (omega arith));
}

pub returns-in-3 : goal.returns-in-3
unfolding register_rows tab alone register feedback rows_from row gathered rooted multiplied scaled added product reduced lowered expanded
    power sum
returns-in-3 c = let e : c.args.mode ≡ 3 = omega arith in record {
  inside = λ _ _. rw e (sym (rows-register 4 (omega arith)));
  outside = λ n. absurd (n (omega arith) (omega arith));
}

pub returns-in-4 : goal.returns-in-4
unfolding register_rows tab alone register feedback rows_from row gathered rooted multiplied scaled added product reduced lowered expanded
    power sum
returns-in-4 c = let e : c.args.mode ≡ 4 = omega arith in record {
  inside = λ _ _. rw e (sym (rows-register 6 (omega arith)));
  outside = λ n. absurd (n (omega arith) (omega arith));
}

pub returns-in_default : goal.returns-in_default
returns-in_default c = record {
  inside = λ l h. absurd (omega arith);
  outside = λ _. refl;
}
