-- `code_word_encoder::rows` meets its contract: each table is computed from the field. Assumes nothing.
use mathlib.Core.Path.{◌≡◌, refl}
use native.Mathlib.Omega.{arith}
use Rattle.gf16.specs.Field.{sum, expanded, lowered, reduced, product, power}
use Rattle.code_word_laws.specs.Polynomial.{scaled, added, multiplied, rooted}
use Rattle.code_word_laws.specs.Register.{gathered, row, rows_from, feedback}
use Rattle.code_word_encoder.proofs.rows.Goals as goal

pub returns-in-2 : goal.returns-in-2
unfolding feedback rows_from row gathered rooted multiplied scaled added product reduced lowered expanded power sum
returns-in-2 c = let e : c.args.mode ≡ 2 = omega arith in rw e refl

pub returns-in-3 : goal.returns-in-3
unfolding feedback rows_from row gathered rooted multiplied scaled added product reduced lowered expanded power sum
returns-in-3 c = let e : c.args.mode ≡ 3 = omega arith in rw e refl

pub returns-in_default : goal.returns-in_default
unfolding feedback rows_from row gathered rooted multiplied scaled added product reduced lowered expanded power sum
returns-in_default c = let e : c.args.mode ≡ 4 = omega arith in rw e refl
