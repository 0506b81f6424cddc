-- `code_word::make` meets its contract. Assumes nothing.
use Prim.Native.Nat.{◌-◌}
use native.Mathlib.Omega.{arith}
use Rattle.code_word_laws.proofs.Encoding as encoding
use Rattle.code_word.proofs.make.Goals as goal

pub returns : goal.returns
returns c =
    let fit = c.fits.ensures.holds c.if-not-fits.false in
    let n = c.distance-n in
    encoding.made c.args.mode (n.result - 1) c.divide-r.result c.rows-rows.result.now c.args.word.now c.put_checks.new.word
    fit.mode_from fit.mode_to (omega (arith, n.ensures.is)) (omega (arith, n.ensures.is, fit.checks)) fit.most c.rows-rows.ensures
    (c.semi_octets.ensures.holds c.if-not-semi_octets.false) c.divide-r.ensures c.put_checks.ensures
