-- `frame_spectral::read_spectral` meets its contract. `found` is what the pairs are. Assumes nothing.
use mathlib.Core.Path.{refl, sym, ap, ◌∙◌}
use Prim.Native.Nat.{ℕ, ◌/◌}
use native.Mathlib.Omega.{arith}
use Rattle.std.proofs.lemmas.Result.{err_from_is_err_and}
use Rattle.frame_spectral.proofs.SpectralSteps.{roomy-zeros, pairs-at, spectral-pairs, spectral-left, spectral-value, spectral-is}
use Rattle.frame_spectral.proofs.read_spectral.Goals as goal

pub read_pairs-requires-clause-pairs_from : goal.read_pairs-requires-clause-pairs_from
read_pairs-requires-clause-pairs_from c = record {
  ready = c.requires.ready;
  mode = omega arith;
  offset = c.rate_offset.ensures.upper_bound;
  pairs = omega arith;
  side = omega arith;
}

pub read_pairs-requires-clause-working : goal.read_pairs-requires-clause-working
read_pairs-requires-clause-working c = record { lines = refl; levels = refl; room = roomy-zeros _ 400 200 }

pub returns-in_err-at-clause-residual_after : goal.returns-in_err-at-clause-residual_after
returns-in_err-at-clause-residual_after c =
    let p = err_from_is_err_and c.from_residual.result c.from_residual.ensures.1 in
    let found = pairs-at _ c.args.r c.args.h _ _ _ _ _ _ c.from-lsb.ensures c.rate_offset.ensures.value
    (ap (λ (k : ℕ). k / 2) c.from-last.ensures) c.in_err-at.ensures.levels_after in
    rw (p.1, p.2) (sym (spectral-pairs _ _ _ _ _ _ found))

pub returns-in_err-left-clause-residual_after : goal.returns-in_err-left-clause-residual_after
returns-in_err-left-clause-residual_after c =
    let p = err_from_is_err_and c.from_residual-in_err-left.result c.from_residual-in_err-left.ensures.1 in
    let found = pairs-at _ c.args.r c.args.h _ _ _ _ _ _ c.from-lsb.ensures c.rate_offset.ensures.value
    (ap (λ (k : ℕ). k / 2) c.from-last.ensures) c.in_ok-at.ensures.levels_after in
    rw (p.1, p.2) (sym (spectral-left _ _ _ _ _ _ _ _ _ found (sym c.in_err-left.ensures.p_value)))

pub returns-clause-residual_after : goal.returns-clause-residual_after
returns-clause-residual_after c =
    let found = pairs-at _ c.args.r c.args.h _ _ _ _ _ _ c.from-lsb.ensures c.rate_offset.ensures.value
    (ap (λ (k : ℕ). k / 2) c.from-last.ensures) c.in_ok-at.ensures.levels_after in
    let e = spectral-value _ _ _ _ _ _ _ _ _ found (sym c.in_ok-left.ensures.p_value) in
    let i = spectral-is _ c.args.r c.args.h _ _ _ _ _ _ _ _ _ _ c.from-lsb.ensures c.from-last.ensures c.requires.buffers.spectrum
    c.finish-count.ensures.bits_after c.finish-count.ensures.spectrum_after in
    i ∙ sym e
