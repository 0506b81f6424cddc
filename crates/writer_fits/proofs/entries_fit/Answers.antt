-- `writer_fits::entries_fit` meets its contract. The invariant: what `fit` says of the entries before k. Assumes nothing.
use Rattle.std.proofs.Common.{arith, ◌≡◌, ◌∙◌, refl, ap, cond, ℕ, ltb, length, get_or}
use Rattle.writer_laws.specs.Fits.{fits_from}
use Rattle.writer_fits.proofs.EntriesFit.{each-more, fits-is, limit_low, limit_high}
use Rattle.writer_fits.proofs.entries_fit.Goals as goal
use Rattle.writer_fits.proofs.entries_fit.Goals.{then-k-n, else-k-n}

pub loop-k-preserved : goal.loop-k-preserved
loop-k-preserved c =
    let a = c.args in
    let l = c.loop-k in
    let d : c.if-k-n.limit ≡ cond (ltb l.k a.n) a.most 0 =
    elim c.if-k-n.branch [
      | then-k-n w ↦ limit_low a.most l.k a.n w.if-k-n.true w.limit-is
      | else-k-n w ↦ limit_high a.most l.k a.n w.if-k-n.false w.limit-is
    ] in
    each-more a.most a.n (λ (i : ℕ). get_or a.l.now i 0) l.k l.fit l.invariant refl d

pub returns : goal.returns
returns c =
    let a = c.args in
    let l = c.loop-k in
    let e : l.k ≡ length a.l.now = omega arith in
    fits-is a.most a.n (λ (i : ℕ). get_or a.l.now i 0) l.fit l.k l.invariant
    ∙ ap (λ (m : ℕ). fits_from a.most a.n (λ (i : ℕ). get_or a.l.now i 0) m 0) e
