-- `record_bytes::copy_in` meets its contract. The invariant: the first i bytes are copied. Assumes nothing.
use mathlib.Core.Path.{◌≡◌, refl, ap, ◌∙◌}
use native.Mathlib.Omega.{arith}
use native.Mathlib.Numerals.{add-one}
use lib.Seq.{paste, paste-zero, paste-suc}
use lib.ListN.{length-set, length}
use Rattle.record_bytes.proofs.Putting.{put_all}
use Rattle.record_bytes.proofs.copy_in.Goals as goal

pub loop-i-init : goal.loop-i-init
loop-i-init c = (refl, paste-zero c.args.dst.now c.args.at c.args.src.now)

pub loop-i-preserved : goal.loop-i-preserved
loop-i-preserved c =
    let a = c.args in
    let l = c.loop-i in (
      simp length-set l.invariant.0,
      rw (l.invariant.1, add-one)
          (paste-suc a.dst.now a.at a.src.now l.i 0 (omega arith) (omega arith)),
    )

pub returns : goal.returns
returns c =
    let a = c.args in
    let l = c.loop-i in
    let e : l.i ≡ length a.src.now = omega arith in
    l.invariant.1 ∙ ap (paste a.dst.now a.at a.src.now) e ∙ put_all a.dst.now a.at a.src.now
