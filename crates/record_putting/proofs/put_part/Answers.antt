-- `record_putting::put_part` meets its contract: what is taken from the array is what was put there. Assumes nothing.
use mathlib.Core.Path.{◌≡◌, refl, sym, ap, ◌∙◌}
use native.Mathlib.Omega.{arith}
use lib.ListN.{length, take}
use Rattle.record_bytes.specs.Steps.{put}
use Rattle.record_putting.proofs.Parts.{put-taken}
use Rattle.record_putting.proofs.put_part.Goals as goal

pub slice_bounds-copy_in-end-2 : goal.slice_bounds-copy_in-end-2
slice_bounds-copy_in-end-2 c =
    let taken : let b = c.args.bytes.now in take (length b) c.copy_in.new.dst ≡ b =
    let b = c.args.bytes.now in
    ap (take (length b)) c.copy_in.ensures ∙ put-taken _ b (length b) refl in
    sym (ap length (taken))

pub copy_in-requires-2 : goal.copy_in-requires-2
copy_in-requires-2 c =
    let taken : let b = c.args.bytes.now in take (length b) c.copy_in.new.dst ≡ b =
    let b = c.args.bytes.now in
    ap (take (length b)) c.copy_in.ensures ∙ put-taken _ b (length b) refl in
    let l = ap length (taken) in
    omega (arith, c.requires.bytes_in_bounds)

pub returns : goal.returns
returns c =
    let taken : let b = c.args.bytes.now in take (length b) c.copy_in.new.dst ≡ b =
    let b = c.args.bytes.now in
    ap (take (length b)) c.copy_in.ensures ∙ put-taken _ b (length b) refl in
    let a = c.args in
    c.copy_in-2.ensures ∙ ap (put a.out.now a.at) (taken)
