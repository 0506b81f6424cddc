-- `record_putting::put_entry` meets its contract: frame and trailer are one. Assumes nothing.
use mathlib.Core.Path.{ap, ◌∙◌}
use mathlib.Core.List.{List}
use Prim.Native.Nat.{ℕ, ◌+◌}
use native.Mathlib.Omega.{arith}
use lib.ListN.{length}
use Rattle.record_bytes.specs.Steps.{put}
use Rattle.record_bytes.specs.Layout.{trailer_bytes}
use Rattle.record_bytes.proofs.Putting.{put-put}
use Rattle.record_putting.proofs.put_entry.Goals as goal

pub returns : goal.returns
returns c =
    let a = c.args in
    let behind = trailer_bytes a.form a.request a.count a.bits (length a.frame.now) in
    c.put_trailer.ensures ∙ ap (λ (x : List ℕ). put x (a.at + length a.frame.now) behind) c.put_frame.ensures
    ∙ put-put a.out.now a.at a.frame.now behind (omega (arith, c.requires.form_in_bounds))
