-- `record_putting::put_trailer` meets its contract: its parts are one. Assumes nothing.
use mathlib.Core.Path.{◌≡◌, refl, ap, ◌∙◌}
use Prim.Native.Nat.{◌+◌}
use native.Mathlib.Omega.{arith}
use lib.ListN.{length, length-set}
use Rattle.record_forms.specs.Forms.{bits_size}
use Rattle.record_bytes.specs.Layout.{big, trailer_bytes}
use Rattle.record_bytes.specs.Steps.{put}
use Rattle.record_bytes.proofs.Numbers.{length-big}
use Rattle.record_bytes.proofs.Putting.{length-put}
use Rattle.record_putting.proofs.Parts.{two_bytes, trailer-put}
use Rattle.record_putting.proofs.put_trailer.Goals as goal

pub bounds-out-at-2 : goal.bounds-out-at-2
bounds-out-at-2 c = simp length-set (omega (arith, c.requires))

pub put_bits-requires : goal.put_bits-requires
put_bits-requires c = simp length-set (omega (arith, c.requires))

pub copy_in-requires : goal.copy_in-requires
copy_in-requires c =
    let a = c.args in
    let h = c.requires in
    let l = ap length (c.to_be_bytes.ensures ∙ two_bytes a.size) ∙ length-big 2 a.size in
    let n = length-big (bits_size a.form) a.bits in
    let p : length c.put_bits.new.out ≡ length a.out.now = ap length c.put_bits.ensures
    ∙ length-put _ (a.at + 2) (big (bits_size a.form) a.bits) (simp length-set (omega arith)) ∙ simp length-set refl in
    omega (arith, c.trailer.ensures)

pub returns : goal.returns
returns c =
    let all : let a = c.args in
    c.copy_in.new.dst ≡ put a.out.now a.at (trailer_bytes a.form a.request a.count a.bits a.size) =
    let a = c.args in
    trailer-put a.form a.out.now c.put_bits.new.out c.copy_in.new.dst a.at a.request a.count a.bits a.size
    c.trailer.result c.trailer.ensures c.requires c.put_bits.ensures
    (c.copy_in.ensures ∙ ap (put c.put_bits.new.out _) (c.to_be_bytes.ensures ∙ two_bytes a.size)) in
    all
