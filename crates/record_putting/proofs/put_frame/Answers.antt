-- `record_putting::put_frame` meets its contract. The invariant: the first i bytes are put. Assumes nothing.
use mathlib.Core.Path.{◌≡◌, refl, ap, ◌∙◌}
use Prim.Native.Nat.{◌+◌, ◌-◌}
use native.Mathlib.Omega.{arith}
use lib.ListN.{length, take}
use lib.Seq.{length-take-le}
use Rattle.record_bytes.specs.Steps.{put}
use Rattle.record_bytes.proofs.Putting.{length-put, put-none}
use Rattle.record_putting.proofs.Parts.{part_length, put_next, middle-length, put_ended}
use Rattle.record_putting.proofs.put_frame.Goals as goal

pub loop-i-init : goal.loop-i-init
loop-i-init c =
    let a = c.args in
    (omega arith, refl, put-none a.out.now a.at, omega arith)

pub put_part-requires : goal.put_part-requires
put_part-requires c = let l = c.loop-i in
    let i = l.invariant in
    let n = part_length (l.i + 32 - l.i) l.i 32 c.args.frame.now (omega arith) (omega arith) in
    record {
      bytes_len_bound = omega arith;
      bytes_in_bounds = omega (arith, c.requires.frame_in_bounds);
    }

pub loop-i-preserved : goal.loop-i-preserved
loop-i-preserved c =
    let more : let l = c.loop-i in
    let a = c.args in
    c.put_part.new.out ≡ put a.out.now a.at (take (l.i + 32) a.frame.now) =
    let l = c.loop-i in
    let a = c.args in
    let i = l.invariant in
    c.put_part.ensures
    ∙ put_next a.out.now a.at a.frame.now c.requires.frame_in_bounds l.out l.i 32 (omega arith) i.2 in
    let l = c.loop-i in
    let a = c.args in
    let i = l.invariant in
    let t = length-take-le (l.i + 32) a.frame.now (omega arith) in (
      omega arith,
      ap length (more) ∙ length-put a.out.now a.at (take (l.i + 32) a.frame.now) (omega (arith, c.requires.frame_in_bounds)),
      more,
      i.3,
    )

pub put_part-requires-2 : goal.put_part-requires-2
put_part-requires-2 c = let l = c.loop-i in
    let a = c.args in
    let i = l.invariant in
    let n = length a.frame.now in
    let t = part_length (n - (n - 16)) (n - 16) 16 a.frame.now (omega arith) (omega arith) in
    let k = middle-length a.out.now a.at a.frame.now c.requires.frame_in_bounds l.out c.put_middle.new.out l.i _ i.3 i.2
    c.put_middle.ensures in
    record {
      bytes_len_bound = omega arith;
      bytes_in_bounds = omega (arith, c.requires.frame_in_bounds);
    }

pub returns : goal.returns
returns c =
    let all : let a = c.args in
    c.put_part-2.new.out ≡ put a.out.now a.at a.frame.now =
    let l = c.loop-i in
    let a = c.args in
    let i = l.invariant in
    c.put_part-2.ensures
    ∙ put_ended a.out.now a.at a.frame.now c.requires.frame_in_bounds l.out c.put_middle.new.out l.i _ i.3 (omega arith)
    i.0 i.2 c.put_middle.ensures in
    all
