-- The side information's test part by part (request 02 §5), and a pitch flag that fits its bit. Assumes nothing.
use mathlib.Core.Path.{◌≡◌}
use mathlib.Core.Bool.{true, ◌&&◌}
use Prim.Native.Nat.{ℕ, ◌+◌, ◌*◌, ◌^◌, ◌<◌}
use lib.Dec.{eqb, ltb}
use borrow.Author.Tests.{ltb-true}
use Rattle.frame_bits.specs.Fields.{list_fits}
use Rattle.frame_settings.specs.Settings.{filters_of}
use Rattle.frame_settings.specs.declared.Setting.{Setting}
use Rattle.frame_shape.specs.Shape.{shape_fields}
use Rattle.frame_side.specs.Side.{last_pair, head_fields, flags_fields, tail_fields, second_flag}
use Rattle.frame_side.specs.declared.Flags.{Flags}
use Rattle.frame_side.specs.declared.Side.{Side}
use Rattle.writer_laws.specs.SideBits.{head_values, flags_values, shape_values, tail_values}
use Rattle.writer_laws.specs.Fits.{side_fits}
use Rattle.writer_laws.proofs.Given.{both_hold}
use Rattle.writer_laws.proofs.SideParts.{side-parts}

pub parts_fit : (r : Setting) (v : Side)
    → side_fits r v
    ≡ list_fits (head_fields r) (head_values v.head)
    && (list_fits (flags_fields (filters_of r.duration) v.head.bandwidth) (flags_values v.flags)
    && (list_fits shape_fields (shape_values v.shape) && list_fits (tail_fields v.flags.pitch_present) (tail_values v.tail)))
    && (eqb v.head.last_line (2 * (last_pair v.head.last_line + 1)) && eqb v.head.lsb_mode 0)
parts_fit r v = rw (side-parts r v)

pub pitch_below : (n b : ℕ) (f : Flags) → list_fits (flags_fields n b) (flags_values f) ≡ true → f.pitch_present < 2
unfolding list_fits
pitch_below n b f h =
    let a = both_hold (ltb f.tns_0 (2 ^ 1)) _ h in
    let d = both_hold (ltb f.tns_1 (2 ^ second_flag n b)) _ a.1 in
    ltb-true f.pitch_present 2 (both_hold (ltb f.pitch_present (2 ^ 1)) _ d.1).0
