-- What the tests of writing tell of a frame, as the steps ask it. Assumes nothing.
use mathlib.Core.Path.{◌≡◌}
use mathlib.Core.Bool.{true}
use Prim.Native.Nat.{ℕ, ◌*◌, ◌/◌, ◌≤◌}
use native.Mathlib.Omega.{arith}
use lib.ListN.{length}
use Rattle.laws.specs.Tab.{Below}
use Rattle.frame_bits.specs.Fields.{list_fits}
use Rattle.frame_settings.specs.declared.Setting.{Setting}
use Rattle.frame_side.specs.Side.{side_fields}
use Rattle.frame_pairs.specs.Sound.{Small}
use Rattle.writer_laws.specs.SideBits.{side_values}
use Rattle.writer_laws.specs.Writing.{Given, bits_before}
use Rattle.writer_laws.proofs.Given.{both_hold, order-most, last_fits, side-long, fields-given, lines-given, nonzero-most}
use Rattle.writer_laws.proofs.Parts.{before-is}
use Rattle.writer_steps.specs.Flow.{Sendable}
use Rattle.writer_steps.specs.Frames.{Writable}

pub record Asked (r : Setting) (g : Given) : Type 0 where
  pub side : list_fits (side_fields r) (side_values g.fields.side) ≡ true
  pub order0 : g.fields.tns_order_0 ≤ 8
  pub order1 : g.fields.tns_order_1 ≤ 8
  pub first : Sendable g.fields.tns_order_0 g.first
  pub second : Sendable g.fields.tns_order_1 g.second
  pub small : Small g.lines
  pub some : 1 ≤ g.fields.side.head.last_line / 2
  pub most : g.fields.side.head.last_line / 2 ≤ 200
  pub inside : 2 * (g.fields.side.head.last_line / 2) ≤ length g.lines
  pub binary : Below 2 g.residual
  pub count : g.fields.residual_bits ≤ length g.residual
  pub long : 22 ≤ length (bits_before r g)

pub asked : {r : Setting} {n : ℕ} {g : Given} → Writable r n g → Asked r g
asked {r} {n} {g} w =
    let v = g.fields.side in
    let f = fields-given r g.fields g.first g.second w.fields w.first w.second in
    let l = lines-given g.fields g.lines g.residual w.lines in
    let e = last_fits r v f.side in
    let even = e.even in
    let below = e.most in
    let k = w.known.lines in
    let long = (side-long r v w.known f.side).0 in
    let more = before-is r g in
    let o = order-most r.duration in
    let o0 = f.filter0.most in
    let o1 = f.filter1.most in
    let c = l.count in
    let z = nonzero-most g.lines (length g.lines) 0 in
    let s = w.spectrum in
    let t = w.residual in
    record {
      side = (both_hold (list_fits (side_fields r) (side_values v)) _ f.side).0;
      order0 = omega arith;
      order1 = omega arith;
      first = f.filter0.entries;
      second = f.filter1.entries;
      small = l.small;
      some = omega arith;
      most = omega arith;
      inside = omega arith;
      binary = l.binary;
      count = omega arith;
      long = omega arith;
    }
