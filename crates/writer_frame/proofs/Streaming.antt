-- Both streams up to the last pair: the parts that were written one after the other are the frame's. Assumes nothing.
use mathlib.Core.Path.{◌≡◌, sym, ap, ◌∙◌}
use mathlib.Core.List.{List}
use Rattle.std.specs.Prelude.{Option, Some, None}
use Prim.Native.Nat.{ℕ, ◌/◌, ◌≤◌}
use native.Mathlib.Omega.{arith}
use Rattle.coder_tables.specs.Tables.{look_table, spectrum_table, order_table, coefficient_table}
use Rattle.frame_bits.specs.Fields.{list_bits}
use Rattle.frame_coder.specs.declared.Coder.{Coder}
use Rattle.frame_settings.specs.Settings.{weighting, rate_offset}
use Rattle.frame_settings.specs.declared.Setting.{Setting}
use Rattle.frame_side.specs.Side.{side_fields}
use Rattle.writer_laws.specs.Stream.{send_start, coded_all, whole_of}
use Rattle.writer_laws.specs.SideBits.{side_values}
use Rattle.writer_laws.specs.Tns.{filter_items}
use Rattle.writer_laws.specs.Pairs.{pairs_items, pairs_bits}
use Rattle.writer_laws.specs.Writing.{Given, bits_before, stream_of, needed_bits}
use Rattle.writer_laws.proofs.Parts.{items2, behind1, stream-is, before-is}
use Rattle.writer_laws.proofs.Ends.{log2-most}
use Rattle.writer_steps.specs.Flow.{Flows, Within}
use Rattle.writer_steps.specs.Cursors.{Open, Kept, Puts}
use Rattle.writer_steps.specs.Sends.{Sends, PairsAre}
use Rattle.writer_steps.specs.Frames.{StreamsAre}
use Rattle.writer_steps.specs.declared.Cursor.{Cursor}
use Rattle.writer_steps.specs.declared.PairsSent.{PairsSent}

pub start-counts : (c : Coder) → c ≡ send_start → (c.at ≡ 3) × (c.taken ≡ 0)
start-counts c e = (ap (λ (d : Coder). d.at) e, ap (λ (d : Coder). d.taken) e)

module _ (r : Setting) (n : ℕ) (g : Given) where
  abbrev pairs : ℕ
  pairs = g.fields.side.head.last_line / 2

  -- the side information's bits
  abbrev pub field_bits : List ℕ
  field_bits = list_bits (side_fields r) (side_values g.fields.side)

  before-kept : {side side' : List ℕ} {p q : Cursor} → Kept field_bits side p → Puts (pairs_bits g.lines pairs 0) side side' p q
      → Kept (bits_before r g) side' q
  unfolding bits_before
  before-kept k puts = puts field_bits k

  -- the first filter, then the second, behind the start
  pub filtered-is : (w a b : ℕ) (c d e : Coder) → w ≡ weighting r.duration n → a ≡ g.fields.tns_order_0 → b ≡ g.fields.tns_order_1
      → c ≡ send_start → d ≡ coded_all (filter_items order_table coefficient_table w a g.first) c
      → e ≡ coded_all (filter_items order_table coefficient_table w b g.second) d
      → e ≡ behind1 r n g
  filtered-is w a b c d e iw ia ib ic id ie = rw (id, ic, iw, ia, ib) at ie

  -- both streams behind the filters have room for the pairs
  pub sends-filtered : (front side : List ℕ) (c d e : Coder) (p : Cursor) → Flows front e → Open side p → p.at ≤ 74 → c.at ≡ 3
      → c.taken ≡ 0 → Within 9 c d → Within 9 d e → Sends 39 18 74 front side e p
  sends-filtered front side c d e p flows sides at h t i j =
      let i0 = i.at in
      let i1 = i.taken in
      let j0 = j.at in
      let j1 = j.taken in
      record { flows = flows; sides = sides; at = omega arith; taken = omega arith; written = at }

  -- the pairs behind them: both streams are the frame's, or they want more than it has
  module _ (front front' side side' : List ℕ) (c : Coder) (p : Cursor) (whole : whole_of front c ≡ behind1 r n g)
      (kept : Kept field_bits side p) where
    behind : (o : Option PairsSent) → PairsAre n (items2 r n g) (pairs_bits g.lines pairs 0) front front' side side' c p o
        → StreamsAre r n g front' side' o
    unfolding needed_bits
    behind (Some s) h =
        (h.0.coder ∙ (ap (coded_all (items2 r n g)) whole ∙ sym (stream-is r n g)), before-kept kept h.0.kept, h.1, h.2)
    behind None h =
        let e : (stream_of r n g).at ≡ (coded_all (items2 r n g) (whole_of front c)).at =
        ap (λ (c : Coder). c.at) (stream-is r n g ∙ ap (coded_all (items2 r n g)) (sym whole)) in
        let m = log2-most (stream_of r n g).range 23 in
        let l = before-is r g in
        let a = kept.at in
        omega arith

    pub streams-are : (lsb offset m : ℕ) (o : Option PairsSent) → lsb ≡ g.fields.side.head.lsb_mode → offset ≡ rate_offset r.index n
        → m ≡ g.fields.side.head.last_line
        → PairsAre n (pairs_items look_table spectrum_table (record { lsb = lsb; offset = offset; half = r.lines / 2 }) g.lines (m / 2) 0 0)
        (pairs_bits g.lines (m / 2) 0) front front' side side' c p o
        → StreamsAre r n g front' side' o
    streams-are lsb offset m o ib io im h = behind o (rw (ib, io, im) at h)
