-- Both streams of a frame part by part, the bits that they need, and the residual bits sent. Assumes nothing.
use mathlib.Core.Path.{◌≡◌, refl, sym, ap, ap₂, ◌∙◌}
use mathlib.Core.Bool.{Bool, true, false, cond}
use mathlib.Core.List.{List, ◌++◌}
use Prim.Native.Nat.{ℕ, ◌+◌, ◌-◌, ◌*◌, ◌/◌, ◌≤◌}
use native.Mathlib.Nat.{zero-add}
use native.Mathlib.Omega.{arith}
use lib.Dec.{ltb}
use lib.ListN.{length, length-append}
use borrow.Author.Tests.{ltb-true, ltb-false}
use Rattle.coder_tables.specs.Tables.{look_table, spectrum_table, order_table, coefficient_table}
use Rattle.frame_bits.specs.Fields.{list_bits}
use Rattle.frame_coder.specs.declared.Coder.{Coder}
use Rattle.frame_settings.specs.Settings.{weighting}
use Rattle.frame_settings.specs.declared.Setting.{Setting}
use Rattle.frame_side.specs.Side.{side_fields}
use Rattle.frame_residual.specs.Residual.{used_bits}
use Rattle.frame_spectral.specs.Spectral.{pair_setting}
use Rattle.writer_laws.specs.Stream.{Item, send_start, coded_all}
use Rattle.writer_laws.specs.SideBits.{side_values}
use Rattle.writer_laws.specs.Tns.{filter_items}
use Rattle.writer_laws.specs.Pairs.{pairs_items, pairs_bits}
use Rattle.writer_laws.specs.Writing.{Given, items_of, bits_before, stream_of, needed_bits, sent_of}
use Rattle.writer_laws.proofs.Streams.{coded-append, taken-all}
use Rattle.writer_laws.proofs.Ends.{log2-most}

-- ---- the streams of a frame of n bytes, part by part

module _ (r : Setting) (n : ℕ) (g : Given) where
  abbrev pub items0 : List Item
  items0 = filter_items order_table coefficient_table (weighting r.duration n) g.fields.tns_order_0 g.first

  abbrev pub items1 : List Item
  items1 = filter_items order_table coefficient_table (weighting r.duration n) g.fields.tns_order_1 g.second

  abbrev pub items2 : List Item
  items2 =
      let h = g.fields.side.head in
      pairs_items look_table spectrum_table (pair_setting r n h.lsb_mode) g.lines (h.last_line / 2) 0 0

  abbrev pub behind0 : Coder
  behind0 = coded_all items0 send_start

  abbrev pub behind1 : Coder
  behind1 = coded_all items1 behind0

  abbrev pub behind2 : Coder
  behind2 = coded_all items2 behind1

  pub stream-is : stream_of r n g ≡ behind2
  unfolding stream_of items_of
  stream-is = coded-append items0 (items1 ++ items2) send_start ∙ coded-append items1 items2 behind0

  pub taken_is : behind2.taken ≡ length (items_of r n g)
  unfolding stream_of
  taken_is = ap (λ (c : Coder). c.taken) (sym stream-is) ∙ (taken-all (items_of r n g) send_start ∙ zero-add (length (items_of r n g)))

-- the side information's bits
abbrev pub side_length : Setting → Given → ℕ
side_length r g = length (list_bits (side_fields r) (side_values g.fields.side))

abbrev pub pairs_length : Given → ℕ
pairs_length g = length (pairs_bits g.lines (g.fields.side.head.last_line / 2) 0)

pub before-is : (r : Setting) (g : Given) → length (bits_before r g) ≡ side_length r g + pairs_length g
unfolding bits_before
before-is r g =
    length-append (list_bits (side_fields r) (side_values g.fields.side)) (pairs_bits g.lines (g.fields.side.head.last_line / 2) 0)

pub needed-is : (r : Setting) (n : ℕ) (g : Given) → needed_bits r n g ≡ used_bits (side_length r g + pairs_length g) (behind2 r n g)
unfolding needed_bits
needed-is r n g = ap₂ (λ (p : ℕ) (c : Coder). used_bits p c) (before-is r g) (stream-is r n g)

-- the streams behind the last pair have room, whatever is left of the range
pub room_for : (r : Setting) (n : ℕ) (g : Given) → needed_bits r n g ≤ 8 * n
    → 8 * ((stream_of r n g).at - 3) + 2 + length (bits_before r g) ≤ 8 * n
unfolding needed_bits
room_for r n g h = let m = log2-most (stream_of r n g).range 23 in omega arith

-- no more residual bits than are left, nor than there are
pub sent-most : (r : Setting) (n : ℕ) (g : Given) → (sent_of r n g ≤ 8 * n - needed_bits r n g) × (sent_of r n g ≤ g.fields.residual_bits)
unfolding sent_of
sent-most r n g =
    let left : ℕ = 8 * n - needed_bits r n g in
    let all : ℕ = g.fields.residual_bits in
    go left all (ltb left all) refl
  where
    go : (a b : ℕ) (t : Bool) → ltb a b ≡ t → (cond t a b ≤ a) × (cond t a b ≤ b)
    go a b true e = let q = ltb-true a b e in (omega arith, omega arith)
    go a b false e = let q = ltb-false a b e in (omega arith, omega arith)
