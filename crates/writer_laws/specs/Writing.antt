-- A whole frame written (5.3.14) from fields, lines and residual bits that can be written, and number 8. Assumes nothing.
use Rattle.std.specs.Prelude.{cond, List, ◌++◌, ℕ, ◌-◌, ◌*◌, ◌/◌, ltb, length, take, ℤ}
use Rattle.coder_tables.specs.Tables.{look_table, spectrum_table, order_table, coefficient_table}
use Rattle.frame_bits.specs.Fields.{list_bits}
use Rattle.frame_settings.specs.Settings.{weighting}
use Rattle.frame_settings.specs.declared.Setting.{Setting}
use Rattle.frame_side.specs.Side.{side_fields}
use Rattle.frame_coder.specs.declared.Coder.{Coder}
use Rattle.frame_residual.specs.Residual.{used_bits}
use Rattle.frame_spectral.specs.Spectral.{pair_setting}
use Rattle.frame_answers.specs.declared.Fields.{Fields}
use Rattle.writer_laws.specs.Stream.{Item, send_start, coded_all}
use Rattle.writer_laws.specs.SideBits.{number_of, side_values}
use Rattle.writer_laws.specs.Tns.{filter_items}
use Rattle.writer_laws.specs.Pairs.{pairs_items, pairs_bits}
use Rattle.writer_laws.specs.Ending.{frame_number, digits}

-- what is to be written: the fields, both filters' coefficients, the lines, and one residual bit for each line that is not 0
pub record Given : Type 0 where
  pub fields : Fields
  pub first : List ℕ
  pub second : List ℕ
  pub lines : List ℤ
  pub residual : List ℕ

abbrev pub given : Fields → List ℕ → List ℕ → List ℤ → List ℕ → Given
given f first second lines residual = record { fields = f; first = first; second = second; lines = lines; residual = residual }

-- the symbols in their order: the TNS data of both filters, then the pairs below the last line; n is the frame's length
unfoldable pub items_of : Setting → ℕ → Given → List Item
items_of r n g =
    let f = g.fields in
    let w = weighting r.duration n in
    let h = f.side.head in
    filter_items order_table coefficient_table w f.tns_order_0 g.first
    ++ (filter_items order_table coefficient_table w f.tns_order_1 g.second
    ++ pairs_items look_table spectrum_table (pair_setting r n h.lsb_mode) g.lines (h.last_line / 2) 0 0)

-- the side bits before any residual bit: the side information, then the pairs' low bits and signs
unfoldable pub bits_before : Setting → Given → List ℕ
bits_before r g =
    let v = g.fields.side in list_bits (side_fields r) (side_values v) ++ pairs_bits g.lines (v.head.last_line / 2) 0

-- the arithmetic stream behind the last symbol
unfoldable pub stream_of : Setting → ℕ → Given → Coder
stream_of r n g = coded_all (items_of r n g) send_start

-- "both counted after the last pair and before any residual bit", as the reader counts for cause 7
unfoldable pub needed_bits : Setting → ℕ → Given → ℕ
needed_bits r n g = used_bits (length (bits_before r g)) (stream_of r n g)

-- the residual bits sent: "min(left, number of non-zero lines)", the first ones
unfoldable pub sent_of : Setting → ℕ → Given → ℕ
sent_of r n g =
    let left = 8 * n - needed_bits r n g in cond (ltb left g.fields.residual_bits) left g.fields.residual_bits

-- the bytes of the frame
unfoldable pub bytes_of : Setting → ℕ → Given → List ℕ
bytes_of r n g = digits n (frame_number n (stream_of r n g) (number_of (bits_before r g ++ take (sent_of r n g) g.residual)))
