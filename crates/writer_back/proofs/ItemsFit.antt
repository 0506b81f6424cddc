-- Every symbol that is written is one of its row. Assumes nothing.
use mathlib.Core.List.{List, ◌++◌}
use Prim.Native.Nat.{ℕ, ◌/◌}
use native.Mathlib.Omega.{arith}
use lib.IntN.{ℤ}
use Rattle.coder_tables.specs.Tables.{look_table, spectrum_table, order_table, coefficient_table}
use Rattle.coder_tables.proofs.Rules.{spectrum-tables, order_row, coefficient-row}
use Rattle.frame_settings.specs.Settings.{weighting}
use Rattle.frame_settings.specs.declared.Setting.{Setting}
use Rattle.frame_pairs.specs.Sound.{Small}
use Rattle.frame_tns.specs.Sound.{TnsTables}
use Rattle.frame_spectral.specs.Spectral.{pair_setting}
use Rattle.writer_laws.specs.Stream.{Item}
use Rattle.writer_laws.specs.Tns.{filter_items}
use Rattle.writer_laws.specs.Pairs.{pairs_items}
use Rattle.writer_laws.specs.Writing.{Given, items_of}
use Rattle.writer_laws.proofs.Streams.{Fit, fit_append}
use Rattle.writer_laws.proofs.Given.{FilterGiven, order-most, FieldsGiven}
use Rattle.writer_back.proofs.PairsBack.{pairs-fit}
use Rattle.writer_back.proofs.TnsBack.{weighting-below, filter-fit}
use Rattle.writer_back.proofs.SpectralBack.{offset-most}

pub tns-tables : TnsTables order_table coefficient_table
tns-tables = record { order = order_row; coefficient = coefficient-row }

pub filter-items-fit :
    (q n flag order : ℕ) (l : List ℕ) → FilterGiven q flag order l
    → Fit (filter_items order_table coefficient_table (weighting q n) order l)
filter-items-fit q n flag order l h =
    let m = h.most in
    let k = order-most q in
    filter-fit order_table coefficient_table tns-tables (weighting q n) order l (weighting-below q n) (omega arith) h.entries

pub pairs-items-fit :
    (r : Setting) (n lsb : ℕ) (xs : List ℤ) (m : ℕ) → Small xs → Fit (pairs_items look_table spectrum_table (pair_setting r n lsb) xs m 0 0)
pairs-items-fit r n lsb xs m small =
    pairs-fit look_table spectrum_table spectrum-tables (pair_setting r n lsb) (offset-most r.index n) xs small m 0 0 (omega arith)

-- every symbol is one of its row
pub items-fit :
    (r : Setting) (n : ℕ) (g : Given) → FieldsGiven r g.fields g.first g.second → Small g.lines → Fit (items_of r n g)
unfolding items_of
items-fit r n g f small =
    let d = g.fields in
    let h = d.side.head in
    let l0 : List Item = filter_items order_table coefficient_table (weighting r.duration n) d.tns_order_0 g.first in
    let l1 : List Item = filter_items order_table coefficient_table (weighting r.duration n) d.tns_order_1 g.second in
    let l2 : List Item = pairs_items look_table spectrum_table (pair_setting r n h.lsb_mode) g.lines (h.last_line / 2) 0 0 in
    let f0 : Fit l0 = filter-items-fit r.duration n d.side.flags.tns_0 d.tns_order_0 g.first f.filter0 in
    let f1 : Fit l1 = filter-items-fit r.duration n d.side.flags.tns_1 d.tns_order_1 g.second f.filter1 in
    let f2 : Fit l2 = pairs-items-fit r n h.lsb_mode g.lines (h.last_line / 2) small in
    fit_append l0 (l1 ++ l2) f0 (fit_append l1 l2 f1 f2)
