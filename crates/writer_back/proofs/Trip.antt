-- Whatever is written reads back: any bytes that hold both streams read as what was given, and the frame that is written holds them.
-- Assumes nothing.
use mathlib.Core.Path.{◌≡◌, sym, ap, ap₂, subst, ◌∙◌}
use mathlib.Core.List.{List}
use Prim.Native.Nat.{ℕ, ◌+◌, ◌-◌, ◌*◌, ◌/◌, ◌≤◌, ◌<◌}
use native.Mathlib.Nat.{le_trans, zero-add}
use native.Mathlib.Omega.{arith}
use lib.ListN.{length, get_or}
use Rattle.coder_tables.specs.Tables.{order_table, coefficient_table}
use Rattle.frame_bits.specs.Read.{Read, value, and_then}
use Rattle.frame_bits.specs.Bits.{bit_of}
use Rattle.frame_bits.specs.Fields.{list_bits}
use Rattle.frame_coder.specs.Symbol.{start_of}
use Rattle.frame_coder.specs.declared.Coder.{Coder}
use Rattle.frame_settings.specs.declared.Setting.{Setting}
use Rattle.frame_side.specs.Side.{side_fields, side_of}
use Rattle.frame_side.specs.declared.Side.{Side}
use Rattle.frame_residual.specs.Residual.{used_bits}
use Rattle.frame_tns.specs.Tns.{filter_of}
use Rattle.frame_spectral.specs.Spectral.{Spectral, spectral_from}
use Rattle.frame_arithmetic.specs.Answers.{Whole, arithmetic_from}
use Rattle.frame.specs.Frame.{frame_of}
use Rattle.writer_laws.specs.Stream.{send_start}
use Rattle.writer_laws.specs.SideBits.{side_values}
use Rattle.writer_laws.specs.Pairs.{pairs_bits}
use Rattle.writer_laws.specs.Fits.{non_zero_from}
use Rattle.writer_laws.specs.Writing.{Given, items_of, bits_before, stream_of, needed_bits, sent_of, bytes_of}
use Rattle.writer_laws.proofs.Streams.{at_all}
use Rattle.writer_laws.proofs.Parts.{items1, items2, behind0, behind1, behind2, stream-is, taken_is}
use Rattle.writer_laws.proofs.Parts.{side_length, pairs_length, before-is, needed-is, room_for}
use Rattle.writer_laws.proofs.Given.{LastFits, last_fits, side-long, FieldsGiven, fields-given, LinesGiven, lines-given, nonzero-most}
use Rattle.writer_steps.specs.Frames.{Writable}
use Rattle.writer_back.specs.Back.{whole_back, ReadsBack}
use Rattle.writer_back.proofs.Inside.{Inside, seen, seen_start, back-all}
use Rattle.writer_back.proofs.PairsBack.{Carries, carries-append}
use Rattle.writer_back.proofs.TnsBack.{filter-back}
use Rattle.writer_back.proofs.FieldsBack.{side-back}
use Rattle.writer_back.proofs.LinesBack.{least}
use Rattle.writer_back.proofs.SpectralBack.{spectral-back}
use Rattle.writer_back.proofs.Held.{Held, held}
use Rattle.writer_back.proofs.ItemsFit.{tns-tables, filter-items-fit, pairs-items-fit, items-fit}

-- the reader's number of residual bits is the sender's
pub sent_is :
    (r : Setting) (n : ℕ) (g : Given) → g.fields.residual_bits ≡ non_zero_from g.lines r.lines 0
    → sent_of r n g ≡ least (8 * n - used_bits (side_length r g + pairs_length g) (behind2 r n g)) (non_zero_from g.lines r.lines 0)
unfolding sent_of
sent_is r n g e = ap₂ (λ (a b : ℕ). least a b) (ap (λ (k : ℕ). 8 * n - k) (needed-is r n g)) e

-- ---- reading

module _ (s : List ℕ) (r : Setting) (g : Given) (w : Writable r (length s) g) (room : needed_bits r (length s) g ≤ 8 * length s)
    (o : Held s r (length s) g) where
  fields : FieldsGiven r g.fields g.first g.second
  fields = fields-given r g.fields g.first g.second w.fields w.first w.second

  lines : LinesGiven g.fields g.lines g.residual
  lines = lines-given g.fields g.lines g.residual w.lines

  last : LastFits r g.fields.side
  last = last_fits r g.fields.side fields.side

  count : g.fields.residual_bits ≡ non_zero_from g.lines r.lines 0
  count = lines.count ∙ ap (λ (k : ℕ). non_zero_from g.lines k 0) w.spectrum

  -- inside, and in the frame, at every place
  inside2 : Inside s (behind2 r (length s) g)
  inside2 = subst (λ (c : Coder). Inside s c) (stream-is r (length s) g) o.inside

  inside1 : Inside s (behind1 r (length s) g)
  inside1 =
      let h = g.fields.side.head in
      back-all s (items2 r (length s) g) (behind1 r (length s) g) o.bytes
      (pairs-items-fit r (length s) h.lsb_mode g.lines (h.last_line / 2) lines.small) inside2

  inside0 : Inside s (behind0 r (length s) g)
  inside0 =
      back-all s (items1 r (length s) g) (behind0 r (length s) g) o.bytes
      (filter-items-fit r.duration (length s) g.fields.side.flags.tns_1 g.fields.tns_order_1 g.second fields.filter1)
      inside1

  used2 : used_bits (side_length r g + pairs_length g) (behind2 r (length s) g) ≤ 8 * length s
  used2 = rw (needed-is r (length s) g) at room

  at2 : (behind2 r (length s) g).at ≤ length s
  at2 =
      let a = room_for r (length s) g room in
      let b = before-is r g in
      let c : (stream_of r (length s) g).at ≡ (behind2 r (length s) g).at = ap (λ (c : Coder). c.at) (stream-is r (length s) g) in
      let d = (side-long r g.fields.side w.known fields.side).0 in
      let e = w.least in
      omega arith

  at1 : (behind1 r (length s) g).at ≤ length s
  at1 = le_trans (at_all (items2 r (length s) g) (behind1 r (length s) g)) at2

  at0 : (behind0 r (length s) g).at ≤ length s
  at0 = le_trans (at_all (items1 r (length s) g) (behind0 r (length s) g)) at1

  -- the side stream's two parts
  parts : Carries s 0 (list_bits (side_fields r) (side_values g.fields.side))
      × Carries s (0 + side_length r g) (pairs_bits g.lines (g.fields.side.head.last_line / 2) 0)
  unfolding bits_before
  parts =
      carries-append s 0 (list_bits (side_fields r) (side_values g.fields.side))
      (pairs_bits g.lines (g.fields.side.head.last_line / 2) 0) o.before

  pairs-carried : Carries s (side_length r g) (pairs_bits g.lines (g.fields.side.head.last_line / 2) 0)
  pairs-carried =
      subst (λ (p : ℕ). Carries s p (pairs_bits g.lines (g.fields.side.head.last_line / 2) 0)) (zero-add (side_length r g))
      parts.1

  side-read : side_of s r ≡ value g.fields.side (side_length r g)
  side-read =
      let a = room_for r (length s) g room in
      let b = before-is r g in
      side-back s r g.fields.side fields.side parts.0 (omega arith)

  -- the bits that the reader takes for residual bits
  sent : ℕ
  sent = least (8 * length s - used_bits (side_length r g + pairs_length g) (behind2 r (length s) g)) (non_zero_from g.lines r.lines 0)

  residual-carried : (i : ℕ) → i < sent → bit_of s (side_length r g + pairs_length g + i) ≡ get_or g.residual i 0
  unfolding sent
  residual-carried i h =
      ap (λ (k : ℕ). bit_of s (k + i)) (sym (before-is r g))
      ∙ o.residual i (rw (sent_is r (length s) g count) h)

  spectral : Spectral
  spectral = (whole_back g sent (behind2 r (length s) g).taken).spectral

  spectral-read : spectral_from s r g.fields.side.head (seen s (behind1 r (length s) g)) (side_length r g)
      ≡ value spectral (side_length r g + pairs_length g)
  unfolding spectral sent
  spectral-read =
      let h = g.fields.side.head in
      let e = last.even in
      let n = nonzero-most g.lines r.lines 0 in
      let l = w.residual in
      spectral-back s r h g.lines g.residual (behind1 r (length s) g) (side_length r g) w.known last.lsb (omega arith)
      w.spectrum w.residual lines.none (omega arith) residual-carried o.bytes lines.small pairs-carried inside2 at2 used2

  first_read : filter_of s order_table coefficient_table r.duration g.fields.side.flags.tns_0 (start_of s)
      ≡ value (record { order = g.fields.tns_order_0; coefficients = g.first }) (seen s (behind0 r (length s) g))
  first_read =
      ap (λ (c : Coder). filter_of s order_table coefficient_table r.duration g.fields.side.flags.tns_0 c) (sym (seen_start s))
      ∙ filter-back order_table coefficient_table tns-tables s g.first r.duration g.fields.side.flags.tns_0
      g.fields.tns_order_0 send_start o.bytes fields.filter0 inside0 at0

  second-read : filter_of s order_table coefficient_table r.duration g.fields.side.flags.tns_1 (seen s (behind0 r (length s) g))
      ≡ value (record { order = g.fields.tns_order_1; coefficients = g.second }) (seen s (behind1 r (length s) g))
  second-read =
      filter-back order_table coefficient_table tns-tables s g.second r.duration g.fields.side.flags.tns_1
      g.fields.tns_order_1 (behind0 r (length s) g) o.bytes fields.filter1 inside1 at1

  -- the arithmetic stream
  arithmetic-back : arithmetic_from s r g.fields.side (side_length r g)
      ≡ value (whole_back g sent (behind2 r (length s) g).taken) (side_length r g + pairs_length g)
  unfolding arithmetic_from spectral
  arithmetic-back = rw (first_read, second-read, spectral-read)

  -- bytes that hold both streams read as what was given
  pub reads : frame_of s r ≡ value (whole_back g (sent_of r (length s) g) (length (items_of r (length s) g))) (length (bits_before r g))
  unfolding frame_of sent
  reads =
      let e = sent_is r (length s) g count in
      let t = taken_is r (length s) g in
      let f : Side → ℕ → Read ℕ Whole = λ v p. arithmetic_from s r v p in
      ap (λ (x : Read ℕ Side). and_then x f) side-read
      ∙ (arithmetic-back
      ∙ (ap₂ (λ (k y : ℕ). value (whole_back g k y) (side_length r g + pairs_length g)) (sym e) t
      ∙ ap (λ (p : ℕ). value (whole_back g (sent_of r (length s) g) (length (items_of r (length s) g))) p) (sym (before-is r g))))

-- ---- the round trip

-- whatever can be written and has room reads back
pub trip : (r : Setting) (n : ℕ) (g : Given) → Writable r n g → needed_bits r n g ≤ 8 * n → ReadsBack r n g
trip r n g w h =
    let s : List ℕ = bytes_of r n g in
    let f = fields-given r g.fields g.first g.second w.fields w.first w.second in
    let l = lines-given g.fields g.lines g.residual w.lines in
    let b = before-is r g in
    let k = (side-long r g.fields.side w.known f.side).0 in
    let c = l.count in
    let m = nonzero-most g.lines (length g.lines) 0 in
    let x = w.spectrum in
    let y = w.residual in
    let o : Held s r n g = held r n g h (items-fit r n g f l.small) (omega arith) l.binary (omega arith) in
    let e : n ≡ length s = sym o.long in
    subst (λ (m : ℕ). frame_of s r ≡ value (whole_back g (sent_of r m g) (length (items_of r m g))) (length (bits_before r g))) o.long
    (reads s r g (subst (λ (m : ℕ). Writable r m g) e w) (subst (λ (m : ℕ). needed_bits r m g ≤ 8 * m) e h)
    (subst (λ (m : ℕ). Held s r m g) e o))
