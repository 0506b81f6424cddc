-- Each way to the outcome, and that a frame which was written reads back. Assumes nothing.
use mathlib.Core.Path.{◌≡◌, refl, sym, ap, ap₂, subst, ◌∙◌}
use mathlib.Core.Bool.{Bool, true, false, cond, ◌&&◌}
use mathlib.Core.List.{List}
use mathlib.Core.Logic.{◌⊎◌, inl, inr}
use Rattle.std.specs.Prelude.{Some, None}
use Prim.Native.Nat.{ℕ, ◌*◌, ◌≤◌, ◌<◌}
use lib.Dec.{ltb, leb, eqb}
use lib.ListN.{length}
use lib.IntN.{ℤ}
use borrow.Author.Tests.{lt-ltb, le-ltb, ltb-false, le-leb, lt-leb, leb-true, eqb-true, eq-eqb, ne_eqb}
use Rattle.frame_settings.specs.Settings.{setting_of, Known}
use Rattle.frame_settings.specs.declared.Setting.{Setting}
use Rattle.frame_answers.specs.Answers as reading
use Rattle.frame_arithmetic.specs.Answers.{Judged, Answers}
use Rattle.frame.specs.Frame.{judged_of}
use Rattle.writer_laws.specs.Fits.{fields_fit, lines_fit}
use Rattle.writer_laws.specs.Writing.{Given, needed_bits, sent_of, bytes_of}
use Rattle.writer_laws.proofs.Digits.{length_digits}
use Rattle.writer_steps.specs.Frames.{Writable}
use Rattle.writer_back.proofs.Trip.{trip}
use Rattle.writer.specs.Writer.{Outcome, wrote, refuses, written_fit, written_lines, written_sized, written_fields, written_of}
use Rattle.writer.specs.Writer.{Told, telling, told_of, frame_after}
use Rattle.writer.specs.Trip.{back_of, BackFrom, Writes, Returned}

-- ---- each way

pub fields-unfit : (r : Setting) (n : ℕ) (g : Given) → fields_fit r g.fields g.first g.second ≡ false
    → written_fields r n g ≡ refuses 1
fields-unfit r n g e = rw e

module _ (r : Setting) (n : ℕ) (g : Given) (fit : fields_fit r g.fields g.first g.second ≡ true) where
  pub short-lines : (length g.lines ≡ r.lines → ⊥) → written_fields r n g ≡ refuses 2
  short-lines h = rw (fit, ne_eqb (length g.lines) r.lines h)

  module _ (lines : length g.lines ≡ r.lines) where
    pub short-residual : (length g.residual ≡ r.lines → ⊥) → written_fields r n g ≡ refuses 2
    short-residual h = rw (fit, eq-eqb (length g.lines) r.lines lines, ne_eqb (length g.residual) r.lines h)

    module _ (residual : length g.residual ≡ r.lines) where
      pub lines-reached : written_fields r n g ≡ written_lines r n g
      lines-reached =
          rw (fit, eq-eqb (length g.lines) r.lines lines, eq-eqb (length g.residual) r.lines residual)

pub lines-unfit : (r : Setting) (n : ℕ) (g : Given) → lines_fit g.fields g.lines g.residual ≡ false → written_lines r n g ≡ refuses 1
lines-unfit r n g e = rw e

too_small : (r : Setting) (n : ℕ) (g : Given) → lines_fit g.fields g.lines g.residual ≡ true → 8 * n < needed_bits r n g
    → written_lines r n g ≡ refuses 8
too_small r n g e h = rw (e, lt-ltb (8 * n) (needed_bits r n g) h)

room_for : (r : Setting) (n : ℕ) (g : Given) → lines_fit g.fields g.lines g.residual ≡ true → needed_bits r n g ≤ 8 * n
    → written_lines r n g ≡ wrote (sent_of r n g) (bytes_of r n g)
room_for r n g e h = rw (e, le-ltb (8 * n) (needed_bits r n g) h)

-- by each test in turn up to the room
module _ (r : Setting) (n : ℕ) (g : Given) (fit : fields_fit r g.fields g.first g.second ≡ true) (lines : length g.lines ≡ r.lines)
    (residual : length g.residual ≡ r.lines) (fits : lines_fit g.fields g.lines g.residual ≡ true) where
  pub whole-small : 8 * n < needed_bits r n g → written_fields r n g ≡ refuses 8
  whole-small h = lines-reached r n g fit lines residual ∙ too_small r n g fits h

  pub whole-room : needed_bits r n g ≤ 8 * n → written_fields r n g ≡ wrote (sent_of r n g) (bytes_of r n g)
  whole-room h = lines-reached r n g fit lines residual ∙ room_for r n g fits h

-- ---- of a rate and a duration

module _ (khz q n : ℕ) (g : Given) where
  pub written-unknown : setting_of khz q ≡ None → written_of khz q n g ≡ refuses 1
  unfolding written_of
  written-unknown e = rw e

module _ (khz q n : ℕ) (g : Given) (r : Setting) (known : setting_of khz q ≡ Some r) where
  pub written-unsized : (n < 20) ⊎ ((20 ≤ n) × (401 ≤ n)) → written_of khz q n g ≡ refuses 1
  unfolding written_of
  written-unsized (inl h) = rw (known, lt-leb 20 n h)
  written-unsized (inr h) = rw (known, le-leb 20 n h.0, lt-leb n 400 h.1)

  pub written_known : 20 ≤ n → n ≤ 400 → written_of khz q n g ≡ written_fields r n g
  unfolding written_of
  written_known h k = rw (known, le-leb 20 n h, le-leb n 400 k)

-- ---- what was written reads back

length-bytes : (r : Setting) (n : ℕ) (g : Given) → length (bytes_of r n g) ≡ n
unfolding bytes_of
length-bytes r n g = length_digits _ _

-- of a known setting, by each test in turn
module _ (khz q : ℕ) (r : Setting) (known : setting_of khz q ≡ Some r) (n : ℕ) (g : Given) where
  back-written : Writable r n g → needed_bits r n g ≤ 8 * n
      → judged_of khz q (bytes_of r n g) (length g.lines) (length g.residual) ≡ back_of khz q n g (sent_of r n g)
  unfolding judged_of back_of
  back-written w h =
      rw (
        known,
        trip r n g w h,
        length-bytes r n g,
        le-leb 20 n w.least,
        le-leb n 400 w.most,
        eq-eqb (length g.lines) r.lines w.spectrum,
        eq-eqb (length g.residual) r.lines w.residual,
      )

  back-fit : Writable r n g → (t : Bool) → ltb (8 * n) (needed_bits r n g) ≡ t
      → BackFrom khz q n g (cond t (refuses 8) (wrote (sent_of r n g) (bytes_of r n g)))
  back-fit w true e = tt
  back-fit w false e = back-written w (ltb-false (8 * n) (needed_bits r n g) e)

  back-lines : (lines_fit g.fields g.lines g.residual ≡ true → Writable r n g) → (t : Bool)
      → lines_fit g.fields g.lines g.residual ≡ t → BackFrom khz q n g (cond t (written_fit r n g) (refuses 1))
  back-lines w true e = back-fit (w e) (ltb (8 * n) (needed_bits r n g)) refl
  back-lines w false e = tt

  back-sized : (length g.lines ≡ r.lines → length g.residual ≡ r.lines → lines_fit g.fields g.lines g.residual ≡ true
      → Writable r n g) → (t u : Bool) → eqb (length g.lines) r.lines ≡ t → eqb (length g.residual) r.lines ≡ u
      → BackFrom khz q n g (cond (t && u) (written_lines r n g) (refuses 2))
  back-sized w true true e f =
      back-lines (w (eqb-true _ _ e) (eqb-true _ _ f)) (lines_fit g.fields g.lines g.residual) refl
  back-sized w true false e f = tt
  back-sized w false u e f = tt

  back_fields : (fields_fit r g.fields g.first g.second ≡ true → length g.lines ≡ r.lines → length g.residual ≡ r.lines
      → lines_fit g.fields g.lines g.residual ≡ true → Writable r n g) → (t : Bool)
      → fields_fit r g.fields g.first g.second ≡ t → BackFrom khz q n g (cond t (written_sized r n g) (refuses 1))
  back_fields w true e = back-sized (w e) (eqb (length g.lines) r.lines) (eqb (length g.residual) r.lines) refl refl
  back_fields w false e = tt

  back-known : Known r → length g.first ≡ 8 → length g.second ≡ 8 → (t u : Bool) → leb 20 n ≡ t → leb n 400 ≡ u
      → BackFrom khz q n g (cond (t && u) (written_fields r n g) (refuses 1))
  back-known k a b true true e f =
      back_fields (λ w x y z. record {
        known = k;
        least = leb-true 20 n e;
        most = leb-true n 400 f;
        fields = w;
        lines = z;
        spectrum = x;
        residual = y;
        first = a;
        second = b;
      }) (fields_fit r g.fields g.first g.second) refl
  back-known k a b true false e f = tt
  back-known k a b false u e f = tt

-- whatever is written reads back
back_from : (khz q n : ℕ) (g : Given) (r : Setting) → setting_of khz q ≡ Some r → Known r → length g.first ≡ 8 → length g.second ≡ 8
    → BackFrom khz q n g (written_of khz q n g)
unfolding written_of
back_from khz q n g r e k a b = rw e (back-known khz q r e n g k a b (leb 20 n) (leb n 400) refl refl)

-- and where it was written, that is what reading answers
pub returned : (khz q n : ℕ) (g : Given) (frame : List ℕ) (o : Outcome) (a : reading.Given) (lines lines' : List ℤ) (bits bits' : List ℕ)
    → n ≡ length frame → BackFrom khz q n g o
    → Answers a (judged_of khz q (frame_after o frame) (length lines) (length bits)) lines lines' bits bits'
    → Returned khz q g frame a lines lines' bits bits' o
returned khz q n g frame (wrote k s) a lines lines' bits bits' e b h =
    λ x y. subst (λ (j : Judged). Answers a j lines lines' bits bits')
    (ap₂ (λ (i m : ℕ). judged_of khz q s i m) x y ∙ (b ∙ ap (λ (m : ℕ). back_of khz q m g k) e)) h
returned khz q n g frame (refuses number) a lines lines' bits bits' e b h = tt

-- ---- what the writer has to answer

-- a refusal, which leaves the frame as lent
pub writes-refused : (khz q number : ℕ) (g : Given) (frame : List ℕ) → written_of khz q (length frame) g ≡ refuses number
    → Writes khz q g frame frame (telling number 0)
writes-refused khz q number g frame e = record {
  told = ap told_of (sym e);
  bytes = ap (λ (o : Outcome). frame_after o frame) (sym e);
  back = subst (BackFrom khz q (length frame) g) (sym e) tt;
}

-- an outcome, with the answer and the frame that it has
pub writes_as : (khz q : ℕ) (g : Given) (frame frame' : List ℕ) (t : Told) (o : Outcome) (r : Setting) → setting_of khz q ≡ Some r
    → Known r → length g.first ≡ 8 → length g.second ≡ 8 → written_of khz q (length frame) g ≡ o → t ≡ told_of o
    → frame' ≡ frame_after o frame → Writes khz q g frame frame' t
writes_as khz q g frame frame' t o r s m a b e h k = record {
  told = h ∙ ap told_of (sym e);
  bytes = k ∙ ap (λ (p : Outcome). frame_after p frame) (sym e);
  back = back_from khz q (length frame) g r s m a b;
}
