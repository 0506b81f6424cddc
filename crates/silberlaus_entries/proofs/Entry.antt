-- What reading an entry of a record answers, case by case. Assumes nothing.
use mathlib.Core.Path.{◌≡◌, refl, sym, ap, ◌∙◌}
use mathlib.Core.Bool.{Bool, true, false, cond, and-false}
use mathlib.Core.Option.{Option, none, some}
use mathlib.Core.List.{List}
use Prim.Native.Nat.{ℕ, ◌≤◌}
use native.Mathlib.Omega.{arith}
use lib.Dec.{ltb}
use lib.ListN.{length}
use borrow.Author.Tests.{le-leb, ltb-true, ltb-false, eq-eqb, ne_eqb}
use Rattle.frame_settings.specs.Settings.{setting_of, lines_at, line_count}
use Rattle.frame_settings.proofs.Settings.{setting-unknown}
use Rattle.frame_arithmetic.specs.Answers.{refused, judged_read}
use Rattle.frame.specs.Frame.{judged_at, judged_of, frame_of}
use Rattle.frame_settings.specs.declared.Setting.{Setting}
use Rattle.std.specs.Prelude.{Some, None, Result, Ok, Err}
use Rattle.std.specs.Prelude as std
use Rattle.refusals.specs.declared.Refusal.{Refusal}
use Rattle.refusals.specs.Numbers.{number_of}
use Rattle.record_bytes.specs.declared.Located.{Located}
use Rattle.record_forms.specs.declared.Form.{Form}
use Rattle.record_forms.specs.Forms.{which_form}
use Rattle.record_bytes.specs.Layout.{RecordEntry}
use Rattle.record_bytes.specs.Reading.{read_record}
use Rattle.record_bytes.specs.Answers.{EntryAnswer, found_answer}
use Rattle.record.specs.Answers.{frame_at, frame_in, frame_part, entry_of, entry_in}
use Rattle.record.specs.Answers as part
use Rattle.record_bytes.proofs.Numbers.{Bytes}
use Rattle.record.proofs.Answered.{frame-in, entry_in-is, frame-sized, frame_past, frame-missing}
use Rattle.silberlaus_entries.specs.Entries.{judged_place, judged_in, judged_entry, missing}

-- an entry's number
pub numbered : (r : Result Located Refusal) → number_of r ≡ (found_answer r).number
numbered (Ok e) = refl
numbered (Err why) = refl

-- a number that names no form is refused before all else
pub no-form : (form khz q : ℕ) (s : List ℕ) (place x b : ℕ) (why : Refusal) → which_form form ≡ Err why
    → judged_entry form khz q s place x b ≡ refused 1 0
unfolding judged_entry
no-form form khz q s place x b why e = rw e refl

module _ (f : Form) where
  -- ---- the setting and the two buffers

  other-spectrum-in : (o : std.Option Setting) (s : List ℕ) (place x b : ℕ) → (lines_at o ≡ 0 → ⊥) → (x ≡ lines_at o → ⊥)
      → judged_in o f s place x b ≡ refused 2 0
  other-spectrum-in None s place x b h k = absurd (h refl)
  other-spectrum-in (Some r) s place x b h k = simp (ne_eqb x r.lines k)

  other-residual-in : (o : std.Option Setting) (s : List ℕ) (place x b : ℕ) → (lines_at o ≡ 0 → ⊥) → (b ≡ lines_at o → ⊥)
      → judged_in o f s place x b ≡ refused 2 0
  other-residual-in None s place x b h k = absurd (h refl)
  other-residual-in (Some r) s place x b h k = simp (ne_eqb b r.lines k, and-false)

  -- ---- the record and the place

  no_place : (s : List ℕ) (place : ℕ) → Bytes s → (r : Setting) (o : Option (List RecordEntry)) → read_record f s ≡ o
      → length (part.frame_of o place) ≡ 0
      → judged_place r o place ≡ refused (entry_of f o place).number 0
  no_place s place b r none q z = refl
  no_place s place b r (some es) q z = go (ltb place (length es)) refl
    where
      go : (x : Bool) → ltb place (length es) ≡ x
          → cond x (judged_read (frame_of (frame_at es place) r)) (refused 1 0) ≡ refused (cond x 0 1) 0
      go true t = let k = frame-sized f s es place b q (ltb-true place (length es) t) in absurd (omega (arith, k.0, z))
      go false t = refl

  -- the record and the place are refused by numbers of their own
  never-five : (o : Option (List RecordEntry)) (place : ℕ) → (entry_of f o place).number ≡ 5 → ⊥
  never-five none place e = omega arith
  never-five (some es) place e = go (ltb place (length es)) e
    where
      go : (x : Bool) → ◌≡◌ {A = ℕ} (cond x 0 1) 5 → ⊥
      go true e = omega arith
      go false e = omega arith

  at_place : (s : List ℕ) (place : ℕ) → Bytes s → (r : Setting) (x : ℕ) → x ≡ r.lines → (y : ℕ) → y ≡ r.lines
      → (o : Option (List RecordEntry)) → read_record f s ≡ o → (length (part.frame_of o place) ≡ 0 → ⊥)
      → judged_at (Some r) (part.frame_of o place) x y ≡ judged_place r o place
  at_place s place b r x e y g none q z = absurd (z refl)
  at_place s place b r x e y g (some es) q z = go (ltb place (length es)) refl
    where
      go : (k : Bool) → ltb place (length es) ≡ k
          → judged_at (Some r) (frame_at es place) x y ≡ cond k (judged_read (frame_of (frame_at es place) r)) (refused 1 0)
      go true t =
          let n : ℕ = length (frame_at es place) in
          let h = frame-sized f s es place b q (ltb-true place (length es) t) in
          simp (le-leb 20 n h.0, le-leb n 400 h.1, eq-eqb x r.lines e, eq-eqb y r.lines g)
      go false t = absurd (z (sym (ap length (frame_past f es place (ltb-false place (length es) t)))))

  empty-in : (o : std.Option Setting) (s : List ℕ) (place x b : ℕ) → Bytes s → (lines_at o ≡ 0 → ⊥) → x ≡ lines_at o → b ≡ lines_at o
      → length (frame_in f s place) ≡ 0 → judged_in o f s place x b ≡ refused (entry_in f s place).number 0
  unfolding frame_in entry_in
  empty-in None s place x b i h e g z = absurd (h refl)
  empty-in (Some r) s place x b i h e g z = simp (eq-eqb x r.lines e, eq-eqb b r.lines g)
      (no_place s place i r (read_record f s) refl z)

  part_in : (o : std.Option Setting) (s : List ℕ) (place x b : ℕ) → Bytes s → (lines_at o ≡ 0 → ⊥) → x ≡ lines_at o → b ≡ lines_at o
      → (length (frame_in f s place) ≡ 0 → ⊥) → judged_at o (frame_in f s place) x b ≡ judged_in o f s place x b
  unfolding frame_in
  part_in None s place x b i h e g z = absurd (h refl)
  part_in (Some r) s place x b i h e g z =
      at_place s place i r x e b g (read_record f s) refl z ∙ sym (simp (eq-eqb x r.lines e, eq-eqb b r.lines g))

  entry-never-five : (s : List ℕ) (place : ℕ) → (entry_in f s place).number ≡ 5 → ⊥
  unfolding entry_in
  entry-never-five s = never-five (read_record f s)

-- ---- the cases of reading an entry in a form that there is, in the order of the tests

module _ (form : ℕ) (f : Form) (is : which_form form ≡ Ok f) (khz q : ℕ) (s : List ℕ) (place x b : ℕ) where
  judged : judged_entry form khz q s place x b ≡ judged_in (setting_of khz q) f s place x b
  unfolding judged_entry
  judged = rw is refl

  pub no-setting : line_count khz q ≡ 0 → judged_entry form khz q s place x b ≡ refused 1 0
  unfolding line_count
  no-setting z = judged ∙ ap (λ (o : std.Option Setting). judged_in o f s place x b) (setting-unknown khz q z)

  pub other-spectrum : (line_count khz q ≡ 0 → ⊥) → (x ≡ line_count khz q → ⊥) → judged_entry form khz q s place x b ≡ refused 2 0
  unfolding line_count
  other-spectrum h k = judged ∙ other-spectrum-in f (setting_of khz q) s place x b h k

  pub other-residual : (line_count khz q ≡ 0 → ⊥) → (b ≡ line_count khz q → ⊥) → judged_entry form khz q s place x b ≡ refused 2 0
  unfolding line_count
  other-residual h k = judged ∙ other-residual-in f (setting_of khz q) s place x b h k

  pub no-frame : Bytes s → (line_count khz q ≡ 0 → ⊥) → x ≡ line_count khz q → b ≡ line_count khz q → (p : List ℕ)
      → p ≡ frame_part form s place → length p ≡ 0
      → (judged_entry form khz q s place x b ≡ refused (missing form s place) 0) × (1 ≤ missing form s place)
      × (missing form s place ≡ 5 → ⊥)
  unfolding line_count
  no-frame i h e g p t z =
      let y : length (frame_part form s place) ≡ 0 = sym (ap length t) ∙ z in
      let m : (entry_in f s place).number ≡ missing form s place = ap (λ (a : EntryAnswer). a.number) (entry_in-is form f is s place) in (
        judged ∙ empty-in f (setting_of khz q) s place x b i h e g (ap length (frame-in form f is s place) ∙ y)
            ∙ ap (λ (n : ℕ). refused n 0) m,
        frame-missing form s place i y,
        λ w. entry-never-five f s place (m ∙ w),
      )

  -- an entry's frame is read as it stands in the record
  pub part-read : Bytes s → (line_count khz q ≡ 0 → ⊥) → x ≡ line_count khz q → b ≡ line_count khz q → (p : List ℕ)
      → p ≡ frame_part form s place → (length p ≡ 0 → ⊥)
      → judged_of khz q p x b ≡ judged_entry form khz q s place x b
  unfolding line_count judged_of
  part-read i h e g p t z =
      let o : p ≡ frame_in f s place = t ∙ sym (frame-in form f is s place) in
      ap (λ (l : List ℕ). judged_at (setting_of khz q) l x b) o
      ∙ part_in f (setting_of khz q) s place x b i h e g (λ y. z (ap length o ∙ y))
      ∙ sym judged
