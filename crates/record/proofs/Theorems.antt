-- The theorems of the record: reading is the inverse of the layout, and what was added is what is read. Assumes nothing.
use mathlib.Core.Path.{◌≡◌, refl, sym, ap, ◌∙◌, subst}
use mathlib.Core.Bool.{Bool, true, false, ◌&&◌, cond}
use mathlib.Core.Logic.{◌↔◌}
use mathlib.Core.Option.{Option, none, some}
use mathlib.Core.List.{List, [], ◌∷◌, ◌++◌, append_assoc}
use Prim.Native.Nat.{ℕ, zero, suc, ◌+◌, ◌-◌, ◌≤◌, ◌<◌}
use native.Mathlib.Omega.{arith}
use lib.Dec.{leb}
use lib.ListN.{length, take, drop, replicate, length-append}
use lib.Seq.{take_at, drop_at}
use borrow.Author.Tests.{lt-ltb, leb-true, le-leb}
use Rattle.record_forms.specs.declared.Form.{Form}
use Rattle.record_forms.specs.declared.Form.TheVariants as form
use Rattle.refusals.specs.declared.Refusal.{Refusal}
use Rattle.record_forms.specs.Forms.{trailer_size, end_size, which_form}
use Rattle.std.specs.Prelude.{Ok, Err}
use Rattle.record_bytes.specs.Layout.{
  RecordEntry,
  big,
  trailer_bytes,
  trailer,
  entry_bytes,
  entries_bytes,
  end_bytes,
  record_bytes,
  EntryInRange,
  IsRecord,
  held,
  held_all,
  most,
}
use Rattle.record_bytes.specs.Reading.{read_record}
use Rattle.record_bytes.specs.Located.{locate}
use Rattle.record_bytes.specs.Answers.{Answer, accepted, refused, value_answer}
use Rattle.record.specs.Answers.{
  entries_of,
  entries_in,
  entry_in,
  frame_at,
  frame_in,
  may_add,
  used_with,
  has_room,
  add_answer,
  add_buffer,
}
use Rattle.record_bytes.specs.Steps.{whole, walk_of}
use Rattle.record.specs.Meaning.{Counts, CountMeans, entry_from, Stored}
use Rattle.record_bytes.proofs.Numbers.{Bytes}
use Rattle.record_bytes.proofs.Inverse.{
  length-entry,
  length-record,
  entries-one,
  length-one,
  ranges-one,
  held-append,
  read-bytes,
  is_read,
}
use Rattle.record_bytes.proofs.Standing.{locate-at}
use Rattle.record.proofs.Answered.{no_form}
use Rattle.record.proofs.Adding.{bytes_take, allowed, whole-used}

-- ---- what does not depend on the form

frame-last : (es : List RecordEntry) (e : RecordEntry) → frame_at (es ++ (e ∷ [])) (length es) ≡ e.frame
frame-last [] e = refl
frame-last (x ∷ es) e = frame-last es e

frame-older : (es : List RecordEntry) (e : RecordEntry) (place : ℕ) → place < length es
    → frame_at (es ++ (e ∷ [])) place ≡ frame_at es place
frame-older [] e place h = absurd (omega arith)
frame-older (x ∷ es) e zero h = refl
frame-older (x ∷ es) e (suc place) h = frame-older es e place (omega arith)

no_room : (n a b : ℕ) → (leb n a && leb n b) ≡ false → (n ≤ a) × (n ≤ b) → ⊥
no_room n a b h k =
    let t : true ≡ false = sym (simp (le-leb n a k.0, le-leb n b k.1)) ∙ h in
    let z : ◌≡◌ {A = ℕ} 0 1 = cc in omega arith

room-none : (n a b : ℕ) (x y : Bool) → leb n a ≡ x → leb n b ≡ y → ((n ≤ a) × (n ≤ b) → ⊥) → (x && y) ≡ false
room-none n a b true true p q k = absurd (k (leb-true n a p, leb-true n b q))
room-none n a b true false p q k = refl
room-none n a b false y p q k = refl

module _ (f : Form) where
  -- ---- reading is the inverse of the layout

  pub read-record : (s : List ℕ) (es : List RecordEntry) → IsRecord f s es → read_record f s ≡ some (held_all f es)
  read-record s es r = ap (read_record f) r.bytes
      ∙ read-bytes f es r.ranges (subst (λ (t : List ℕ). length t ≤ most) r.bytes r.size)

  -- exactly the records are read, and as entries that the form keeps
  pub record-exactly : (s : List ℕ) (es : List RecordEntry) → Bytes s
      → (read_record f s ≡ some es) ↔ (IsRecord f s es × (held_all f es ≡ es))
  record-exactly s es b = (
    λ r. let i = is_read f s es b r in (i.is, i.kept),
    λ r. read-record s es r.0 ∙ ap some r.1,
  )

  counts : (s : List ℕ) → Bytes s → (o : Option (List RecordEntry)) → read_record f s ≡ o
      → Counts (Ok f) (entries_of o).number (entries_of o).value s
  counts s b none q = λ es r.
      let w : none ≡ some (held_all f es) = sym q ∙ read-record s es r in
      let z : ◌≡◌ {A = ℕ} 0 1 = cc in absurd (omega arith)
  counts s b (some es) q = (es, (is_read f s es b q).is, refl)

  pub count-means : (form : ℕ) → which_form form ≡ Ok f → (s : List ℕ) → Bytes s → (a : Answer) → a ≡ entries_in f s
      → CountMeans form a s
  unfolding entries_in
  count-means form is s b a e = rw (is, e) (counts s b (read_record f s) refl)

  -- ---- one entry more

  locate-older : (es : List RecordEntry) (e : RecordEntry) (place start : ℕ) → place < length es
      → locate f (es ++ (e ∷ [])) place start ≡ locate f es place start
  locate-older [] e place start h = absurd (omega arith)
  locate-older (x ∷ es) e zero start h = refl
  locate-older (x ∷ es) e (suc place) start h = locate-older es e place (start + (length x.frame + trailer_size f)) (omega arith)

  module _ (s t : List ℕ) (es : List RecordEntry) (e : RecordEntry) (was : read_record f s ≡ some es)
      (now : read_record f t ≡ some (es ++ (e ∷ []))) where
    pub one_more : entries_in f t ≡ accepted (suc (length es))
    unfolding entries_in
    one_more = ap entries_of now ∙ ap accepted (length-one es e)

    pub added-last : entry_in f t (length es) ≡ entry_from e (length (entries_bytes f es))
    unfolding entry_in
    added-last =
        let l : length (es ++ (e ∷ [])) ≡ suc (length es) = length-one es e in
        let z : 0 + length (entries_bytes f es) ≡ length (entries_bytes f es) = omega arith in
        rw now (simp (lt-ltb (length es) (length (es ++ (e ∷ []))) (omega arith), locate-at f es e [] 0, z))

    pub added-frame : frame_in f t (length es) ≡ e.frame
    unfolding frame_in
    added-frame = rw now (frame-last es e)

    pub older-same : (place : ℕ) → place < length es → entry_in f t place ≡ entry_in f s place
    unfolding entry_in
    older-same place h =
        let l : length (es ++ (e ∷ [])) ≡ suc (length es) = length-one es e in
        rw (now, was) (simp (lt-ltb place (length (es ++ (e ∷ []))) (omega arith), lt-ltb place (length es) h, locate-older es e place 0 h))

    pub older-frame : (place : ℕ) → place < length es → frame_in f t place ≡ frame_in f s place
    unfolding frame_in
    older-frame place h = rw (now, was) (frame-older es e place h)

  -- ---- an addition

  record-with : (es : List RecordEntry) (e : RecordEntry) (used : ℕ) → used ≡ length (entries_bytes f es) + end_size f
      → length (record_bytes f (es ++ (e ∷ []))) ≡ used_with f used e
  record-with es e used u =
      let l : length (entries_bytes f (es ++ (e ∷ []))) ≡ length (entries_bytes f es) + (length e.frame + trailer_size f) =
      ap length (entries-one f es e) ∙ length-append (entries_bytes f es) (entry_bytes f e)
      ∙ ap (λ (k : ℕ). length (entries_bytes f es) + k) (length-entry f e) in
      length-record f (es ++ (e ∷ [])) ∙ (omega arith)

  record-entry : (es : List RecordEntry) (e : RecordEntry) (q : List ℕ)
      → (rest : List ℕ) × (record_bytes f (es ++ (e ∷ [])) ++ q ≡ entries_bytes f es ++ (entry_bytes f e ++ rest))
  unfolding record_bytes
  record-entry es e q = (end_bytes f (length (es ++ (e ∷ []))) ++ q, rw (entries-one f es e) (simp append_assoc))

  pub stored : (d : List ℕ) (used : ℕ) (es : List RecordEntry) (e : RecordEntry) → Bytes (take used d)
      → read_record f (take used d) ≡ some es → EntryInRange e
      → used ≡ length (entries_bytes f es) + end_size f → take (used - end_size f) d ≡ entries_bytes f es → used_with f used e ≤ most
      → Stored f d (record_bytes f (es ++ (e ∷ [])) ++ drop (used_with f used e) d) used (used_with f used e) e
  unfolding entries_in
  stored d used es e b was r u t h =
      let at : ℕ = used - end_size f in
      let next : ℕ = used_with f used e in
      let new : List ℕ = record_bytes f (es ++ (e ∷ [])) in
      let after : List ℕ = new ++ drop next d in
      let l : length new ≡ next = record-with es e used u in
      let part : take next after ≡ new = take_at new (drop next d) next l in
      let i = is_read f (take used d) es b was in
      let kept : held_all f (es ++ (e ∷ [])) ≡ es ++ (held f e ∷ []) =
      held-append f es (e ∷ []) ∙ ap (λ (x : List RecordEntry). x ++ (held f e ∷ [])) i.kept in
      let now : read_record f (take next after) ≡ some (es ++ (held f e ∷ [])) =
      ap (read_record f) part ∙ read-bytes f (es ++ (e ∷ [])) (ranges-one es e i.is.ranges r) (omega arith) ∙ ap some kept in
      let w = record-entry es e (drop next d) in
      let st : length (entries_bytes f es) ≡ at = omega arith in
      record {
        older = length es;
        counted = ap entries_of was;
        one_more = one_more (take used d) (take next after) es (held f e) was now;
        last = added-last (take used d) (take next after) es (held f e) was now ∙ ap (entry_from (held f e)) st;
        last_frame = added-frame (take used d) (take next after) es (held f e) was now;
        same = older-same (take used d) (take next after) es (held f e) was now;
        same_frame = older-frame (take used d) (take next after) es (held f e) was now;
        bytes = ap (λ (x : List ℕ). take (length (entry_bytes f e)) (drop at x)) w.1
            ∙ ap (take (length (entry_bytes f e))) (drop_at (entries_bytes f es) (entry_bytes f e ++ w.0) at st)
            ∙ take_at (entry_bytes f e) w.0 (length (entry_bytes f e)) refl;
        front = ap (take at) w.1 ∙ take_at (entries_bytes f es) (entry_bytes f e ++ w.0) at st ∙ sym t;
        past = drop_at new (drop next d) next l;
      }

  module _ (d : List ℕ) (used : ℕ) (e : RecordEntry) (size : ℕ) (m : may_add d used e size ≡ true) where
    -- an entry called stored is stored
    pub add-stores : Bytes d → (n v : ℕ) → walk_of f (read_record f (take used d)) 0 ≡ whole n v
        → has_room f d used e ≡ true → used_with f used e ≤ most → Stored f d (add_buffer f d used e size) used (used_with f used e) e
    unfolding add_buffer
    add-stores b n v w r k =
        let a = allowed d used e size m in
        let o = whole-used f d used e size a.inside b n v w in
        simp (m, o.read, r) (stored d used o.es e (bytes_take d used b) o.read a.ranges o.long o.front k)

    -- "refused with 6 exactly when used + frame + 4 exceeds the buffer or 65,536", or + 6
    pub full-exactly : (es : List RecordEntry) → read_record f (take used d) ≡ some es
        → (add_answer f d used e size ≡ refused 6) ↔ ((used_with f used e ≤ length d) × (used_with f used e ≤ most) → ⊥)
    unfolding add_answer has_room
    full-exactly es was =
        let next : ℕ = used_with f used e in (
          λ a. no_room next (length d) most (full (has_room f d used e) (sym (simp (m, was)) ∙ a)),
          λ k. let r : has_room f d used e ≡ false = room-none next (length d) most (leb next (length d)) (leb next most) refl refl k in
              simp (m, was, r),
        )
      where
        full : (b : Bool) → cond b (accepted (used_with f used e)) (refused 6) ≡ refused 6 → b ≡ false
        full true a = let z : ◌≡◌ {A = ℕ} 0 6 = ap (λ (x : Answer). x.number) a in absurd (omega arith)
        full false a = refl

pub no-form-means : (form : ℕ) (why : Refusal) → which_form form ≡ Err why → (s : List ℕ) → CountMeans form (value_answer (Err why)) s
no-form-means form why bad s = rw (bad, no_form form why bad) refl

-- ---- the documents' examples

-- "an empty record is four zero bytes", and `0000000002` in form 2
pub empty-record : (record_bytes form.One [] ≡ 0 ∷ 0 ∷ 0 ∷ 0 ∷ []) × (record_bytes form.Two [] ≡ 0 ∷ 0 ∷ 0 ∷ 0 ∷ 2 ∷ [])
unfolding record_bytes entries_bytes end_bytes big
empty-record = (refl, refl)

-- "one entry of 20 bytes (28 bytes in all), request 3, count 0", and 31 bytes in form 2
abbrev example : RecordEntry
example = record { frame = replicate 20 0; request = 3; count = 0; bits = 0 }

example-length : (length (record_bytes form.One (example ∷ [])) ≡ 28) × (length (record_bytes form.Two (example ∷ [])) ≡ 31)
unfolding record_bytes entries_bytes entry_bytes trailer trailer_bytes end_bytes big
example-length = (refl, refl)
