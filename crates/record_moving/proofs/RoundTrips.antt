-- What a move keeps, and when it can be taken back: form 1 to 2 to 1 always, form 2 to 1 to 2 exactly where every entry's bits are
-- unknown. Assumes nothing.
use mathlib.Core.Path.{◌≡◌, refl, sym, ap, ◌∙◌, subst}
use mathlib.Core.Bool.{Bool, true, false, cond}
use mathlib.Core.Logic.{◌↔◌}
use mathlib.Core.Option.{Option, some}
use mathlib.Core.List.{List, [], ◌∷◌, ◌++◌, head-eq_of_cons-eq, tail-eq_of_cons-eq}
use Prim.Native.Nat.{ℕ, zero, suc, ◌+◌, ◌≤◌}
use native.Mathlib.Omega.{arith}
use lib.Dec.{leb, ltb}
use lib.ListN.{length, take, drop, length-map}
use lib.Seq.{take_at}
use borrow.Author.Tests.{leb-true}
use Rattle.record_forms.specs.declared.Form.{Form}
use Rattle.record_forms.specs.declared.Form.TheVariants as form
use Rattle.record_forms.specs.Forms.{trailer_size}
use Rattle.record_bytes.specs.declared.Located.{Located}
use Rattle.record_bytes.specs.Layout.{RecordEntry, record_bytes, AllInRange, held, held_all, most}
use Rattle.record_bytes.specs.Reading.{read_record}
use Rattle.record_bytes.specs.Located.{locate}
use Rattle.record_bytes.specs.Answers.{Answer, accepted, refused}
use Rattle.record.specs.Answers.{entry_in, frame_at, frame_in}
use Rattle.record_moving.specs.Moving.{move_fits, move_of, move_answer, moved_of, move_buffer, AllUnknown}
use Rattle.record_bytes.proofs.Numbers.{Bytes}
use Rattle.record_forms.proofs.Ranges.{and_right, held-in-range}
use Rattle.record_bytes.proofs.Inverse.{read-bytes, is_read}

-- ---- what a form keeps

held_two : (es : List RecordEntry) → held_all form.Two es ≡ es
held_two [] = refl
held_two (e ∷ es) = ap (λ (l : List RecordEntry). e ∷ l) (held_two es)

held-ranges : (f : Form) (es : List RecordEntry) → AllInRange es → AllInRange (held_all f es)
held-ranges f [] r = tt
held-ranges f (e ∷ es) r = (held-in-range f e.request e.count e.bits (length e.frame) r.0, held-ranges f es r.1)

unknown-held : (es : List RecordEntry) → AllUnknown es → held_all form.One es ≡ es
unknown-held [] u = refl
unknown-held (e ∷ es) u =
    ap (λ (b : ℕ). record { frame = e.frame; request = e.request; count = e.count; bits = b } ∷ held_all form.One es) (sym u.0)
    ∙ ap (λ (l : List RecordEntry). e ∷ l) (unknown-held es u.1)

held-unknown : (es : List RecordEntry) → held_all form.One es ≡ es → AllUnknown es
held-unknown [] h = tt
held-unknown (e ∷ es) h =
    (sym (ap (λ (x : RecordEntry). x.bits) (head-eq_of_cons-eq h)), held-unknown es (tail-eq_of_cons-eq h))

-- ---- one move

-- what an accepted move has written
pub record Written (to : Form) (es : List RecordEntry) (after : List ℕ) (n : ℕ) : Type 0 where
  pub bytes : take n after ≡ record_bytes to es
  pub small : length (record_bytes to es) ≤ most

module _ (from to : Form) (s out : List ℕ) (es : List RecordEntry) (n : ℕ) (was : read_record from s ≡ some es) where
  written_of : (b : Bool) → move_fits to es out ≡ b → accepted n ≡ cond b (accepted (length (record_bytes to es))) (refused 6)
      → Written to es (cond b (record_bytes to es ++ drop (length (record_bytes to es)) out) out) n
  unfolding move_fits
  written_of true t a =
      let z : n ≡ length (record_bytes to es) = ap (λ (x : Answer). x.value) a in
      let i : Bool = leb (length (record_bytes to es)) (length out) in
      record {
        bytes = take_at (record_bytes to es) (drop (length (record_bytes to es)) out) n (sym z);
        small = leb-true (length (record_bytes to es)) most (and_right i (leb (length (record_bytes to es)) most) t);
      }
  written_of false t a = let z : ◌≡◌ {A = ℕ} 0 6 = ap (λ (x : Answer). x.number) a in absurd (omega arith)

  pub written : accepted n ≡ move_answer from to s out → Written to es (move_buffer from to s out) n
  unfolding move_answer move_buffer
  written a =
      let b : accepted n ≡ move_of to (some es) out = a ∙ ap (λ (o : Option (List RecordEntry)). move_of to o out) was in
      subst (λ (o : Option (List RecordEntry)). Written to es (moved_of to o out) n) (sym was) (written_of (move_fits to es out) refl b)

  -- the moved record has the same entries, as the form keeps them
  pub moved-read : Bytes s → accepted n ≡ move_answer from to s out
      → read_record to (take n (move_buffer from to s out)) ≡ some (held_all to es)
  moved-read b a =
      let w = written a in
      ap (read_record to) w.bytes ∙ read-bytes to es (is_read from s es b was).is.ranges w.small

-- ---- a move keeps each entry's frame, request and semi-octets at its place

held-frame : (f : Form) (es : List RecordEntry) (place : ℕ) → frame_at (held_all f es) place ≡ frame_at es place
held-frame f [] place = refl
held-frame f (e ∷ es) zero = refl
held-frame f (e ∷ es) (suc place) = held-frame f es place

-- two entries that differ at most in where they start and in their bits
pub record SameEntry (x y : Located) : Type 0 where
  pub length : x.length ≡ y.length
  pub request : x.request ≡ y.request
  pub count : x.count ≡ y.count

same-located : (f g h : Form) (es : List RecordEntry) (place a b : ℕ) → SameEntry (locate g (held_all f es) place a) (locate h es place b)
same-located f g h [] place a b = record { length = refl; request = refl; count = refl }
same-located f g h (e ∷ es) zero a b = record { length = refl; request = refl; count = refl }
same-located f g h (e ∷ es) (suc place) a b =
    same-located f g h es place (a + (length e.frame + trailer_size g)) (b + (length e.frame + trailer_size h))

module _ (from to : Form) (s out : List ℕ) (es : List RecordEntry) (n : ℕ) (was : read_record from s ≡ some es) (b : Bytes s)
    (a : accepted n ≡ move_answer from to s out) where
  pub move-keeps-frame : (place : ℕ) → frame_in to (take n (move_buffer from to s out)) place ≡ frame_in from s place
  unfolding frame_in
  move-keeps-frame place = rw (moved-read from to s out es n was b a, was) (held-frame to es place)

  pub move-keeps-entry : (place : ℕ) → let x = entry_in to (take n (move_buffer from to s out)) place in
      (x.number ≡ (entry_in from s place).number) × SameEntry x.entry (entry_in from s place).entry
  unfolding entry_in
  move-keeps-entry place =
      let l : length (held_all to es) ≡ length es = length-map es (held to) in
      rw (moved-read from to s out es n was b a, was) (ap (λ (k : ℕ). cond (ltb place k) 0 1) l, same-located to to from es place 0 0)

-- ---- there and back

module _ (from to : Form) (s out back : List ℕ) (es : List RecordEntry) (n m : ℕ) (was : read_record from s ≡ some es) (b : Bytes s)
    (a : accepted n ≡ move_answer from to s out) (c : accepted m ≡ move_answer to from (take n (move_buffer from to s out)) back) where
  there_and_back : Written from (held_all to es) (move_buffer to from (take n (move_buffer from to s out)) back) m
  there_and_back =
      written to from (take n (move_buffer from to s out)) back (held_all to es) m (moved-read from to s out es n was b a) c

-- form 1 to 2 to 1 gives the same bytes
pub one-two-one : (s out back : List ℕ) (es : List RecordEntry) (n m : ℕ) → read_record form.One s ≡ some es → Bytes s
    → accepted n ≡ move_answer form.One form.Two s out
    → accepted m ≡ move_answer form.Two form.One (take n (move_buffer form.One form.Two s out)) back
    → take m (move_buffer form.Two form.One (take n (move_buffer form.One form.Two s out)) back) ≡ s
one-two-one s out back es n m was b a c =
    (there_and_back form.One form.Two s out back es n m was b a c).bytes
    ∙ ap (record_bytes form.One) (held_two es) ∙ sym (is_read form.One s es b was).is.bytes

-- form 2 to 1 to 2 gives the same bytes exactly where every entry's bits are unknown
pub two-one-two : (s out back : List ℕ) (es : List RecordEntry) (n m : ℕ) → read_record form.Two s ≡ some es → Bytes s
    → accepted n ≡ move_answer form.Two form.One s out
    → accepted m ≡ move_answer form.One form.Two (take n (move_buffer form.Two form.One s out)) back
    → (take m (move_buffer form.One form.Two (take n (move_buffer form.Two form.One s out)) back) ≡ s) ↔ AllUnknown es
two-one-two s out back es n m was b a c =
    let r = (is_read form.Two s es b was).is in
    let w = there_and_back form.Two form.One s out back es n m was b a c in (
      λ same.
          let i : record_bytes form.Two (held_all form.One es) ≡ s = sym w.bytes ∙ same in
          let p : read_record form.Two s ≡ some (held_all form.One es) = ap (read_record form.Two) (sym i)
          ∙ read-bytes form.Two (held_all form.One es) (held-ranges form.One es r.ranges) w.small
          ∙ ap some (held_two (held_all form.One es)) in
          let q : some (held_all form.One es) ≡ some es = sym p ∙ was in
          let h : held_all form.One es ≡ es = cc in
          held-unknown es h,
      λ u. w.bytes ∙ ap (record_bytes form.Two) (unknown-held es u) ∙ sym r.bytes,
    )
