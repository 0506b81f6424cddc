-- The walk that writes what it reads: the entries of a record, put one in front of the other in another form. Assumes nothing.
use mathlib.Core.Path.{◌≡◌, refl, sym, ap, ◌∙◌, subst}
use mathlib.Core.Bool.{and-false}
use mathlib.Core.Logic.{◌⊎◌, inl, inr}
use mathlib.Core.Option.{none, some}
use mathlib.Core.List.{List, [], ◌∷◌, ◌++◌}
use Prim.Native.Nat.{ℕ, suc, ◌+◌, ◌*◌, ◌-◌, ◌≤◌, ◌<◌}
use native.Mathlib.Nat.{add-sub_cancel_left, suc-mul, mul-le-mul}
use native.Mathlib.Omega.{arith}
use lib.ListN.{length, take, drop, length-append, length-drop}
use lib.Seq.{length-take-le}
use borrow.Author.Tests.{le-leb, lt-leb}
use Rattle.record_forms.specs.declared.Form.{Form}
use Rattle.record_forms.specs.Forms.{trailer_size, end_size}
use Rattle.record_forms.proofs.Sizes.{bits_most}
use Rattle.record_forms.proofs.Ranges.{in-range-of}
use Rattle.std.specs.Prelude.{Some}
use Rattle.std.specs.Prelude as std
use Rattle.std.specs.Option.{IsSome}
use Rattle.record_bytes.specs.declared.Located.{Located}
use Rattle.record_bytes.specs.Layout.{
  RecordEntry,
  trailer_bytes,
  trailer,
  entry_bytes,
  entries_bytes,
  end_bytes,
  record_bytes,
}
use Rattle.record_bytes.specs.Reading.{entry_before, read_record}
use Rattle.record_bytes.specs.Steps.{step_of, Whole, put, Placed}
use Rattle.record_bytes.specs.Answers.{accepted, refused}
use Rattle.record_moving.specs.Moving.{move_fits, move_answer, move_buffer, entries_as, moved_entries}
use Rattle.record_bytes.proofs.Numbers.{Bytes}
use Rattle.record_bytes.proofs.Inverse.{length-trailer, length-entry, length-end, length-record, count_most, entries-append, Read, is_read}
use Rattle.record_bytes.proofs.Standing.{
  Standing,
  standing-start,
  standing-done,
  Next,
  next,
  next-found,
  next-there,
  next-standing,
  next-long,
  next-bytes,
}
use Rattle.record_bytes.proofs.Putting.{put-before, placed-none, placed-before}

-- what is put at the start of a buffer
pub put_first : (d x : List ℕ) → put d 0 x ≡ x ++ drop (length x) d
unfolding put
put_first d x = let z : 0 + length x ≡ length x = omega arith in ap (λ (k : ℕ). x ++ drop k d) z

-- ---- lengths

-- the bytes of the frames
abbrev frames : List RecordEntry → ℕ
frames [] = 0
frames (e ∷ es) = length e.frame + frames es

pub entries-length : (f : Form) (es : List RecordEntry) → length (entries_bytes f es) ≡ frames es + length es * trailer_size f
unfolding entries_bytes
entries-length f [] = omega arith
entries-length f (e ∷ es) =
    let l : length (entry_bytes f e) ≡ length e.frame + trailer_size f = length-entry f e in
    let h : length (entries_bytes f es) ≡ frames es + length es * trailer_size f = entries-length f es in
    let m : suc (length es) * trailer_size f ≡ length es * trailer_size f + trailer_size f = suc-mul (length es) (trailer_size f) in
    rw length-append (omega arith)

-- "used + 2 x entries + 1" and "used - 2 x entries - 1": the moved record differs by what stands beside the frames
pub moved_length : (from to : Form) (es : List RecordEntry)
    → length (record_bytes to es) + (length es * trailer_size from + end_size from)
    ≡ length (record_bytes from es) + (length es * trailer_size to + end_size to)
moved_length from to es =
    let a : length (record_bytes to es) ≡ length (entries_bytes to es) + end_size to = length-record to es in
    let b : length (record_bytes from es) ≡ length (entries_bytes from es) + end_size from = length-record from es in
    let c : length (entries_bytes to es) ≡ frames es + length es * trailer_size to = entries-length to es in
    let d : length (entries_bytes from es) ≡ frames es + length es * trailer_size from = entries-length from es in
    omega arith

-- what stands beside the frames of so many entries
pub beside-most : (f : Form) (n k : ℕ) → k ≡ trailer_size f → n ≤ 65536 → (n * k ≡ n * trailer_size f) × (n * k ≤ 393216)
beside-most f n k e h =
    let b = bits_most f in
    let t : k ≤ 6 = omega arith in
    let m : n * k ≤ 65536 * 6 = mul-le-mul h t in
    (ap (λ (i : ℕ). n * i) e, omega arith)

length-at : (f : Form) (es a : List RecordEntry) (e : RecordEntry) (b : List RecordEntry) → es ≡ a ++ (e ∷ b)
    → length (entries_bytes f es) ≡ length (entries_bytes f a) + ((length e.frame + trailer_size f) + length (entries_bytes f b))
unfolding entries_bytes
length-at f es a e b j = ap (λ (l : List RecordEntry). length (entries_bytes f l)) j ∙ ap length (entries-append f a (e ∷ b))
    ∙ length-append (entries_bytes f a) (entry_bytes f e ++ entries_bytes f b)
    ∙ ap (λ (n : ℕ). length (entries_bytes f a) + n) (length-append (entry_bytes f e) (entries_bytes f b)
    ∙ ap (λ (n : ℕ). n + length (entries_bytes f b)) (length-entry f e))

-- ---- one entry

-- an entry that is put with its frame from the record ends where it is to end
pub entry-placed : (f : Form) (s d after : List ℕ) (v : Located) (n size end : ℕ) → n ≡ v.length
    → size ≡ trailer_size f → v.start + v.length ≤ length s → v.length + trailer_size f ≤ end → end ≤ length d
    → (let x = take (v.start + n - v.start) (drop v.start s) in
    after ≡ put d (end - (n + size)) (x ++ trailer_bytes f v.request v.count v.bits (length x)))
    → Placed d after (end - (n + size)) end
    (take v.length (drop v.start s) ++ trailer_bytes f v.request v.count v.bits v.length)
entry-placed f s d after v n size end en ez hs he hd p =
    let at : ℕ = end - (n + size) in
    let x : List ℕ = take v.length (drop v.start s) in
    let t : ℕ → List ℕ = trailer_bytes f v.request v.count v.bits in
    let lx : length x ≡ v.length = length-take-le v.length (drop v.start s) (rw length-drop (omega arith)) in
    let lt : length (t v.length) ≡ trailer_size f = length-trailer f v.request v.count v.bits v.length in
    let first : take (v.start + n - v.start) (drop v.start s) ≡ x =
    ap (λ (k : ℕ). take k (drop v.start s)) (add-sub_cancel_left v.start n ∙ en) in
    record {
      sized = ap (λ (k : ℕ). at + k) (length-append x (t v.length)) ∙ (omega arith);
      placed = p ∙ ap (λ (y : List ℕ). put d at (y ++ t (length y))) first ∙ ap (λ (k : ℕ). put d at (x ++ t k)) lx;
    }

-- ---- the loop

-- a record's entries are known, the walk stands at `place`, and the later entries stand in the other form from `at` to `end`
pub record Carrying (from to : Form) (s d after : List ℕ) (n end at place left : ℕ) : Type 0 where
  pub es : List RecordEntry
  pub read : read_record from s ≡ some es
  pub is : Read from s es
  pub ends : end ≡ length (entries_bytes to es)
  pub later : List RecordEntry
  pub standing : Standing from s es is place left later
  pub text : Placed d after at end (entries_bytes to later)

module _ (from to : Form) (s d : List ℕ) (n end : ℕ) where
  pub carrying-start : Bytes s → Whole from s n → end ≡ length (moved_entries from to s)
      → Carrying from to s d d n end end (length s - end_size from) n
  unfolding entries_bytes
  carrying-start b w e =
      let r = is_read from s w.es b w.read in
      record {
        es = w.es;
        read = w.read;
        is = r;
        ends = e ∙ ap (λ o. length (entries_as to o)) w.read;
        later = [];
        standing = standing-start from s w.es r n w.counted;
        text = placed-none d end;
      }

  module _ (after : List ℕ) (at place left : ℕ) (w : Carrying from to s d after n end at place left) where
    -- the entry before the place
    abbrev last : 0 < left → Next from s w.es w.is place left w.later
    last h = next from s w.es w.is place left w.later w.standing h

    -- the entry that was found, as the code has it: it stands in the record, and there is room for it
    pub record Found (v : Located) : Type 0 where
      pub long : 20 ≤ v.length
      pub inside : v.start + v.length ≤ length s
      pub room : v.length + trailer_size to ≤ at
      pub lower : v.start ≤ place

    pub found : (v : Located) → 0 < left → step_of from (entry_before from s place) place ≡ Some v → Found v
    found v h q =
        let e = last h in
        let x = e.entry in
        let is = next-found from s w.es w.is place left w.later e v q in
        let l : v.length ≡ length x.frame = ap (λ (y : Located). y.length) is in
        let t : v.start ≡ length (entries_bytes from e.before) = ap (λ (y : Located). y.start) is in
        let z = length-at to w.es e.before e.entry w.later e.joined in
        let y = next-long from s w.es w.is place left w.later e in
        record {
          long = omega (arith, (in-range-of x.request x.count x.bits (length x.frame) e.ranges).2);
          inside = omega arith;
          room = omega (arith, w.text.sized, w.ends);
          lower = omega (arith, e.ends);
        }

    -- what is put is the entry in the other form
    pub carried : (v : Located) → 0 < left → step_of from (entry_before from s place) place ≡ Some v → (after2 : List ℕ) (r : ℕ)
        → Placed after after2 r at
        (take v.length (drop v.start s) ++ trailer_bytes to v.request v.count v.bits v.length)
        → end ≤ length d → Carrying from to s d after2 n end r v.start (left - 1)
    unfolding entries_bytes entry_bytes trailer
    carried v h q after2 r p m =
        let e = last h in
        let x : RecordEntry = e.entry in
        let is = next-found from s w.es w.is place left w.later e v q in
        let st : v.start ≡ length (entries_bytes from e.before) = ap (λ (y : Located). y.start) is in
        let words : Located → List ℕ =
        λ y. take y.length (drop y.start s) ++ trailer_bytes to y.request y.count y.bits y.length in
        let copied : take (length x.frame) (drop (length (entries_bytes from e.before)) s) ≡ x.frame =
        next-bytes from s w.es w.is place left w.later e (length x.frame) x.frame (trailer from x) refl refl in
        let whole : words v ≡ entry_bytes to x = ap words is ∙ ap (λ (y : List ℕ). y ++ trailer to x) copied in
        record {
          es = w.es;
          read = w.read;
          is = w.is;
          ends = w.ends;
          later = x ∷ w.later;
          standing = rw st (next-standing from s w.es w.is place left w.later e);
          text = placed-before d after after2 r at end (entry_bytes to x) (entries_bytes to w.later) m w.text
              (subst (Placed after after2 r at) whole p);
        }

    pub there : 0 < left → (o : std.Option Located) → o ≡ step_of from (entry_before from s place) place → IsSome o
    there h = next-there from s w.es w.is place left w.later (last h)

  pub carried-all : (after : List ℕ) (at place left : ℕ) → left ≡ 0 → Carrying from to s d after n end at place left
      → after ≡ put d 0 (moved_entries from to s)
  carried-all after at place left z w =
      let v : Carrying from to s d after n end at place 0 = subst (Carrying from to s d after n end at place) z w in
      let a : v.later ≡ v.es = standing-done from s v.es v.is place v.later v.standing in
      let l : length (entries_bytes to v.later) ≡ length (entries_bytes to v.es) =
      ap (λ (x : List RecordEntry). length (entries_bytes to x)) a in
      let o : at ≡ 0 = omega (arith, v.text.sized, v.ends) in
      v.text.placed ∙ ap (λ (k : ℕ). put d k (entries_bytes to v.later)) o
      ∙ ap (λ (x : List RecordEntry). put d 0 (entries_bytes to x)) a ∙ ap (λ o. put d 0 (entries_as to o)) (sym v.read)

-- ---- the whole

-- the end and then the entries, put into a buffer, are the record
made : (f : Form) (d : List ℕ) (es : List RecordEntry) (at : ℕ) → length (record_bytes f es) ≤ length d
    → at + end_size f ≡ length (record_bytes f es)
    → put (put d at (end_bytes f (length es))) 0 (entries_bytes f es) ≡ record_bytes f es ++ drop (length (record_bytes f es)) d
unfolding record_bytes
made f d es at h a =
    let x : List ℕ = entries_bytes f es in
    let y : List ℕ = end_bytes f (length es) in
    let l : length y ≡ end_size f = length-end f (length es) in
    let z : length (x ++ y) ≡ length x + end_size f = length-record f es in
    put-before d 0 at x y (omega arith) (omega arith) ∙ put_first d (x ++ y)

module _ (from to : Form) (s out : List ℕ) where
  pub move-none : read_record from s ≡ none → (refused 7 ≡ move_answer from to s out) × (out ≡ move_buffer from to s out)
  unfolding move_answer move_buffer
  move-none q = (rw q refl, rw q refl)

  module _ (n : ℕ) (w : Whole from s n) where
    pub move_full : (length out < length (record_bytes to w.es))
        ⊎ ((length (record_bytes to w.es) ≤ length out) × (65536 < length (record_bytes to w.es)))
        → (refused 6 ≡ move_answer from to s out) × (out ≡ move_buffer from to s out)
    unfolding move_answer move_buffer move_fits
    move_full (inl h) =
        let t = lt-leb (length (record_bytes to w.es)) (length out) h in
        (rw w.read (simp t), rw w.read (simp t))
    move_full (inr h) =
        let t = lt-leb (length (record_bytes to w.es)) 65536 h.1 in
        (rw w.read (simp (t, and-false)), rw w.read (simp (t, and-false)))

    -- what the code's length is, and that it can be made
    pub record Sized (used : ℕ) : Type 0 where
      pub long : used ≡ length (record_bytes to w.es)
      pub front : length (moved_entries from to s) + end_size to ≡ used

    pub beside-frames : Bytes s → (n * trailer_size from + end_size from ≤ length s) × (length s ≤ 65536) × (n ≤ 65536)
    beside-frames b =
        let r = is_read from s w.es b w.read in
        let l : length s ≡ length (entries_bytes from w.es) + end_size from = ap length r.is.bytes ∙ length-record from w.es in
        let c : length (entries_bytes from w.es) ≡ frames w.es + length w.es * trailer_size from = entries-length from w.es in
        let k : length w.es ≤ length (entries_bytes from w.es) = count_most from w.es in
        let m : n * trailer_size from ≡ length w.es * trailer_size from = ap (λ (i : ℕ). i * trailer_size from) w.counted in
        (omega arith, r.is.size, omega (arith, r.is.size, w.counted))

    pub sized : Bytes s → (used : ℕ)
        → used + (n * trailer_size from + end_size from) ≡ length s + (n * trailer_size to + end_size to) → Sized used
    sized b used e =
        let r = is_read from s w.es b w.read in
        let q = moved_length from to w.es in
        let f = ap (λ (i : ℕ). i * trailer_size from) w.counted in
        let t = ap (λ (i : ℕ). i * trailer_size to) w.counted in
        let l = ap length r.is.bytes in
        let z : used ≡ length (record_bytes to w.es) = omega arith in
        record {
          long = z;
          front = ap (λ o. length (entries_as to o) + end_size to) w.read ∙ sym (length-record to w.es) ∙ sym z;
        }

    -- the end and the entries, put one after the other, are the moved record
    pub move-made : (at : ℕ) → length (record_bytes to w.es) ≤ length out → length (record_bytes to w.es) ≤ 65536
        → at + end_size to ≡ length (record_bytes to w.es)
        → (accepted (length (record_bytes to w.es)) ≡ move_answer from to s out)
        × (put (put out at (end_bytes to n)) 0 (moved_entries from to s) ≡ move_buffer from to s out)
    unfolding move_answer move_buffer move_fits
    move-made at h k a =
        let x = le-leb (length (record_bytes to w.es)) (length out) h in
        let y = le-leb (length (record_bytes to w.es)) 65536 k in
        (rw w.read (simp (x, y)), rw (w.read, w.counted) (simp (x, y) (made to out w.es at h a)))
