-- Adding an entry: from what the walk finds to the answer and the buffer that is left, over the form. Assumes nothing.
use mathlib.Core.Path.{◌≡◌, refl, sym, ap, ◌∙◌}
use mathlib.Core.Bool.{Bool, true, false, ◌&&◌, and-false}
use mathlib.Core.Logic.{◌⊎◌, inl, inr}
use mathlib.Core.Option.{some}
use mathlib.Core.List.{List, [], ◌∷◌, ◌++◌, append_assoc}
use Prim.Native.Nat.{ℕ, suc, ◌+◌, ◌-◌, ◌≤◌, ◌<◌}
use native.Mathlib.Numerals.{add-one}
use native.Mathlib.Omega.{arith}
use lib.Dec.{leb, ltb, eqb}
use lib.ListN.{length, get_or, take, drop, length-append, length-take, get_or-eq_default}
use lib.Seq.{take_at, take-take, length-take-le, get_or-take}
use borrow.Author.Tests.{leb-true, le-leb, lt-leb, ltb-true, ltb-false, eqb-true}
use Rattle.record_forms.specs.declared.Form.{Form}
use Rattle.record_forms.specs.Forms.{trailer_size, end_size}
use Rattle.std.specs.Prelude.{None}
use Rattle.record_bytes.specs.Layout.{
  RecordEntry,
  trailer,
  entry_bytes,
  entries_bytes,
  end_bytes,
  record_bytes,
  EntryInRange,
  IsRecord,
  most,
}
use Rattle.record_forms.specs.Ranges.{in_range}
use Rattle.record_bytes.specs.Reading.{read_record}
use Rattle.record_bytes.specs.Steps.{whole, walk_of, put}
use Rattle.record_bytes.specs.Answers.{accepted, refused}
use Rattle.record.specs.Answers.{may_add_to, may_add, used_with, has_room, add_answer, add_buffer}
use Rattle.record_bytes.proofs.Numbers.{Bytes}
use Rattle.record_forms.proofs.Ranges.{and_left, and_right, bits_fit, in-range-of}
use Rattle.record_bytes.proofs.Inverse.{length-trailer, length-entry, length-end, entries-one, length-one, count_most, is_read}
use Rattle.record_bytes.proofs.Walking.{whole-read, none_read}
use Rattle.record_bytes.proofs.Putting.{put-put}

pub bytes_take : (s : List ℕ) (n : ℕ) → Bytes s → Bytes (take n s)
bytes_take s n b i = go (ltb i n) refl
  where
    go : (x : Bool) → ltb i n ≡ x → get_or (take n s) i 0 < 256
    go true t = rw (get_or-take n s i 0 (ltb-true i n t)) (b i)
    go false t =
        let h : n ≤ i = ltb-false i n t in
        let l : length (take n s) ≤ i = simp length-take (omega arith) in
        rw (get_or-eq_default (take n s) 0 l) (omega arith)

-- what an allowed entry and used length say
pub record Allowed (d : List ℕ) (used : ℕ) (e : RecordEntry) (size : ℕ) : Type 0 where
  pub inside : used ≤ length d
  pub small : used ≤ 65536
  pub request : e.request ≤ 3
  pub count : e.count ≤ 162
  pub bits : e.bits ≤ 65535
  pub sized : size ≡ length e.frame
  pub long : 20 ≤ size
  pub short : size ≤ 400
  pub ranges : EntryInRange e

pub allowed : (d : List ℕ) (used : ℕ) (e : RecordEntry) (size : ℕ) → may_add d used e size ≡ true → Allowed d used e size
unfolding may_add may_add_to
allowed d used e size m =
    let i : Bool = in_range e.request e.count e.bits size in
    let z : Bool = eqb size (length e.frame) in
    let u = and_left (leb used (length d) && leb used most) (i && z) m in
    let t = and_right (leb used (length d) && leb used most) (i && z) m in
    let r = in-range-of e.request e.count e.bits size (and_left i z t) in
    let l : size ≡ length e.frame = eqb-true size (length e.frame) (and_right i z t) in
    record {
      inside = leb-true used (length d) (and_left (leb used (length d)) (leb used most) u);
      small = leb-true used most (and_right (leb used (length d)) (leb used most) u);
      request = r.0;
      count = r.1;
      bits = bits_fit e.count e.bits r.4;
      sized = l;
      long = r.2;
      short = r.3;
      ranges = ap (in_range e.request e.count e.bits) (sym l) ∙ and_left i z t;
    }

module _ (f : Form) where
  record-bytes : (s : List ℕ) (es : List RecordEntry) → IsRecord f s es → s ≡ entries_bytes f es ++ end_bytes f (length es)
  unfolding record_bytes
  record-bytes s es r = r.bytes

  -- what follows an added frame: its trailer, then the record's end
  abbrev tail_for : RecordEntry → ℕ → List ℕ
  tail_for e n = trailer f e ++ end_bytes f (n + 1)

  -- the entry and then the end, put one after the other
  pub put-added : (d mid after : List ℕ) (at stop n : ℕ) (e : RecordEntry) → at + (length e.frame + trailer_size f) ≡ stop
      → stop + end_size f ≤ length d → mid ≡ put d at (entry_bytes f e) → after ≡ put mid stop (end_bytes f (n + 1))
      → after ≡ put d at (e.frame ++ tail_for e n)
  unfolding entry_bytes
  put-added d mid after at stop n e s h p r =
      let x : List ℕ = e.frame ++ trailer f e in
      let l : length x ≡ length e.frame + trailer_size f = length-entry f e in
      let b : List ℕ = end_bytes f (n + 1) in
      let k : stop ≡ at + length x = omega arith in
      r ∙ ap (λ (y : List ℕ). put y stop b) p ∙ ap (λ (i : ℕ). put (put d at x) i b) k ∙ put-put d at x b (omega arith)
      ∙ ap (put d at) (append_assoc e.frame (trailer f e) b)

  -- the entry's bytes and the new end, behind the old entries
  stored_bytes : (es : List RecordEntry) (e : RecordEntry) (n : ℕ) → n ≡ length es
      → entries_bytes f es ++ (e.frame ++ tail_for e n) ≡ record_bytes f (es ++ (e ∷ []))
  unfolding record_bytes entry_bytes
  stored_bytes es e n q =
      let m : n + 1 ≡ length (es ++ (e ∷ [])) = add-one n ∙ ap suc q ∙ sym (length-one es e) in
      rw (entries-one f es e, m) (simp append_assoc)

  length-tail : (e : RecordEntry) (n : ℕ) → length (tail_for e n) ≡ trailer_size f + end_size f
  unfolding trailer
  length-tail e n =
      let t : length (trailer f e) ≡ trailer_size f = length-trailer f e.request e.count e.bits (length e.frame) in
      let x : length (end_bytes f (n + 1)) ≡ end_size f = length-end f (n + 1) in
      rw length-append (omega arith)

  put-stored : (d : List ℕ) (used : ℕ) (es : List RecordEntry) (e : RecordEntry) (n : ℕ)
      → used ≡ length (entries_bytes f es) + end_size f → take (used - end_size f) d ≡ entries_bytes f es
      → n ≡ length es → used_with f used e ≤ length d
      → put d (used - end_size f) (e.frame ++ tail_for e n) ≡ record_bytes f (es ++ (e ∷ [])) ++ drop (used_with f used e) d
  unfolding put
  put-stored d used es e n u t q h =
      let at : ℕ = used - end_size f in
      let x : List ℕ = e.frame ++ tail_for e n in
      let l : length x ≡ length e.frame + (trailer_size f + end_size f) = length-append e.frame (tail_for e n)
      ∙ ap (λ (k : ℕ). length e.frame + k) (length-tail e n) in
      let g : at + length x ≡ used_with f used e = omega arith in
      sym (append_assoc (take at d) x (drop (at + length x) d))
      ∙ ap (λ (k : ℕ). (take at d ++ x) ++ drop k d) g
      ∙ ap (λ (r : List ℕ). (r ++ x) ++ drop (used_with f used e) d) t
      ∙ ap (λ (r : List ℕ). r ++ drop (used_with f used e) d) (stored_bytes es e n q)

  module _ (d : List ℕ) (used : ℕ) (e : RecordEntry) (size : ℕ) where
    pub room-yes : used_with f used e ≤ length d → used_with f used e ≤ 65536 → has_room f d used e ≡ true
    unfolding has_room
    room-yes h k = simp (le-leb (used_with f used e) (length d) h, le-leb (used_with f used e) 65536 k)

    pub room-buffer : length d < used_with f used e → has_room f d used e ≡ false
    unfolding has_room
    room-buffer h = simp (lt-leb (used_with f used e) (length d) h)

    pub room_most : 65536 < used_with f used e → has_room f d used e ≡ false
    unfolding has_room
    room_most h = simp (lt-leb (used_with f used e) 65536 h, and-false)

    pub room_none : (length d < used_with f used e) ⊎ ((used_with f used e ≤ length d) × (65536 < used_with f used e))
        → has_room f d used e ≡ false
    room_none (inl h) = room-buffer h
    room_none (inr h) = room_most h.1

    pub add-bad : may_add d used e size ≡ false → (refused 1 ≡ add_answer f d used e size) × (d ≡ add_buffer f d used e size)
    unfolding add_answer add_buffer
    add-bad m = (simp m, simp m)

    -- what a whole record in the used bytes says
    pub record WholeUsed (n : ℕ) : Type 0 where
      pub es : List RecordEntry
      pub read : read_record f (take used d) ≡ some es
      pub counted : n ≡ length es
      pub long : used ≡ length (entries_bytes f es) + end_size f
      pub front : take (used - end_size f) d ≡ entries_bytes f es

    whole-sized : (es : List RecordEntry) → used ≤ length d → take used d ≡ entries_bytes f es ++ end_bytes f (length es)
        → (used ≡ length (entries_bytes f es) + end_size f) × (take (used - end_size f) d ≡ entries_bytes f es)
    whole-sized es h r =
        let b : List ℕ = end_bytes f (length es) in
        let l : used ≡ length (entries_bytes f es) + end_size f =
        sym (length-take-le used d h) ∙ ap length r ∙ length-append (entries_bytes f es) b
        ∙ ap (λ (k : ℕ). length (entries_bytes f es) + k) (length-end f (length es)) in
        let t : take (used - end_size f) (take used d) ≡ take (used - end_size f) d = take-take (used - end_size f) used d (omega arith) in
        (l, sym t ∙ ap (take (used - end_size f)) r ∙ take_at (entries_bytes f es) b (used - end_size f) (omega arith))

    pub whole-used : used ≤ length d → Bytes d → (n v : ℕ) → walk_of f (read_record f (take used d)) 0 ≡ whole n v
        → WholeUsed n
    whole-used h b n v w =
        let k = whole-read f (take used d) 0 n v w in
        let r = (is_read f (take used d) k.es (bytes_take d used b) k.read).is in
        let z = whole-sized k.es h (record-bytes (take used d) k.es r) in
        record { es = k.es; read = k.read; counted = k.counted; long = z.0; front = z.1 }

    pub add_none : may_add d used e size ≡ true → walk_of f (read_record f (take used d)) 0 ≡ None
        → (refused 7 ≡ add_answer f d used e size) × (d ≡ add_buffer f d used e size)
    unfolding add_answer add_buffer
    add_none m w =
        let q = none_read f (take used d) 0 w in
        (simp (m, q), simp (m, q))

    pub add-full : may_add d used e size ≡ true → Bytes d → (n v : ℕ)
        → walk_of f (read_record f (take used d)) 0 ≡ whole n v → has_room f d used e ≡ false
        → (refused 6 ≡ add_answer f d used e size) × (d ≡ add_buffer f d used e size)
    unfolding add_answer add_buffer
    add-full m b n v w r =
        let k = whole-used (allowed d used e size m).inside b n v w in
        (simp (m, k.read, r), simp (m, k.read, r))

    pub add-stored : may_add d used e size ≡ true → Bytes d → (n v : ℕ)
        → walk_of f (read_record f (take used d)) 0 ≡ whole n v → used_with f used e ≤ length d → used_with f used e ≤ 65536
        → (accepted (used_with f used e) ≡ add_answer f d used e size)
        × (put d (used - end_size f) (e.frame ++ tail_for e n) ≡ add_buffer f d used e size)
    unfolding add_answer add_buffer
    add-stored m b n v w h k =
        let a = allowed d used e size m in
        let o = whole-used a.inside b n v w in
        let r : has_room f d used e ≡ true = room-yes h k in
        (simp (m, o.read, r), simp (m, o.read, r) (put-stored d used o.es e n o.long o.front o.counted h))

    pub used-known : used ≤ length d → Bytes d → (n v : ℕ) → walk_of f (read_record f (take used d)) 0 ≡ whole n v
        → (end_size f ≤ used) × (n ≤ used)
    used-known h b n v w =
        let o = whole-used h b n v w in
        let k : length o.es ≤ length (entries_bytes f o.es) = count_most f o.es in
        let p = o.counted in
        let q = o.long in
        (omega arith, omega arith)
