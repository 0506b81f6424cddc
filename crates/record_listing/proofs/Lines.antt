-- The lines of a record, put one in front of the other as the walk goes back. Assumes nothing.
use mathlib.Core.Path.{◌≡◌, refl, sym, ap, ◌∙◌, subst}
use mathlib.Core.Bool.{Bool, true, false, cond}
use mathlib.Core.Option.{Option, none, some}
use mathlib.Core.List.{List, [], ◌∷◌, ◌++◌, append-nil}
use Prim.Native.Nat.{ℕ, suc, ◌+◌, ◌*◌, ◌-◌, ◌≤◌, ◌<◌}
use native.Mathlib.Omega.{arith}
use lib.Seq.{drop-length}
use lib.Dec.{leb}
use lib.ListN.{length, take, drop}
use borrow.Author.Tests.{le-leb, lt-leb}
use Rattle.record_forms.specs.declared.Form.{Form}
use Rattle.record_forms.specs.declared.Form.TheVariants as form
use Rattle.record_forms.specs.Forms.{end_size}
use Rattle.std.specs.Prelude.{Some, None}
use Rattle.std.specs.Prelude as std
use Rattle.std.specs.Option.{IsSome}
use Rattle.record_bytes.specs.declared.Located.{Located}
use Rattle.record_bytes.specs.Layout.{RecordEntry, entries_bytes, most}
use Rattle.record_bytes.specs.Reading.{entry_before, read_record}
use Rattle.record_bytes.specs.Located.{located}
use Rattle.record_bytes.specs.Steps.{step_of, Whole, put, Placed}
use Rattle.record_bytes.specs.Answers.{Answer, accepted, refused}
use Rattle.record_listing.specs.declared.Known.{Known}
use Rattle.record_listing.specs.Listing.{
  field,
  line,
  lines,
  either,
  lines_of,
  lines_in,
  known,
  known_from,
  known_in,
  read_either,
  space,
  newline,
  records,
  damaged,
  too_long,
  listing_of,
  listing,
  listed_answer,
  list_answer,
  list_buffer,
}
use Rattle.record_bytes.proofs.Numbers.{Bytes}
use Rattle.record_forms.proofs.Ranges.{in-range-of}
use Rattle.record_bytes.proofs.Inverse.{length-record, entries-bounds, Read, is_read}
use Rattle.record_bytes.proofs.Standing.{
  Standing,
  standing-start,
  standing-done,
  Next,
  next,
  next-found,
  next-there,
  next-standing,
}
use Rattle.record_bytes.proofs.Putting.{placed-none, placed-before}

-- ---- one line

pub line-placed : (d d1 d2 d3 d4 : List ℕ) (r1 r2 r3 r4 end place size request count a b c : ℕ) → end ≤ length d → a ≡ count → b ≡ request
    → c ≡ size
    → Placed d d1 r1 end (field a newline) → Placed d1 d2 r2 r1 (field b space) → Placed d2 d3 r3 r2 (field c space)
    → Placed d3 d4 r4 r3 (field place space)
    → Placed d d4 r4 end (line place size request count)
unfolding line
line-placed d d1 d2 d3 d4 r1 r2 r3 r4 end place size request count a b c h ea eb ec p1 p2 p3 p4 =
    let q2 : Placed d d2 r2 end (field b space ++ field a newline) =
    placed-before d d1 d2 r2 r1 end (field b space) (field a newline) h p1 p2 in
    let q3 : Placed d d3 r3 end (field c space ++ (field b space ++ field a newline)) =
    placed-before d d2 d3 r3 r2 end (field c space) (field b space ++ field a newline) h q2 p3 in
    let q4 : Placed d d4 r4 end (field place space ++ (field c space ++ (field b space ++ field a newline))) =
    placed-before d d3 d4 r4 r3 end (field place space) (field c space ++ (field b space ++ field a newline)) h q3 p4 in
    rw (← ea, ← eb, ← ec) q4

-- ---- the loop

-- a record's entries are known, the walk stands at `end`, and the lines of the later entries stand from `at` on
pub record Lining (f : Form) (s d after : List ℕ) (end left at n : ℕ) : Type 0 where
  pub es : List RecordEntry
  pub read : read_record f s ≡ some es
  pub counted : n ≡ length es
  pub is : Read f s es
  pub later : List RecordEntry
  pub standing : Standing f s es is end left later
  pub text : Placed d after at (length d) (lines left later)
  pub room : 20 * left + 13 ≤ at

module _ (f : Form) (s d : List ℕ) (n : ℕ) where
  -- the record's length and its number of entries
  pub whole-sized : Bytes s → Whole f s n → (24 * n + end_size f ≤ length s) × (length s ≤ 65536)
  whole-sized b k =
      let r = is_read f s k.es b k.read in
      let l : length s ≡ length (entries_bytes f k.es) + end_size f = ap length r.is.bytes ∙ length-record f k.es in
      let m = (entries-bounds f k.es r.is.ranges).0 in
      (omega (arith, k.counted), r.is.size)

  pub lining-start : Bytes s → 65536 ≤ length d → Whole f s n → Lining f s d d (length s - end_size f) n (length d) n
  unfolding lines
  lining-start b h k =
      let r = is_read f s k.es b k.read in
      let z = whole-sized b k in
      record {
        es = k.es;
        read = k.read;
        counted = k.counted;
        is = r;
        later = [];
        standing = standing-start f s k.es r n k.counted;
        text = placed-none d (length d);
        room = omega (arith, z.0, z.1);
      }

  module _ (after : List ℕ) (end left at : ℕ) (w : Lining f s d after end left at n) where
    -- the entry before the place
    abbrev last : 0 < left → Next f s w.es w.is end left w.later
    last h = next f s w.es w.is end left w.later w.standing h

    -- the entry that was found, as the code has it
    pub found-size : (v : Located) → 0 < left → step_of f (entry_before f s end) end ≡ Some v → (v.length ≤ 400) × (v.start ≤ end)
    found-size v h q =
        let e = last h in
        let is = next-found f s w.es w.is end left w.later e v q in
        let o = in-range-of e.entry.request e.entry.count e.entry.bits (length e.entry.frame) e.ranges in
        let l : v.length ≡ length e.entry.frame = ap (λ (x : Located). x.length) is in
        let t : v.start ≡ length (entries_bytes f e.before) = ap (λ (x : Located). x.start) is in
        (omega (arith, o.3), omega (arith, e.ends))

    pub lining-turn : (after2 : List ℕ) (r : ℕ) (v : Located) → 0 < left
        → Placed after after2 r at (line (left - 1) v.length v.request v.count) → at ≤ r + 20
        → step_of f (entry_before f s end) end ≡ Some v → Lining f s d after2 v.start (left - 1) r n
    unfolding lines
    lining-turn after2 r v h p u q =
        let e = last h in
        let is = next-found f s w.es w.is end left w.later e v q in
        let st : v.start ≡ length (entries_bytes f e.before) = ap (λ (x : Located). x.start) is in
        let words : Located → List ℕ = λ x. line (left - 1) x.length x.request x.count in
        let one : suc (left - 1) ≡ left = omega arith in
        record {
          es = w.es;
          read = w.read;
          counted = w.counted;
          is = w.is;
          later = e.entry ∷ w.later;
          standing = rw st (next-standing f s w.es w.is end left w.later e);
          text = rw one (placed-before d after after2 r at (length d) (words (located e.entry 0)) (lines left w.later) (omega arith)
              w.text (subst (Placed after after2 r at) (ap words is) p));
          room = omega (arith, w.room);
        }

    -- a record's walk finds an entry as long as some are left
    pub lining-there : 0 < left → (o : std.Option Located) → o ≡ step_of f (entry_before f s end) end → IsSome o
    lining-there h = next-there f s w.es w.is end left w.later (last h)

  pub lining-done : (after : List ℕ) (end left at : ℕ) → left ≡ 0 → Lining f s d after end left at n
      → Placed d after at (length d) (lines_of (read_record f s))
  lining-done after end left at z w =
      let v : Lining f s d after end 0 at n = subst (λ (m : ℕ). Lining f s d after end m at n) z w in
      let a : v.later ≡ v.es = standing-done f s v.es v.is end v.later v.standing in
      subst (Placed d after at (length d)) (ap (lines 0) a ∙ ap lines_of (sym v.read)) v.text

-- ---- the whole listing

pub list-short : (s out : List ℕ) → length out < 65536 → (refused 6 ≡ list_answer s out) × (out ≡ list_buffer s out)
unfolding list_answer list_buffer
list-short s out h = (simp (lt-leb 65536 (length out) h), simp (lt-leb 65536 (length out) h))

pub list-placed : (s out after x : List ℕ) (r : ℕ) → 65536 ≤ length out → listing s ≡ x → Placed out after r (length out) x
    → (accepted r ≡ list_answer s out) × (after ≡ list_buffer s out)
unfolding list_answer list_buffer put
list-placed s out after x r h e p =
    let z = p.sized in
    let q : r ≡ length out - length x = omega arith in
    let b : after ≡ take r out ++ x =
    p.placed ∙ ap (λ (m : ℕ). take r out ++ (x ++ drop m out)) z ∙ ap (λ (l : List ℕ). take r out ++ (x ++ l)) (drop-length out)
    ∙ ap (λ (l : List ℕ). take r out ++ l) (append-nil x) in
    (simp (le-leb 65536 (length out) h, e) (ap accepted q), simp (le-leb 65536 (length out) h, e) (b ∙ ap (λ (m : ℕ). take m out ++ x) q))

pub listing-long : (s : List ℕ) → 65536 < length s → listing s ≡ too_long
unfolding listing
listing-long s h = simp (lt-leb (length s) 65536 h)

-- ---- what the bytes are known to be

-- a record of a form, with so many entries: it is what either form reads
pub record Reads (f : Form) (s : List ℕ) (n : ℕ) : Type 0 where
  pub whole : Whole f s n
  pub either_read : read_either s ≡ some whole.es

same-known : (f g : Form) (n m : ℕ) → known f n ≡ known g m → (f ≡ g) × (n ≡ m)
same-known f g n m e =
    let k : ◌≡◌ {A = Known} (record { form = f; entries = n }) (record { form = g; entries = m }) = cc in
    (ap (λ (x : Known). x.form) k, ap (λ (x : Known). x.entries) k)

pub known-record : (s : List ℕ) (f : Form) (n : ℕ) → known_in s ≡ known f n → Reads f s n
unfolding known_in
known-record s f n k = go (read_record form.Two s) (read_record form.One s) refl refl k
  where
    go : (two one : Option (List RecordEntry)) → read_record form.Two s ≡ two → read_record form.One s ≡ one
        → known_from two one ≡ known f n → Reads f s n
    go (some es) one p q r =
        let e = same-known form.Two f (length es) n r in
        subst (λ (x : Form). Reads x s n) e.0 (record { whole = record { es = es; read = p; counted = sym e.1 }; either_read = rw p refl })
    go none (some es) p q r =
        let e = same-known form.One f (length es) n r in
        subst (λ (x : Form). Reads x s n) e.0 (record {
          whole = record { es = es; read = q; counted = sym e.1 };
          either_read = rw (p, q) refl;
        })
    go none none p q r = let z : ◌≡◌ {A = ℕ} 0 1 = cc in absurd (omega arith)

known-damaged : (s : List ℕ) → known_in s ≡ None → read_either s ≡ none
unfolding known_in
known-damaged s k = go (read_record form.Two s) (read_record form.One s) k
  where
    go : (two one : Option (List RecordEntry)) → known_from two one ≡ None → either two one ≡ none
    go (some es) one r = let z : ◌≡◌ {A = ℕ} 0 1 = cc in absurd (omega arith)
    go none (some es) r = let z : ◌≡◌ {A = ℕ} 0 1 = cc in absurd (omega arith)
    go none none r = refl

pub listing-damaged : (s : List ℕ) → length s ≤ 65536 → known_in s ≡ None → listing s ≡ damaged
unfolding listing
listing-damaged s h k = simp (le-leb (length s) 65536 h) (ap listing_of (known-damaged s k))

pub listing-record : (s : List ℕ) (f : Form) (n : ℕ) → length s ≤ 65536 → known_in s ≡ known f n
    → listing s ≡ records ++ (field n newline ++ lines_in f s)
unfolding listing
listing-record s f n h k =
    let r = known-record s f n k in
    let l : lines_in f s ≡ lines 0 r.whole.es = ap lines_of r.whole.read in
    simp (le-leb (length s) 65536 h) (ap listing_of r.either_read
    ∙ ap (λ (m : ℕ). records ++ (field m newline ++ lines 0 r.whole.es)) (sym r.whole.counted)
    ∙ ap (λ (x : List ℕ). records ++ (field n newline ++ x)) (sym l))

most-of : (a b r : ℕ) (t : Bool) → accepted r ≡ cond t (accepted (a - b)) (refused 6) → r ≤ a
most-of a b r true q = let z : r ≡ a - b = ap (λ (x : Answer). x.value) q in omega arith
most-of a b r false q = let z : ◌≡◌ {A = ℕ} 0 6 = ap (λ (x : Answer). x.number) q in absurd (omega arith)

-- the listing starts inside the buffer
pub listed-most : (s out : List ℕ) (r : ℕ) → accepted r ≡ list_answer s out → r ≤ length out
unfolding list_answer
listed-most s out r q = most-of (length out) (length (listing s)) r (leb most (length out)) q

-- a buffer that is not too short gets a listing
pub listed-there : (s out : List ℕ) (o : std.Option ℕ) → 65536 ≤ length out → listed_answer o ≡ list_answer s out → IsSome o
unfolding list_answer
listed-there s out (Some r) h q = refl
listed-there s out None h q =
    let e : refused 6 ≡ accepted (length out - length (listing s)) = q ∙ simp (le-leb 65536 (length out) h) in
    let z : ◌≡◌ {A = ℕ} 6 0 = ap (λ (x : Answer). x.number) e in absurd (omega arith)
