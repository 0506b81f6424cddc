-- From what the walk finds to what the public functions answer, case by case. Assumes nothing.
use mathlib.Core.Path.{◌≡◌, refl, sym, ap, ◌∙◌, subst}
use mathlib.Core.Bool.{Bool, true, false, cond}
use mathlib.Core.Option.{Option, none, some}
use mathlib.Core.List.{List, [], ◌∷◌, ◌++◌, append_assoc}
use Prim.Native.Nat.{ℕ, zero, suc, ◌+◌, ◌-◌, ◌≤◌, ◌<◌}
use native.Mathlib.Omega.{arith}
use lib.Dec.{eqb, ltb}
use lib.ListN.{length, take, drop, length-append}
use lib.Seq.{take_at, drop_at}
use borrow.Author.Tests.{le-leb, lt-leb, lt-ltb, le-ltb, ltb-true, ltb-false}
use Rattle.record_forms.specs.declared.Form.{Form}
use Rattle.record_forms.specs.declared.Form.TheVariants as form
use Rattle.refusals.specs.Numbers.{refusal_number}
use Rattle.refusals.specs.declared.Refusal.{Refusal}
use Rattle.refusals.specs.declared.Refusal.TheVariants as refusal
use Rattle.record_forms.specs.Forms.{trailer_size, end_size, which_form}
use Rattle.std.specs.Prelude.{Some, None, Result, Ok, Err}
use Rattle.std.specs.Prelude as std
use Rattle.std.specs.Option.{ok_or, IsSome}
use Rattle.record_bytes.specs.Layout.{RecordEntry, trailer, entry_bytes, entries_bytes, end_bytes, record_bytes, AllInRange, IsRecord}
use Rattle.record_bytes.specs.Reading.{entry_before, read_record}
use Rattle.record_bytes.specs.Located.{located, nowhere, locate}
use Rattle.record_bytes.specs.Answers.{accepted, refused, EntryAnswer, unfound, value_answer, found_answer}
use Rattle.record.specs.Answers.{
  in_form,
  new_number,
  new_buffer,
  entries_of,
  entries_in,
  entries_answer,
  entry_of,
  entry_in,
  entry_answer,
  frame_at,
  frame_of,
  frame_in,
  frame_part,
}
use Rattle.record_bytes.specs.Steps.{step_of, whole, walk_of, put}
use Rattle.record_bytes.specs.declared.Located.{Located}
use Rattle.record_bytes.proofs.Numbers.{Bytes}
use Rattle.record_forms.proofs.Ranges.{in-range-of}
use Rattle.record_bytes.proofs.Inverse.{length-entry, length-end, is_read}
use Rattle.record_bytes.proofs.Walking.{whole-read, whole-end, none_read}
use Rattle.record_bytes.proofs.Standing.{place_found, place-there, place_inside}

-- the frame x stands where v says
pub record FrameStands (s : List ℕ) (v : Located) (x : List ℕ) : Type 0 where
  pub bytes : take v.length (drop v.start s) ≡ x
  pub within : v.start + v.length ≤ length s

-- ---- what `ok_or` was given

pub none_given : {T : Type 0} (o : std.Option T) (why x : Refusal) → Err x ≡ ok_or o why → (o ≡ None) × (x ≡ why)
none_given None why x e = (refl, cc)
none_given (Some v) why x e = cc

pub some_given : {T : Type 0} (o : std.Option T) (why : Refusal) (v : T) → Ok v ≡ ok_or o why → o ≡ Some v
some_given None why v e = cc
some_given (Some u) why v e = cc

-- ---- the form that a number names

module _ (form : ℕ) (f : Form) (is : which_form form ≡ Ok f) where
  pub entries-in : (s : List ℕ) → entries_in f s ≡ entries_answer form s
  unfolding entries_answer
  entries-in s = rw is refl

  pub entry_in-is : (s : List ℕ) (place : ℕ) → entry_in f s place ≡ entry_answer form s place
  unfolding entry_answer
  entry_in-is s place = rw is refl

  pub frame-in : (s : List ℕ) (place : ℕ) → frame_in f s place ≡ frame_part form s place
  unfolding frame_part
  frame-in s place = rw is refl

  pub new-short : (d : List ℕ) → length d < end_size f → (6 ≡ new_number form d) × (d ≡ new_buffer form d)
  unfolding new_number new_buffer
  new-short d h = (rw is (simp (lt-leb (end_size f) (length d) h)), rw is (simp (lt-leb (end_size f) (length d) h)))

  pub new-made : (d t : List ℕ) → end_size f ≤ length d → t ≡ end_bytes f 0
      → (0 ≡ new_number form d) × (put d 0 t ≡ new_buffer form d)
  unfolding new_number new_buffer put record_bytes entries_bytes
  new-made d t h e =
      let z : length t ≡ end_size f = ap length e ∙ length-end f 0 in
      let l : 0 + length t ≡ end_size f = omega arith in
      let p : put d 0 t ≡ record_bytes f [] ++ drop (end_size f) d = ap (λ (k : ℕ). t ++ drop k d) l
      ∙ ap (λ (x : List ℕ). x ++ drop (end_size f) d) e in
      (rw is (simp (le-leb (end_size f) (length d) h)), p ∙ rw is (simp (le-leb (end_size f) (length d) h)))

-- no refusal has the number 0
numbered : (why : Refusal) → refusal_number why ≡ suc (refusal_number why - 1)
numbered refusal.Setting = refl
numbered refusal.Length = refl
numbered refusal.Beyond = refl
numbered refusal.Foreign = refl
numbered (refusal.BitError cause) = refl
numbered refusal.NoRoom = refl
numbered refusal.NotRecord = refl
numbered refusal.TooSmall = refl

-- a number that names no form is out of range
pub no_form : (n : ℕ) (why : Refusal) → which_form n ≡ Err why → why ≡ refusal.Setting
unfolding which_form
no_form n why bad = go (eqb n 1) (eqb n 2) bad
  where
    go : (a b : Bool) → cond a (Ok form.One) (cond b (Ok form.Two) (Err refusal.Setting)) ≡ Err why → why ≡ refusal.Setting
    go true b e = cc
    go false true e = cc
    go false false e = cc

module _ (form : ℕ) (why : Refusal) (bad : which_form form ≡ Err why) where
  pub entries-no : (s : List ℕ) → value_answer (Err why) ≡ entries_answer form s
  unfolding entries_answer
  entries-no s = rw (bad, no_form form why bad) refl

  pub entry-no : (s : List ℕ) (place : ℕ) → found_answer (Err why) ≡ entry_answer form s place
  unfolding entry_answer
  entry-no s place = rw (bad, no_form form why bad) refl

  pub new-no : (d : List ℕ) → (refusal_number why ≡ new_number form d) × (d ≡ new_buffer form d)
  unfolding new_number new_buffer
  new-no d = (rw (bad, no_form form why bad) refl, rw bad refl)

module _ (f : Form) where
  -- ---- the number of entries

  pub counted : (s : List ℕ) (place n v : ℕ) → walk_of f (read_record f s) place ≡ whole n v → accepted n ≡ entries_in f s
  unfolding entries_in
  counted s place n v w =
      let k = whole-read f s place n v w in
      ap accepted k.counted ∙ sym (ap entries_of k.read)

  pub uncounted : (s : List ℕ) (place : ℕ) → walk_of f (read_record f s) place ≡ None → refused 7 ≡ entries_in f s
  unfolding entries_in
  uncounted s place w = sym (ap entries_of (none_read f s place w))

  -- ---- an entry by place

  locate-past : (es : List RecordEntry) (place start : ℕ) → length es ≤ place → nowhere ≡ locate f es place start
  locate-past [] place start h = refl
  locate-past (e ∷ es) zero start h = absurd (omega arith)
  locate-past (e ∷ es) (suc place) start h = locate-past es place (start + (length e.frame + trailer_size f)) (omega arith)

  abbrev answer : ℕ → Located → EntryAnswer
  answer n v = record { number = n; entry = v }

  module _ (s : List ℕ) (place n end : ℕ) (b : Bytes s) (w : walk_of f (read_record f s) place ≡ whole n end) where
    -- the step from the place that the walk noted finds the entry
    pub found : (v : Located) → place < n → step_of f (entry_before f s end) end ≡ Some v → answer 0 v ≡ entry_in f s place
    unfolding entry_in
    found v h q =
        let k = whole-read f s place n end w in
        let z = whole-end f s place n end k.es k.read w in
        let c = k.counted in
        let l : v ≡ locate f k.es place 0 = place_found f s k.es (is_read f s k.es b k.read) place (omega arith) v
        (subst (λ (i : ℕ). step_of f (entry_before f s i) i ≡ Some v) z q) in
        rw k.read (simp (lt-ltb place (length k.es) (omega arith), l))

    pub found-there : place < n → (o : std.Option Located) → o ≡ step_of f (entry_before f s end) end → IsSome o
    found-there h o q =
        let k = whole-read f s place n end w in
        let z = whole-end f s place n end k.es k.read w in
        let c = k.counted in
        place-there f s k.es (is_read f s k.es b k.read) place (omega arith) o
        (subst (λ (i : ℕ). o ≡ step_of f (entry_before f s i) i) z q)

    pub found_inside : place < n → (end ≤ length s) × (length s ≤ 65536)
    found_inside h =
        let k = whole-read f s place n end w in
        let r = is_read f s k.es b k.read in
        let c = k.counted in
        let z = whole-end f s place n end k.es k.read w in
        (omega (arith, place_inside f s k.es r place (omega arith)), r.is.size)

    pub past : n ≤ place → unfound 1 ≡ entry_in f s place
    unfolding entry_in
    past h =
        let k = whole-read f s place n end w in
        let c = k.counted in
        rw k.read (simp (le-ltb place (length k.es) (omega arith), ← locate-past k.es place 0 (omega arith)))

  pub no_record : (s : List ℕ) (place : ℕ) → walk_of f (read_record f s) place ≡ None → unfound 7 ≡ entry_in f s place
  unfolding entry_in
  no_record s place w = sym (ap (λ (o : Option (List RecordEntry)). entry_of f o place) (none_read f s place w))

  -- ---- an entry's frame as a part of the record

  frame-first : (e : RecordEntry) (start : ℕ) (p q : List ℕ) → length p ≡ start
      → FrameStands (p ++ (entry_bytes f e ++ q)) (located e start) e.frame
  unfolding entry_bytes
  frame-first e start p q h =
      let a : (e.frame ++ trailer f e) ++ q ≡ e.frame ++ (trailer f e ++ q) = append_assoc e.frame (trailer f e) q in
      let l : length (p ++ (e.frame ++ (trailer f e ++ q))) ≡ length p + (length e.frame + length (trailer f e ++ q)) =
      length-append p (e.frame ++ (trailer f e ++ q)) ∙ ap (λ (n : ℕ). length p + n) (length-append e.frame (trailer f e ++ q)) in
      rw a (record {
        bytes = ap (take (length e.frame)) (drop_at p (e.frame ++ (trailer f e ++ q)) start h)
            ∙ take_at e.frame (trailer f e ++ q) (length e.frame) refl;
        within = omega arith;
      })

  located-frame : (es : List RecordEntry) (place start : ℕ) (p q : List ℕ) → length p ≡ start → place < length es
      → FrameStands (p ++ (entries_bytes f es ++ q)) (locate f es place start) (frame_at es place)
  unfolding entries_bytes
  located-frame [] place start p q h k = absurd (omega arith)
  located-frame (e ∷ es) zero start p q h k = rw (append_assoc (entry_bytes f e) (entries_bytes f es) q)
      (frame-first e start p (entries_bytes f es ++ q) h)
  located-frame (e ∷ es) (suc place) start p q h k =
      let z : p ++ ((entry_bytes f e ++ entries_bytes f es) ++ q) ≡ (p ++ entry_bytes f e) ++ (entries_bytes f es ++ q) =
      ap (λ (l : List ℕ). p ++ l) (append_assoc (entry_bytes f e) (entries_bytes f es) q)
      ∙ sym (append_assoc p (entry_bytes f e) (entries_bytes f es ++ q)) in
      let m : ℕ = length e.frame + trailer_size f in
      let l : length (p ++ entry_bytes f e) ≡ start + m =
      length-append p (entry_bytes f e) ∙ ap (λ (n : ℕ). length p + n) (length-entry f e) ∙ ap (λ (n : ℕ). n + m) h in
      rw z (located-frame es place (start + m) (p ++ entry_bytes f e) q l (omega arith))

  number_of : {a b : EntryAnswer} → a ≡ b → a.number ≡ b.number
  number_of e = ap (λ (x : EntryAnswer). x.number) e

  found-frame : (s : List ℕ) (place : ℕ) (v : Located) (es : List RecordEntry) (b : Bool) → ltb place (length es) ≡ b
      → ◌≡◌ {A = ℕ} (cond b 0 1) 0 → locate f es place 0 ≡ v → IsRecord f s es
      → FrameStands s v (frame_at es place)
  unfolding record_bytes
  found-frame s place v es true t n l r =
      let i : FrameStands (entries_bytes f es ++ end_bytes f (length es)) (locate f es place 0) (frame_at es place) =
      located-frame es place 0 [] (end_bytes f (length es)) refl (ltb-true place (length es) t) in
      rw (r.bytes, ← l) i
  found-frame s place v es false t n l r = absurd (omega arith)

  frame-of : (s : List ℕ) (place : ℕ) (v : Located) → Bytes s → (o : Option (List RecordEntry)) → read_record f s ≡ o
      → answer 0 v ≡ entry_of f o place → FrameStands s v (frame_of o place)
  frame-of s place v b none q r = let z : ◌≡◌ {A = ℕ} 0 7 = number_of r in absurd (omega arith)
  frame-of s place v b (some es) q r =
      found-frame s place v es (ltb place (length es)) refl (sym (number_of r)) (sym (ap (λ (x : EntryAnswer). x.entry) r))
      (is_read f s es b q).is

  found_in : (s : List ℕ) (place : ℕ) (v : Located) → Bytes s → answer 0 v ≡ entry_in f s place → FrameStands s v (frame_in f s place)
  unfolding entry_in frame_in
  found_in s place v b r = frame-of s place v b (read_record f s) refl r

  pub frame_past : (es : List RecordEntry) (place : ℕ) → length es ≤ place → [] ≡ frame_at es place
  frame_past [] place h = refl
  frame_past (e ∷ es) zero h = absurd (omega arith)
  frame_past (e ∷ es) (suc place) h = frame_past es place (omega arith)

  past-frame : (es : List RecordEntry) (place n : ℕ) (b : Bool) → ltb place (length es) ≡ b → suc n ≡ cond b 0 1 → [] ≡ frame_at es place
  past-frame es place n true t z = absurd (omega arith)
  past-frame es place n false t z = frame_past es place (ltb-false place (length es) t)

  frame-not-of : (o : Option (List RecordEntry)) (place n : ℕ) → unfound (suc n) ≡ entry_of f o place → [] ≡ frame_of o place
  frame-not-of none place n r = refl
  frame-not-of (some es) place n r = past-frame es place n (ltb place (length es)) refl (number_of r)

  unfound-in : (s : List ℕ) (place n : ℕ) → unfound (suc n) ≡ entry_in f s place → [] ≡ frame_in f s place
  unfolding entry_in frame_in
  unfound-in s = frame-not-of (read_record f s)

  -- ---- an entry's frame for the frame reader

  frame-ranged : (es : List RecordEntry) (place : ℕ) → AllInRange es → place < length es
      → (20 ≤ length (frame_at es place)) × (length (frame_at es place) ≤ 400)
  frame-ranged [] place r h = absurd (omega arith)
  frame-ranged (e ∷ es) zero r h = let k = in-range-of e.request e.count e.bits (length e.frame) r.0 in (k.2, k.3)
  frame-ranged (e ∷ es) (suc place) r h = frame-ranged es place r.1 (omega arith)

  -- the frame of an entry that is there has 20 to 400 bytes
  pub frame-sized : (s : List ℕ) (es : List RecordEntry) (place : ℕ) → Bytes s → read_record f s ≡ some es → place < length es
      → (20 ≤ length (frame_at es place)) × (length (frame_at es place) ≤ 400)
  frame-sized s es place b q h = frame-ranged es place (is_read f s es b q).is.ranges h

  -- where there is no frame, no entry is there: `entry` refuses
  missing-of : (s : List ℕ) (place : ℕ) → Bytes s → (o : Option (List RecordEntry)) → read_record f s ≡ o
      → length (frame_of o place) ≡ 0 → 1 ≤ (entry_of f o place).number
  missing-of s place b none q z = omega arith
  missing-of s place b (some es) q z = go (ltb place (length es)) refl
    where
      go : (x : Bool) → ltb place (length es) ≡ x → 1 ≤ cond x 0 1
      go true t = let k = frame-sized s es place b q (ltb-true place (length es) t) in absurd (omega (arith, k.0, z))
      go false t = omega arith

  missing-in : (s : List ℕ) (place : ℕ) → Bytes s → length (frame_in f s place) ≡ 0 → 1 ≤ (entry_in f s place).number
  unfolding entry_in frame_in
  missing-in s place b z = missing-of s place b (read_record f s) refl z

-- ---- the same over the number that names a form

module _ (form : ℕ) (s : List ℕ) (place : ℕ) where
  pub frame_found : (v : Located) → Bytes s → record { number = 0; entry = v } ≡ entry_answer form s place
      → FrameStands s v (frame_part form s place)
  unfolding entry_answer frame_part
  frame_found v b r = go (which_form form) r
    where
      go : (w : Result Form Refusal) → record { number = 0; entry = v } ≡ in_form w (unfound 1) (λ f. entry_in f s place)
          → FrameStands s v (in_form w [] (λ f. frame_in f s place))
      go (Ok f) r = found_in f s place v b r
      go (Err why) r = let z : ◌≡◌ {A = ℕ} 0 1 = ap (λ (x : EntryAnswer). x.number) r in absurd (omega arith)

  -- where `entry` refuses there is no frame
  frame-unfound : (n : ℕ) → unfound (suc n) ≡ entry_answer form s place → [] ≡ frame_part form s place
  unfolding entry_answer frame_part
  frame-unfound n r = go (which_form form) r
    where
      go : (w : Result Form Refusal) → unfound (suc n) ≡ in_form w (unfound 1) (λ f. entry_in f s place)
          → [] ≡ in_form w [] (λ f. frame_in f s place)
      go (Ok f) r = unfound-in f s place n r
      go (Err why) r = refl

  pub frame-none : (why : Refusal) → found_answer (Err why) ≡ entry_answer form s place → [] ≡ frame_part form s place
  frame-none why r =
      let k : refusal_number why ≡ suc (refusal_number why - 1) = numbered why in
      frame-unfound (refusal_number why - 1) (ap unfound (sym k) ∙ r)

  -- where there is no frame, no entry is there: `entry` refuses
  pub frame-missing : Bytes s → length (frame_part form s place) ≡ 0 → 1 ≤ (entry_answer form s place).number
  unfolding entry_answer frame_part
  frame-missing b z = go (which_form form) z
    where
      go : (w : Result Form Refusal) → length (in_form w [] (λ f. frame_in f s place)) ≡ 0
          → 1 ≤ (in_form w (unfound 1) (λ f. entry_in f s place)).number
      go (Ok f) z = missing-in f s place b z
      go (Err why) z = omega arith
