-- The walk back over a record whose entries are known: where it stands, and what the step from there finds. Assumes nothing.
use mathlib.Core.Path.{◌≡◌, refl, sym, ap, ◌∙◌, subst}
use mathlib.Core.Option.{Option, some}
use mathlib.Core.List.{List, [], ◌∷◌, ◌++◌, append_assoc, append-nil, head-eq_of_cons-eq, tail-eq_of_cons-eq}
use Prim.Native.Nat.{ℕ, zero, suc, ◌+◌, ◌-◌, ◌≤◌, ◌<◌}
use native.Mathlib.Nat.{add_assoc}
use native.Mathlib.Omega.{arith}
use lib.ListN.{length, take, drop, length-append}
use lib.Seq.{take_at, drop_at}
use Rattle.record_forms.specs.declared.Form.{Form}
use Rattle.record_forms.specs.Forms.{trailer_size, end_size}
use Rattle.std.specs.Prelude.{Some, None}
use Rattle.std.specs.Prelude as std
use Rattle.std.specs.Option.{IsSome}
use Rattle.record_bytes.specs.declared.Located.{Located}
use Rattle.record_bytes.specs.Layout.{
  RecordEntry,
  entry_bytes,
  entries_bytes,
  end_bytes,
  record_bytes,
  EntryInRange,
  AllInRange,
  held,
  held_all,
}
use Rattle.record_bytes.specs.Reading.{entry_before}
use Rattle.record_bytes.specs.Located.{located, locate, end_at}
use Rattle.record_bytes.specs.Steps.{step_of}
use Rattle.record_bytes.proofs.Before.{before-entry}
use Rattle.record_bytes.proofs.Inverse.{length-entry, length-record, length-one, entries-append, entries-one, Read}

-- a list that is not empty has a last entry
record Last (l : List RecordEntry) : Type 0 where
  front : List RecordEntry
  last : RecordEntry
  joined : l ≡ front ++ (last ∷ [])

last_of : (l : List RecordEntry) → 0 < length l → Last l
last_of [] h = absurd (omega arith)
last_of (x ∷ []) h = record { front = []; last = x; joined = refl }
last_of (x ∷ (y ∷ l)) h =
    let t = last_of (y ∷ l) (omega arith) in
    record { front = x ∷ t.front; last = t.last; joined = ap (λ (z : List RecordEntry). x ∷ z) t.joined }

empty : (l : List RecordEntry) → 0 ≡ length l → l ≡ []
empty [] h = refl
empty (x ∷ l) h = absurd (omega arith)

ranged-at : (a : List RecordEntry) (e : RecordEntry) (b : List RecordEntry) → AllInRange (a ++ (e ∷ b)) → EntryInRange e
ranged-at [] e b r = r.0
ranged-at (x ∷ a) e b r = ranged-at a e b r.1

-- a list with an entry at a place
record Split (l : List RecordEntry) (k : ℕ) : Type 0 where
  front : List RecordEntry
  at : RecordEntry
  back : List RecordEntry
  joined : l ≡ front ++ (at ∷ back)
  long : length front ≡ k

split : (l : List RecordEntry) (k : ℕ) → k < length l → Split l k
split [] k h = absurd (omega arith)
split (x ∷ l) zero h = record { front = []; at = x; back = l; joined = refl; long = refl }
split (x ∷ l) (suc k) h =
    let t = split l k (omega arith) in
    record {
      front = x ∷ t.front;
      at = t.at;
      back = t.back;
      joined = ap (λ (z : List RecordEntry). x ∷ z) t.joined;
      long = ap suc t.long;
    }

module _ (f : Form) where
  -- where an entry stands, behind those before it
  pub locate-at : (a : List RecordEntry) (e : RecordEntry) (b : List RecordEntry) (start : ℕ)
      → locate f (a ++ (e ∷ b)) (length a) start ≡ located e (start + length (entries_bytes f a))
  unfolding entries_bytes
  locate-at [] e b start =
      let z : start ≡ start + 0 = omega arith in
      ap (located e) z
  locate-at (x ∷ a) e b start =
      let m : ℕ = length x.frame + trailer_size f in
      let l : length (entry_bytes f x) ≡ m = length-entry f x in
      let z : start + m + length (entries_bytes f a) ≡ start + length (entry_bytes f x ++ entries_bytes f a) =
      rw (length-append, l) (add_assoc start m (length (entries_bytes f a))) in
      locate-at a e b (start + m) ∙ ap (located e) z

  end-at : (a : List RecordEntry) (e : RecordEntry) (b : List RecordEntry) (start : ℕ)
      → end_at f (a ++ (e ∷ b)) (length a) start ≡ start + length (entries_bytes f (a ++ (e ∷ [])))
  unfolding entries_bytes
  end-at [] e b start =
      let l : length (entry_bytes f e ++ []) ≡ length e.frame + trailer_size f =
      ap length (append-nil (entry_bytes f e)) ∙ length-entry f e in
      ap (λ (n : ℕ). start + n) (sym l)
  end-at (x ∷ a) e b start =
      let m : ℕ = length x.frame + trailer_size f in
      let r : List ℕ = entries_bytes f (a ++ (e ∷ [])) in
      let l : length (entry_bytes f x) ≡ m = length-entry f x in
      let z : start + m + length r ≡ start + length (entry_bytes f x ++ r) = rw (length-append, l) (add_assoc start m (length r)) in
      end-at a e b (start + m) ∙ z

  held_at : (a : List RecordEntry) (e : RecordEntry) (b : List RecordEntry) → held_all f (a ++ (e ∷ b)) ≡ a ++ (e ∷ b) → held f e ≡ e
  held_at [] e b h = head-eq_of_cons-eq h
  held_at (x ∷ a) e b h = held_at a e b (tail-eq_of_cons-eq h)

  module _ (s : List ℕ) (es : List RecordEntry) (r : Read f s es) where
    -- the walk stands before the later entries, at `end`, with `left` entries to go
    pub record Standing (end left : ℕ) (later : List RecordEntry) : Type 0 where
      pub earlier : List RecordEntry
      pub joined : es ≡ earlier ++ later
      pub ends : end ≡ length (entries_bytes f earlier)
      pub counted : left ≡ length earlier

    pub standing-start : (n : ℕ) → n ≡ length es → Standing (length s - end_size f) n []
    standing-start n c =
        let l : length s ≡ length (entries_bytes f es) + end_size f = ap length r.is.bytes ∙ length-record f es in
        record { earlier = es; joined = sym (append-nil es); ends = omega arith; counted = c }

    pub standing-done : (end : ℕ) (later : List RecordEntry) → Standing end 0 later → later ≡ es
    standing-done end later w = sym (w.joined ∙ ap (λ (l : List RecordEntry). l ++ later) (empty w.earlier w.counted))

    -- what stands before a place where entries are left
    pub record Next (end left : ℕ) (later : List RecordEntry) : Type 0 where
      pub before : List RecordEntry
      pub entry : RecordEntry
      pub rest : List ℕ
      pub joined : es ≡ before ++ (entry ∷ later)
      pub bytes : s ≡ entries_bytes f before ++ (entry_bytes f entry ++ rest)
      pub ends : end ≡ length (entries_bytes f before) + (length entry.frame + trailer_size f)
      pub counted : left ≡ suc (length before)
      pub ranges : EntryInRange entry
      pub found : entry_before f s end ≡ some entry

    record-at : (a : List RecordEntry) (e : RecordEntry) (b : List RecordEntry) → es ≡ a ++ (e ∷ b)
        → (rest : List ℕ) × (s ≡ entries_bytes f a ++ (entry_bytes f e ++ rest))
    unfolding record_bytes entries_bytes
    record-at a e b j = (
      entries_bytes f b ++ end_bytes f (length es),
      r.is.bytes ∙ ap (λ (l : List RecordEntry). entries_bytes f l ++ end_bytes f (length es)) j
          ∙ ap (λ (l : List ℕ). l ++ end_bytes f (length es)) (entries-append f a (e ∷ b))
          ∙ append_assoc (entries_bytes f a) (entry_bytes f e ++ entries_bytes f b) (end_bytes f (length es))
          ∙ ap (λ (l : List ℕ). entries_bytes f a ++ l) (append_assoc (entry_bytes f e) (entries_bytes f b) (end_bytes f (length es))),
    )

    pub next : (end left : ℕ) (later : List RecordEntry) → Standing end left later → 0 < left → Next end left later
    next end left later w h =
        let t = last_of w.earlier (omega (arith, w.counted)) in
        let a = t.front in
        let e = t.last in
        let j : es ≡ a ++ (e ∷ later) =
        w.joined ∙ ap (λ (l : List RecordEntry). l ++ later) t.joined ∙ append_assoc a (e ∷ []) later in
        let b = record-at a e later j in
        let x : end ≡ length (entries_bytes f a) + (length e.frame + trailer_size f) =
        w.ends ∙ ap (λ (l : List RecordEntry). length (entries_bytes f l)) t.joined ∙ ap length (entries-one f a e)
        ∙ length-append (entries_bytes f a) (entry_bytes f e) ∙ ap (λ (n : ℕ). length (entries_bytes f a) + n) (length-entry f e) in
        let g : EntryInRange e = ranged-at a e later (subst AllInRange j r.is.ranges) in
        let k : held f e ≡ e = held_at a e later (subst (λ (l : List RecordEntry). held_all f l ≡ l) j r.kept) in
        record {
          before = a;
          entry = e;
          rest = b.0;
          joined = j;
          bytes = b.1;
          ends = x;
          counted = w.counted ∙ ap length t.joined ∙ length-one a e;
          ranges = g;
          found = ap (entry_before f s) x
              ∙ ap (λ (l : List ℕ). entry_before f l (length (entries_bytes f a) + (length e.frame + trailer_size f))) b.1
              ∙ before-entry f (entries_bytes f a) e b.0 g ∙ ap some k;
        }

    module _ (end left : ℕ) (later : List RecordEntry) (n : Next end left later) where
      -- the step finds the entry, at its start
      pub next-found : (v : Located) → step_of f (entry_before f s end) end ≡ Some v
          → v ≡ located n.entry (length (entries_bytes f n.before))
      next-found v q =
          let e : end - (length n.entry.frame + trailer_size f) ≡ length (entries_bytes f n.before) = omega (arith, n.ends) in
          let p : Some (located n.entry (end - (length n.entry.frame + trailer_size f))) ≡ Some v =
          ap (λ (o : Option RecordEntry). step_of f o end) (sym n.found) ∙ q in
          let is : v ≡ located n.entry (end - (length n.entry.frame + trailer_size f)) = cc in
          is ∙ ap (located n.entry) e

      pub next-there : (o : std.Option Located) → o ≡ step_of f (entry_before f s end) end → IsSome o
      next-there (Some v) q = refl
      next-there None q =
          let p : Some (located n.entry (end - (length n.entry.frame + trailer_size f))) ≡ None =
          ap (λ (o : Option RecordEntry). step_of f o end) (sym n.found) ∙ sym q in cc

      -- and the walk goes on before it
      pub next-standing : Standing (length (entries_bytes f n.before)) (left - 1) (n.entry ∷ later)
      next-standing = record { earlier = n.before; joined = n.joined; ends = refl; counted = omega (arith, n.counted) }

      pub next-long : length s ≡ length (entries_bytes f n.before) + (length n.entry.frame + trailer_size f + length n.rest)
      next-long = ap length n.bytes ∙ length-append (entries_bytes f n.before) (entry_bytes f n.entry ++ n.rest)
          ∙ ap (λ (k : ℕ). length (entries_bytes f n.before) + k) (length-append (entry_bytes f n.entry) n.rest
          ∙ ap (λ (k : ℕ). k + length n.rest) (length-entry f n.entry))

      -- where its bytes stand
      pub next-bytes : (k : ℕ) (x y : List ℕ) → entry_bytes f n.entry ≡ x ++ y → length x ≡ k
          → take k (drop (length (entries_bytes f n.before)) s) ≡ x
      next-bytes k x y e l =
          let p : List ℕ = entries_bytes f n.before in
          let z : s ≡ p ++ (x ++ (y ++ n.rest)) = n.bytes
          ∙ ap (λ (t : List ℕ). p ++ t) (ap (λ (t : List ℕ). t ++ n.rest) e ∙ append_assoc x y n.rest) in
          ap (λ (t : List ℕ). take k (drop (length p) t)) z ∙ ap (take k) (drop_at p (x ++ (y ++ n.rest)) (length p) refl)
          ∙ take_at x (y ++ n.rest) k l

    -- ---- the entry at a place

    -- what ends where the entry at a place ends
    record There (place : ℕ) : Type 0 where
      later : List RecordEntry
      there : Next (end_at f es place 0) (suc place) later

    there-at : (place : ℕ) → place < length es → There place
    there-at place h =
        let t = split es place h in
        let z : 0 + length (entries_bytes f (t.front ++ (t.at ∷ []))) ≡ length (entries_bytes f (t.front ++ (t.at ∷ []))) = omega arith in
        let e : end_at f es place 0 ≡ length (entries_bytes f (t.front ++ (t.at ∷ []))) =
        ap (λ (l : List RecordEntry). end_at f l place 0) t.joined
        ∙ ap (λ (k : ℕ). end_at f (t.front ++ (t.at ∷ t.back)) k 0) (sym t.long) ∙ end-at t.front t.at t.back 0 ∙ z in
        let w : Standing (end_at f es place 0) (suc place) t.back = record {
          earlier = t.front ++ (t.at ∷ []);
          joined = t.joined ∙ sym (append_assoc t.front (t.at ∷ []) t.back);
          ends = e;
          counted = sym (length-one t.front t.at ∙ ap suc t.long);
        } in
        record { later = t.back; there = next (end_at f es place 0) (suc place) t.back w (omega arith) }

    module _ (place : ℕ) (h : place < length es) where
      -- the step from there finds the entry at the place
      pub place_found : (v : Located) → step_of f (entry_before f s (end_at f es place 0)) (end_at f es place 0) ≡ Some v
          → v ≡ locate f es place 0
      place_found v q =
          let t = there-at place h in
          let n = t.there in
          let c : length n.before ≡ place = omega (arith, n.counted) in
          let z : length (entries_bytes f n.before) ≡ 0 + length (entries_bytes f n.before) = omega arith in
          next-found (end_at f es place 0) (suc place) t.later n v q ∙ ap (located n.entry) z
          ∙ sym (locate-at n.before n.entry t.later 0) ∙ ap (λ (k : ℕ). locate f (n.before ++ (n.entry ∷ t.later)) k 0) c
          ∙ ap (λ (l : List RecordEntry). locate f l place 0) (sym n.joined)

      pub place-there : (o : std.Option Located) → o ≡ step_of f (entry_before f s (end_at f es place 0)) (end_at f es place 0) → IsSome o
      place-there o q = let t = there-at place h in next-there (end_at f es place 0) (suc place) t.later t.there o q

      pub place_inside : end_at f es place 0 ≤ length s
      place_inside =
          let t = there-at place h in
          omega (arith, t.there.ends, next-long (end_at f es place 0) (suc place) t.later t.there)
