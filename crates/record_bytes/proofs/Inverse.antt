-- Reading finds exactly the list of entries whose bytes a record is, as the form keeps them: `read-bytes` and `is_read` are the two
-- directions.
-- Assumes nothing.
use mathlib.Core.Path.{◌≡◌, refl, sym, ap, ◌∙◌, subst}
use mathlib.Core.Bool.{Bool, true, false, ◌&&◌, cond}
use mathlib.Core.Option.{Option, none, some}
use mathlib.Core.List.{List, [], ◌∷◌, ◌++◌, append_assoc, append-nil}
use Prim.Native.Nat.{ℕ, zero, suc, ◌+◌, ◌*◌, ◌-◌, ◌≤◌, ◌<◌}
use native.Mathlib.Nat.{add-sub_cancel}
use native.Mathlib.Omega.{arith}
use lib.Dec.{leb, eqb}
use lib.ListN.{length, take, drop, length-append, length-drop, take-append-drop}
use lib.Seq.{take_all, drop-drop}
use borrow.Author.Tests.{leb-true, le-leb, eqb-true, eq-eqb}
use Rattle.record_forms.specs.declared.Form.{Form}
use Rattle.record_forms.specs.Forms.{bits_size, mark_size, mark, trailer_size, end_size}
use Rattle.record_forms.proofs.Sizes.{bits_most, mark-fits}
use Rattle.record_bytes.specs.Layout.{
  RecordEntry,
  big,
  trailer_bytes,
  trailer,
  entry_bytes,
  entries_bytes,
  end_bytes,
  record_bytes,
  EntryInRange,
  AllInRange,
  IsRecord,
  held,
  held_all,
  most,
}
use Rattle.record_bytes.specs.Reading.{number, entry_before, then_read, read_back, may_be, read_record}
use Rattle.record_bytes.proofs.Numbers.{Bytes, number-big, big-number, length-big}
use Rattle.record_forms.proofs.Ranges.{and_left, and_right, in-range-of}
use Rattle.record_bytes.proofs.Before.{Before, before_of, before-bytes, before-held, before-entry}

-- ---- what does not depend on the form

pub length-one : (es : List RecordEntry) (e : RecordEntry) → length (es ++ (e ∷ [])) ≡ suc (length es)
length-one [] e = refl
length-one (x ∷ es) e = ap suc (length-one es e)

pub ranges-one : (es : List RecordEntry) (e : RecordEntry) → AllInRange es → EntryInRange e → AllInRange (es ++ (e ∷ []))
ranges-one [] e a r = (r, tt)
ranges-one (x ∷ es) e a r = (a.0, ranges-one es e a.1 r)

module _ (f : Form) where
  -- ---- lists of entries

  pub length-trailer : (q c b n : ℕ) → length (trailer_bytes f q c b n) ≡ trailer_size f
  unfolding trailer_bytes
  length-trailer q c b n =
      let k : length (big (bits_size f) b) ≡ bits_size f = length-big (bits_size f) b in
      let l : length (big 2 n) ≡ 2 = length-big 2 n in
      rw length-append (omega arith)

  pub length-entry : (e : RecordEntry) → length (entry_bytes f e) ≡ length e.frame + trailer_size f
  unfolding entry_bytes trailer
  length-entry e = length-append e.frame (trailer_bytes f e.request e.count e.bits (length e.frame))
      ∙ ap (λ (n : ℕ). length e.frame + n) (length-trailer e.request e.count e.bits (length e.frame))

  pub length-end : (n : ℕ) → length (end_bytes f n) ≡ end_size f
  unfolding end_bytes
  length-end n =
      let a : length (big 4 n) ≡ 4 = length-big 4 n in
      let b : length (big (mark_size f) (mark f)) ≡ mark_size f = length-big (mark_size f) (mark f) in
      rw length-append (omega arith)

  pub entries-append : (a b : List RecordEntry) → entries_bytes f (a ++ b) ≡ entries_bytes f a ++ entries_bytes f b
  unfolding entries_bytes
  entries-append [] b = refl
  entries-append (e ∷ a) b = ap (λ (l : List ℕ). entry_bytes f e ++ l) (entries-append a b)
      ∙ sym (append_assoc (entry_bytes f e) (entries_bytes f a) (entries_bytes f b))

  pub entries-one : (es : List RecordEntry) (e : RecordEntry) → entries_bytes f (es ++ (e ∷ [])) ≡ entries_bytes f es ++ entry_bytes f e
  unfolding entries_bytes
  entries-one es e = entries-append es (e ∷ []) ∙ ap (λ (l : List ℕ). entries_bytes f es ++ l) (append-nil (entry_bytes f e))

  pub count_most : (es : List RecordEntry) → length es ≤ length (entries_bytes f es)
  unfolding entries_bytes
  count_most [] = omega arith
  count_most (e ∷ es) =
      let h : length es ≤ length (entries_bytes f es) = count_most es in
      let l : length (entry_bytes f e) ≡ length e.frame + trailer_size f = length-entry e in
      rw length-append (omega arith)

  -- an entry has 20 to 400 bytes and its trailer
  pub entries-bounds : (es : List RecordEntry) → AllInRange es
      → (24 * length es ≤ length (entries_bytes f es)) × (length (entries_bytes f es) ≤ 406 * length es)
  unfolding entries_bytes
  entries-bounds [] a = (omega arith, omega arith)
  entries-bounds (e ∷ es) a =
      let h = entries-bounds es a.1 in
      let l : length (entry_bytes f e) ≡ length e.frame + trailer_size f = length-entry e in
      let r = in-range-of e.request e.count e.bits (length e.frame) a.0 in
      (rw length-append (omega (arith, h.0, r.2)), rw length-append (omega (arith, h.1, r.3, bits_most f)))

  pub length-record : (es : List RecordEntry) → length (record_bytes f es) ≡ length (entries_bytes f es) + end_size f
  unfolding record_bytes
  length-record es = length-append (entries_bytes f es) (end_bytes f (length es))
      ∙ ap (λ (n : ℕ). length (entries_bytes f es) + n) (length-end (length es))

  -- ---- what was written is read

  step_back : (s q : List ℕ) (es : List RecordEntry) (e : RecordEntry) (later : List RecordEntry)
      → s ≡ entries_bytes f es ++ (entry_bytes f e ++ q)
      → EntryInRange e
      → read_back f s (length (entries_bytes f (es ++ (e ∷ [])))) (length (es ++ (e ∷ []))) later
      ≡ read_back f s (length (entries_bytes f es)) (length es) (held f e ∷ later)
  unfolding read_back
  step_back s q es e later z r =
      let p : List ℕ = entries_bytes f es in
      let m : ℕ = length e.frame + trailer_size f in
      let l : length (entries_bytes f (es ++ (e ∷ []))) ≡ length p + m = ap length (entries-one es e) ∙ length-append p (entry_bytes f e)
      ∙ ap (λ (n : ℕ). length p + n) (length-entry e) in
      let g : entry_before f s (length p + m) ≡ some (held f e) =
      ap (λ (t : List ℕ). entry_before f t (length p + m)) z ∙ before-entry f p e q r in
      let d : length p + m - m ≡ length p = add-sub_cancel (length p) m in
      rw (l, length-one es e) (rw g (ap (λ (n : ℕ). read_back f s n (length es) (held f e ∷ later)) d))

  back-of : (s q : List ℕ) (newer older : List RecordEntry) (later : List RecordEntry) → s ≡ entries_bytes f (older ++ newer) ++ q
      → AllInRange newer
      → read_back f s (length (entries_bytes f (older ++ newer))) (length (older ++ newer)) later
      ≡ read_back f s (length (entries_bytes f older)) (length older) (held_all f newer ++ later)
  back-of s q [] older later z a =
      ap (λ (l : List RecordEntry). read_back f s (length (entries_bytes f l)) (length l) later) (append-nil older)
  back-of s q (e ∷ newer) older later z a =
      let j : older ++ (e ∷ newer) ≡ (older ++ (e ∷ [])) ++ newer = sym (append_assoc older (e ∷ []) newer) in
      let y : s ≡ entries_bytes f ((older ++ (e ∷ [])) ++ newer) ++ q = z ∙ ap (λ (l : List RecordEntry). entries_bytes f l ++ q) j in
      let x : s ≡ entries_bytes f older ++ (entry_bytes f e ++ (entries_bytes f newer ++ q)) =
      y ∙ ap (λ (l : List ℕ). l ++ q) (entries-append (older ++ (e ∷ [])) newer
      ∙ ap (λ (l : List ℕ). l ++ entries_bytes f newer) (entries-one older e))
      ∙ append_assoc (entries_bytes f older ++ entry_bytes f e) (entries_bytes f newer) q
      ∙ append_assoc (entries_bytes f older) (entry_bytes f e) (entries_bytes f newer ++ q) in
      ap (λ (l : List RecordEntry). read_back f s (length (entries_bytes f l)) (length l) later) j
      ∙ back-of s q newer (older ++ (e ∷ [])) later y a.1
      ∙ step_back s (entries_bytes f newer ++ q) older e (held_all f newer ++ later) x a.0

  arrived : (s : List ℕ) (later : List RecordEntry) → read_back f s (length (entries_bytes f [])) 0 later ≡ some later
  unfolding read_back entries_bytes
  arrived s later = refl

  -- the end of a record: its number and its mark
  pub end_read : (b : List ℕ) (n : ℕ) → n < 4294967296
      → (number (b ++ end_bytes f n) (length b) 4 ≡ n)
      × (number (b ++ end_bytes f n) (length b + 4) (mark_size f) ≡ mark f)
  unfolding end_bytes
  end_read b n h =
      let m : List ℕ = big (mark_size f) (mark f) in
      let l : length (b ++ big 4 n) ≡ length b + 4 = length-append b (big 4 n) ∙ ap (λ (k : ℕ). length b + k) (length-big 4 n) in
      let z : b ++ (big 4 n ++ m) ≡ (b ++ big 4 n) ++ (m ++ []) =
      sym (append_assoc b (big 4 n) m) ∙ ap (λ (x : List ℕ). (b ++ big 4 n) ++ x) (sym (append-nil m)) in (
        number-big 4 n b m (omega arith),
        ap (λ (x : List ℕ). number x (length b + 4) (mark_size f)) z
            ∙ ap (λ (i : ℕ). number ((b ++ big 4 n) ++ (m ++ [])) i (mark_size f)) (sym l)
            ∙ number-big (mark_size f) (mark f) (b ++ big 4 n) [] (mark-fits f),
      )

  pub may-be-record : (es : List RecordEntry) → length (record_bytes f es) ≤ most → may_be f (record_bytes f es) ≡ true
  unfolding may_be record_bytes
  may-be-record es h =
      let b : List ℕ = entries_bytes f es in
      let s : List ℕ = b ++ end_bytes f (length es) in
      let l : length s ≡ length b + end_size f = length-append b (end_bytes f (length es))
      ∙ ap (λ (k : ℕ). length b + k) (length-end (length es)) in
      let c : length es ≤ length b = count_most es in
      let e : length s - mark_size f ≡ length b + 4 = omega arith in
      let m : number s (length s - mark_size f) (mark_size f) ≡ mark f =
      ap (λ (i : ℕ). number s i (mark_size f)) e ∙ (end_read b (length es) (omega arith)).1 in
      simp (le-leb (end_size f) (length s) (omega arith), le-leb (length s) 65536 h, eq-eqb _ _ m)

  pub read-bytes : (es : List RecordEntry) → AllInRange es → length (record_bytes f es) ≤ most
      → read_record f (record_bytes f es) ≡ some (held_all f es)
  unfolding read_record record_bytes
  read-bytes es a h =
      let b : List ℕ = entries_bytes f es in
      let n : ℕ = length es in
      let s : List ℕ = b ++ end_bytes f n in
      let l : length s ≡ length b + end_size f = length-append b (end_bytes f n) ∙ ap (λ (k : ℕ). length b + k) (length-end n) in
      let e : length s - end_size f ≡ length b = omega arith in
      let c : n ≤ length b = count_most es in
      let t : number s (length b) 4 ≡ n = (end_read b n (omega arith)).0 in
      let w : read_back f s (length b) n [] ≡ some (held_all f es) =
      back-of s (end_bytes f n) es [] [] refl a ∙ arrived s (held_all f es ++ []) ∙ ap some (append-nil (held_all f es)) in
      rw (may-be-record es h) (rw (e, t) w)

  -- ---- what is read was written

  -- the entries that a walk from `end` back finds in front of the later ones
  record Earlier (s : List ℕ) (end n : ℕ) (later es : List RecordEntry) : Type 0 where
    earlier : List RecordEntry
    joined : es ≡ earlier ++ later
    bytes : take end s ≡ entries_bytes f earlier
    counted : length earlier ≡ n
    ranges : AllInRange earlier
    kept : held_all f earlier ≡ earlier

  earlier-none : (s : List ℕ) (end : ℕ) (later es : List RecordEntry) (b : Bool) → eqb end 0 ≡ b → cond b (some later) none ≡ some es
      → Earlier s end 0 later es
  unfolding entries_bytes
  earlier-none s end later es true q r =
      let z : end ≡ 0 = eqb-true end 0 q in
      record { earlier = []; joined = cc; bytes = ap (λ (n : ℕ). take n s) z; counted = refl; ranges = tt; kept = refl }
  earlier-none s end later es false q r = let z : ◌≡◌ {A = ℕ} 0 1 = cc in absurd (omega arith)

  pub held-append : (a b : List RecordEntry) → held_all f (a ++ b) ≡ held_all f a ++ held_all f b
  held-append [] b = refl
  held-append (x ∷ a) b = ap (λ (l : List RecordEntry). held f x ∷ l) (held-append a b)

  held_one : (es : List RecordEntry) (e : RecordEntry) → held_all f es ≡ es → held f e ≡ e → held_all f (es ++ (e ∷ [])) ≡ es ++ (e ∷ [])
  held_one es e h k = held-append es (e ∷ []) ∙ ap (λ (l : List RecordEntry). l ++ (held f e ∷ [])) h
      ∙ ap (λ (x : RecordEntry). es ++ (x ∷ [])) k

  earlier-one : (s : List ℕ) (n end : ℕ) (later es : List RecordEntry) (e : RecordEntry) → Bytes s → end ≤ length s → Before f s end e
      → Earlier s (end - (length e.frame + trailer_size f)) n (e ∷ later) es → Earlier s end (suc n) later es
  earlier-one s n end later es e b h w i =
      record {
        earlier = i.earlier ++ (e ∷ []);
        joined = i.joined ∙ sym (append_assoc i.earlier (e ∷ []) later);
        bytes = before-bytes f s end e b h w ∙ ap (λ (l : List ℕ). l ++ entry_bytes f e) i.bytes ∙ sym (entries-one i.earlier e);
        counted = length-one i.earlier e ∙ ap suc i.counted;
        ranges = ranges-one i.earlier e i.ranges w.ranges;
        kept = held_one i.earlier e i.kept (before-held f s end e w);
      }

  earlier_step : (s : List ℕ) (n end : ℕ) (later es : List RecordEntry) → Bytes s → end ≤ length s
      → ((e : RecordEntry) → read_back f s (end - (length e.frame + trailer_size f)) n (e ∷ later) ≡ some es
      → Earlier s (end - (length e.frame + trailer_size f)) n (e ∷ later) es)
      → (o : Option RecordEntry) → entry_before f s end ≡ o
      → then_read o (λ e. read_back f s (end - (length e.frame + trailer_size f)) n (e ∷ later)) ≡ some es → Earlier s end (suc n) later es
  earlier_step s n end later es b h k none q r = let z : ◌≡◌ {A = ℕ} 0 1 = cc in absurd (omega arith)
  earlier_step s n end later es b h k (some e) q r = earlier-one s n end later es e b h (before_of f s end e h q) (k e r)

  earlier-of : (s : List ℕ) → Bytes s → (n end : ℕ) (later es : List RecordEntry) → end ≤ length s → read_back f s end n later ≡ some es
      → Earlier s end n later es
  unfolding read_back
  earlier-of s b zero end later es h r = earlier-none s end later es (eqb end 0) refl r
  earlier-of s b (suc n) end later es h r =
      earlier_step s n end later es b h
      (λ e. earlier-of s b n (end - (length e.frame + trailer_size f)) (e ∷ later) es (omega arith)) (entry_before f s end) refl r

  -- the bytes behind the entries are the number and the mark
  end-stands : (s : List ℕ) (n : ℕ) → Bytes s → end_size f ≤ length s → number s (length s - end_size f) 4 ≡ n
      → number s (length s - mark_size f) (mark_size f) ≡ mark f → drop (length s - end_size f) s ≡ end_bytes f n
  unfolding end_bytes
  end-stands s n b h c m =
      let at : ℕ = length s - end_size f in
      let a4 : at + 4 ≡ length s - mark_size f = omega arith in
      let d : drop 4 (drop at s) ≡ drop (length s - mark_size f) s = drop-drop 4 at s ∙ ap (λ (i : ℕ). drop i s) a4 in
      let k : take 4 (drop at s) ≡ big 4 n = big-number 4 s at b (omega arith) ∙ ap (big 4) c in
      let t : drop (length s - mark_size f) s ≡ big (mark_size f) (mark f) =
      sym (take_all (mark_size f) (drop (length s - mark_size f) s) (simp length-drop (omega arith)))
      ∙ big-number (mark_size f) s (length s - mark_size f) b (omega arith) ∙ ap (big (mark_size f)) m in
      sym (take-append-drop 4 (drop at s)) ∙ rw (k, d, t) refl

  pub record Read (s : List ℕ) (es : List RecordEntry) : Type 0 where
    pub is : IsRecord f s es
    pub kept : held_all f es ≡ es

  is-read-sized : (s : List ℕ) (es : List RecordEntry) → Bytes s → may_be f s ≡ true
      → read_back f s (length s - end_size f) (number s (length s - end_size f) 4) [] ≡ some es → Read s es
  unfolding record_bytes may_be
  is-read-sized s es b m r =
      let at : ℕ = length s - end_size f in
      let z : Bool = leb (end_size f) (length s) && leb (length s) most in
      let y : Bool = eqb (number s (length s - mark_size f) (mark_size f)) (mark f) in
      let l = and_left z y m in
      let h : end_size f ≤ length s = leb-true (end_size f) (length s) (and_left (leb (end_size f) (length s)) (leb (length s) most) l) in
      let k : length s ≤ most = leb-true (length s) most (and_right (leb (end_size f) (length s)) (leb (length s) most) l) in
      let i : Earlier s at (number s at 4) [] es = earlier-of s b (number s at 4) at [] es (omega arith) r in
      let j : es ≡ i.earlier = i.joined ∙ append-nil i.earlier in
      let d : drop at s ≡ end_bytes f (length es) = end-stands s (length es) b h (sym (ap length j ∙ i.counted))
      (eqb-true _ _ (and_right z y m)) in
      record {
        is = record {
          bytes = sym (take-append-drop at s) ∙ ap (λ (x : List ℕ). x ++ drop at s) (i.bytes ∙ ap (entries_bytes f) (sym j))
              ∙ ap (λ (x : List ℕ). entries_bytes f es ++ x) d;
          ranges = subst AllInRange (sym j) i.ranges;
          size = k;
        };
        kept = subst (λ (x : List RecordEntry). held_all f x ≡ x) (sym j) i.kept;
      }

  pub is_read : (s : List ℕ) (es : List RecordEntry) → Bytes s → read_record f s ≡ some es → Read s es
  unfolding read_record
  is_read s es b r = go (may_be f s) refl r
    where
      go : (x : Bool) → may_be f s ≡ x
          → cond x (read_back f s (length s - end_size f) (number s (length s - end_size f) 4) []) none ≡ some es → Read s es
      go true m r = is-read-sized s es b m r
      go false m r = let z : ◌≡◌ {A = ℕ} 0 1 = cc in absurd (omega arith)
