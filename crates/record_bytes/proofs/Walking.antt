-- The walk over a record, place by place: what is known where the loop's test is reached, and what each way out answers.
-- Assumes nothing.
use mathlib.Core.Path.{◌≡◌, refl, sym, ap, ◌∙◌, subst}
use mathlib.Core.Bool.{Bool, true, false, ◌&&◌, cond, and-false}
use mathlib.Core.Option.{Option, none, some}
use mathlib.Core.List.{List, [], ◌∷◌}
use Prim.Native.Nat.{ℕ, zero, suc, ◌+◌, ◌*◌, ◌-◌, ◌≤◌, ◌<◌}
use native.Mathlib.Omega.{arith}
use lib.Dec.{leb, eqb, leb-zero}
use lib.ListN.{length, get_or, take, drop, length-drop}
use lib.Seq.{length-take-le}
use borrow.Author.Tests.{leb-true, leb-false, le-leb, lt-leb, eqb-true, eqb-false, ne_eqb}
use Rattle.record_forms.specs.declared.Form.{Form}
use Rattle.record_forms.specs.declared.Form.TheVariants as form
use Rattle.record_forms.specs.Forms.{mark_size, mark, trailer_size, end_size}
use Rattle.std.specs.Prelude.{Some, None}
use Rattle.record_bytes.specs.Layout.{RecordEntry, most}
use Rattle.record_forms.specs.Ranges.{in_range}
use Rattle.record_bytes.specs.Reading.{number, bits_at, entry_ending, may_end, entry_before, read_back, may_be, read_record}
use Rattle.record_bytes.specs.Located.{located, end_at}
use Rattle.record_bytes.specs.Steps.{step_of, whole, walk_of, Whole}
use Rattle.record_bytes.specs.declared.Located.{Located}
use Rattle.record_bytes.specs.declared.Walked.{Walked}
use Rattle.record_forms.proofs.Ranges.{and_left, and_right}
use Rattle.record_bytes.proofs.Before.{Before, before_of}

-- ---- one step

pub step-short : (f : Form) (s : List ℕ) (end : ℕ) → end < trailer_size f → step_of f (entry_before f s end) end ≡ None
unfolding entry_before may_end
step-short f s end h = simp (lt-leb (number s (end - 2) 2 + trailer_size f) end (omega arith))

module _ (f : Form) (s : List ℕ) (end at size : ℕ) (a : at + trailer_size f ≡ end) (z : size ≡ number s (end - 2) 2) where
  pub step-far : at < size → step_of f (entry_before f s end) end ≡ None
  unfolding entry_before may_end
  step-far h = rw (← z) (simp (lt-leb (size + trailer_size f) end (omega arith)))

  ends : end - trailer_size f ≡ at
  ends = omega arith

  pub step-out : in_range (get_or s at 0) (get_or s (at + 1) 0) (bits_at f s (at + 2)) size ≡ false
      → step_of f (entry_before f s end) end ≡ None
  unfolding entry_before may_end
  step-out r = rw (← z, ends) (simp (r, and-false))

  pub step-entry : end ≤ length s → size ≤ at → in_range (get_or s at 0) (get_or s (at + 1) 0) (bits_at f s (at + 2)) size ≡ true
      → step_of f (entry_before f s end) end ≡ Some
      (record { start = at - size; length = size; request = get_or s at 0; count = get_or s (at + 1) 0; bits = bits_at f s (at + 2) })
  unfolding entry_before may_end entry_ending
  step-entry h k r =
      let l : length (take size (drop (at - size) s)) ≡ size =
      length-take-le size (drop (at - size) s) (simp length-drop (omega arith)) in
      let e : end - (size + trailer_size f) ≡ at - size = omega arith in
      rw (← z, ends) (simp (le-leb (size + trailer_size f) end (omega arith), r, l, e))

-- ---- the mark, form by form

pub marked-one : (f : Form) (s : List ℕ) → f ≡ form.One → true ≡ eqb (number s (length s - mark_size f) (mark_size f)) (mark f)
unfolding number
marked-one f s e = rw e refl

pub marked-two : (f : Form) (s : List ℕ) → f ≡ form.Two
    → eqb (get_or s (length s - 1) 0) 2 ≡ eqb (number s (length s - mark_size f) (mark_size f)) (mark f)
unfolding number
marked-two f s e =
    let z : length s - 1 + 0 ≡ length s - 1 = omega arith in
    let n : get_or s (length s - 1) 0 ≡ 0 * 256 + get_or s (length s - 1) 0 = omega arith in
    rw (e, z) (ap (λ (x : ℕ). eqb x 2) n)

same_cond : (b : Bool) (x : ℕ) → x ≡ cond b x x
same_cond true x = refl
same_cond false x = refl

module _ (f : Form) where
  -- ---- the tests of the size and of the mark

  pub may-be-short : (s : List ℕ) → length s < end_size f → false ≡ may_be f s
  unfolding may_be
  may-be-short s h = simp (lt-leb (end_size f) (length s) h)

  pub may-be-long : (s : List ℕ) → most < length s → false ≡ may_be f s
  unfolding may_be
  may-be-long s h = simp (lt-leb (length s) 65536 h, and-false)

  pub may-be-marked : (s : List ℕ) → end_size f ≤ length s → length s ≤ most
      → eqb (number s (length s - mark_size f) (mark_size f)) (mark f) ≡ may_be f s
  unfolding may_be
  may-be-marked s h k = simp (le-leb (end_size f) (length s) h, le-leb (length s) 65536 k)

  pub may-be-sized : (s : List ℕ) → may_be f s ≡ true → (end_size f ≤ length s) × (length s ≤ most)
  unfolding may_be
  may-be-sized s m =
      let a = and_left (leb (end_size f) (length s) && leb (length s) most) _ m in (
        leb-true (end_size f) (length s) (and_left (leb (end_size f) (length s)) (leb (length s) most) a),
        leb-true (length s) most (and_right (leb (end_size f) (length s)) (leb (length s) most) a),
      )

  -- ---- reading on from a step

  module _ (s : List ℕ) (end left : ℕ) (later : List RecordEntry) where
    pub read-on : (e : RecordEntry) → entry_before f s end ≡ some e
        → read_back f s end (suc left) later ≡ read_back f s (end - (length e.frame + trailer_size f)) left (e ∷ later)
    unfolding read_back
    read-on e q = rw q refl

    pub read-no-more : entry_before f s end ≡ none → read_back f s end (suc left) later ≡ none
    unfolding read_back
    read-no-more q = rw q refl

  -- ---- the loop

  -- where the entry at `place` ends, if it is among the later ones, the first of which is at place `left` and starts at `end`
  abbrev pub noted : List RecordEntry → ℕ → ℕ → ℕ → ℕ
  noted later left place end = cond (leb left place) (end_at f later (place - left) end) 0

  -- entries up to `end` are left, and the later ones are read
  pub record Walking (s : List ℕ) (end left place n found : ℕ) : Type 0 where
    pub later : List RecordEntry
    pub rest : read_back f s end left later ≡ read_record f s
    pub counted : left + length later ≡ n
    pub seen : found ≡ noted later left place end

  pub walk-not : (s : List ℕ) (place : ℕ) → may_be f s ≡ false → walk_of f (read_record f s) place ≡ None
  unfolding read_record
  walk-not s place m = rw m refl

  pub walk_start : (s : List ℕ) (end n place : ℕ) → may_be f s ≡ true → end ≡ length s - end_size f → n ≡ number s end 4
      → Walking s end n place n 0
  unfolding read_record
  walk_start s end n place m e t =
      record {
        later = [];
        rest = rw m (rw (t, e) refl);
        counted = omega arith;
        seen = same_cond (leb n place) 0;
      }

  seen_next : (e : RecordEntry) (later : List RecordEntry) (left place start end found : ℕ) (x y : Bool) → eqb left place ≡ x
      → leb (suc left) place ≡ y
      → start + (length e.frame + trailer_size f) ≡ end → found ≡ cond y (end_at f later (place - suc left) end) 0
      → cond x end found ≡ noted (e ∷ later) left place start
  seen_next e later left place start end found true y p q t g =
      let z : left ≡ place = eqb-true left place p in
      let d : place - left ≡ 0 = omega arith in
      simp (le-leb left place (omega arith), d) (sym t)
  seen_next e later left place start end found false true p q t g =
      let z : suc left ≤ place = leb-true (suc left) place q in
      let d : place - left ≡ suc (place - suc left) = omega arith in
      simp (le-leb left place (omega arith), d, t) g
  seen_next e later left place start end found false false p q t g =
      let z : place < suc left = leb-false (suc left) place q in
      let y : (left ≡ place → ⊥) = eqb-false left place p in
      simp (lt-leb left place (omega arith)) g

  pub record Turned (s : List ℕ) (end left place n found : ℕ) (v : Located) : Type 0 where
    pub lower : v.start ≤ end
    pub walking : Walking s v.start left place n (cond (eqb left place) end found)

  turn-some : (s : List ℕ) (end left place n found : ℕ) (v : Located) → end ≤ length s → Walking s end (suc left) place n found
      → (o : Option RecordEntry) → entry_before f s end ≡ o → step_of f o end ≡ Some v → Turned s end left place n found v
  unfolding read_back
  turn-some s end left place n found v h w none q r = let z : ◌≡◌ {A = ℕ} 0 1 = cc in absurd (omega arith)
  turn-some s end left place n found v h w (some e) q r =
      let b : Before f s end e = before_of f s end e h q in
      let fits = b.fits in
      let is : v ≡ located e (end - (length e.frame + trailer_size f)) = cc in
      let st : v.start ≡ end - (length e.frame + trailer_size f) = ap (λ (x : Located). x.start) is in
      record {
        lower = omega arith;
        walking = record {
          later = e ∷ w.later;
          rest = rw st (sym (read-on s end left w.later e q) ∙ w.rest);
          counted = omega (arith, w.counted);
          seen = seen_next e w.later left place v.start end found (eqb left place) (leb (suc left) place) refl refl (omega arith)
              w.seen;
        };
      }

  pub turn : (s : List ℕ) (end left place n found : ℕ) (v : Located) → end ≤ length s → 0 < left → Walking s end left place n found
      → step_of f (entry_before f s end) end ≡ Some v → Turned s end (left - 1) place n found v
  turn s end zero place n found v h k w r = absurd (omega arith)
  turn s end (suc left) place n found v h k w r =
      let e : suc left - 1 ≡ left = omega arith in
      rw e (turn-some s end left place n found v h w (entry_before f s end) refl r)

  -- ---- the ways out

  stop-some : (s : List ℕ) (end left place n found : ℕ) → Walking s end (suc left) place n found
      → (o : Option RecordEntry) → entry_before f s end ≡ o → step_of f o end ≡ None
      → walk_of f (read_record f s) place ≡ None
  unfolding read_back
  stop-some s end left place n found w none q r =
      let z : none ≡ read_record f s = sym (read-no-more s end left w.later q) ∙ w.rest in
      rw (← z) refl
  stop-some s end left place n found w (some e) q r = cc

  pub walk-stop : (s : List ℕ) (end left place n found : ℕ) → 0 < left → Walking s end left place n found
      → step_of f (entry_before f s end) end ≡ None → walk_of f (read_record f s) place ≡ None
  walk-stop s end zero place n found k w r = absurd (omega arith)
  walk-stop s end (suc left) place n found k w r = stop-some s end left place n found w (entry_before f s end) refl r

  whole-at : (s : List ℕ) (place n found : ℕ) → Walking s 0 0 place n found
      → walk_of f (read_record f s) place ≡ whole n found
  unfolding read_back
  whole-at s place n found w =
      let c : length w.later ≡ n = omega (arith, w.counted) in
      let d : place - 0 ≡ place = omega arith in
      let g : found ≡ end_at f w.later place 0 = w.seen ∙ simp (leb-zero place, d) in
      let r : some w.later ≡ read_record f s = w.rest in
      rw (← r, g, c) refl

  pub walk-whole : (s : List ℕ) (end left place n found : ℕ) → end ≡ 0 → left ≡ 0 → Walking s end left place n found
      → walk_of f (read_record f s) place ≡ whole n found
  walk-whole s end left place n found e z w =
      whole-at s place n found (subst (λ (k : ℕ). Walking s 0 k place n found) z (subst (λ (k : ℕ). Walking s k left place n found) e w))

  pub walk-over : (s : List ℕ) (end left place n found : ℕ) → (end ≡ 0 → ⊥) → left ≡ 0 → Walking s end left place n found
      → walk_of f (read_record f s) place ≡ None
  unfolding read_back
  walk-over s end left place n found e z w =
      let r : read_back f s end 0 w.later ≡ read_record f s = ap (λ (k : ℕ). read_back f s end k w.later) (sym z) ∙ w.rest in
      rw (← r) (simp (ne_eqb end 0 e))

  -- ---- what the walk's answer says of what was read

  same-whole : (n end m stop : ℕ) → whole n end ≡ whole m stop → (n ≡ m) × (end ≡ stop)
  same-whole n end m stop e =
      let w : ◌≡◌ {A = Walked} (record { entries = n; end = end }) (record { entries = m; end = stop }) = cc in
      (ap (λ (x : Walked). x.entries) w, ap (λ (x : Walked). x.end) w)

  pub whole-read : (s : List ℕ) (place n v : ℕ) → walk_of f (read_record f s) place ≡ whole n v → Whole f s n
  whole-read s place n v w = go (read_record f s) refl w
    where
      go : (o : Option (List RecordEntry)) → read_record f s ≡ o → walk_of f o place ≡ whole n v → Whole f s n
      go none q r = let z : ◌≡◌ {A = ℕ} 0 1 = cc in absurd (omega arith)
      go (some es) q r = record { es = es; read = q; counted = (same-whole n v (length es) (end_at f es place 0) (sym r)).0 }

  pub none_read : (s : List ℕ) (place : ℕ) → walk_of f (read_record f s) place ≡ None → read_record f s ≡ none
  none_read s place w = go (read_record f s) refl w
    where
      go : (o : Option (List RecordEntry)) → read_record f s ≡ o → walk_of f o place ≡ None → read_record f s ≡ none
      go none q r = q
      go (some es) q r = let z : ◌≡◌ {A = ℕ} 0 1 = cc in absurd (omega arith)

  -- where the entry that was asked for ends
  pub whole-end : (s : List ℕ) (place n v : ℕ) (es : List RecordEntry) → read_record f s ≡ some es
      → walk_of f (read_record f s) place ≡ whole n v → v ≡ end_at f es place 0
  whole-end s place n v es q w =
      let t : walk_of f (some es) place ≡ whole n v = rw q at w in
      (same-whole n v (length es) (end_at f es place 0) (sym t)).1
