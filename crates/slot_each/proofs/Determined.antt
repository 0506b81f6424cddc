-- The promise of a batch determines its number and all five buffers (`each-only`); what is accepted a record can hold (`each-recordable`);
-- and demand 3 holds of every slot (`each-demand`). Assumes nothing.
use mathlib.Core.Path.{◌≡◌, refl, sym, ap, ap₂, ◌∙◌}
use mathlib.Core.List.{List}
use Prim.Native.Nat.{ℕ, zero, suc, ◌+◌, ◌*◌, ◌/◌, ◌%◌, ◌<◌}
use native.Mathlib.Omega.{arith}
use native.Mathlib.Nat.{div-add-mod', mod-lt, div-lt_iff_lt-mul}
use lib.ListN.{length, drop, get_or}
use lib.Seq.{get_or-take, get_or-drop}
use Rattle.laws.proofs.Tab.{tab-is, tab-same}
use Rattle.slot_laws.specs.Sizes.{frame_size}
use Rattle.slot_laws.proofs.Sizes.{frame-bounds}
use Rattle.slot_protection.specs.Protect.{Protects}
use Rattle.slot_answers.specs.Answers.{Told}
use Rattle.slot.specs.Unprotect.{Recordable}
use Rattle.slot.specs.Demand.{DemandThree}
use Rattle.slot.proofs.Rule.{SameAnswer, verdict-only}
use Rattle.slot.proofs.Bounds.{recordable}
use Rattle.slot.proofs.Demand.{demand-three}
use Rattle.slot_each.specs.Each.{Five, five, place_at, told_at, UnprotectsEach, IsGiven}
use Rattle.slot_each.proofs.EachSteps.{PlacePart, part-is, part-long}

-- ---- lists that are the same

-- two lists of one length with the same elements
entries-same : (l m : List ℕ) (n : ℕ) → length l ≡ n → length m ≡ n → ((j : ℕ) → j < n → get_or l j 0 ≡ get_or m j 0) → l ≡ m
entries-same l m n a b e =
    sym (tab-is (λ j. get_or l j 0) n l a (λ i h. refl))
    ∙ tab-same (λ j. get_or l j 0) (λ j. get_or m j 0) n e
    ∙ tab-is (λ j. get_or m j 0) n m b (λ i h. refl)

-- an element by its place
at_place : (f j r : ℕ) (l : List ℕ) → r < f → get_or (place_at f j l) r 0 ≡ get_or l (j * f + r) 0
unfolding place_at
at_place f j r l h = get_or-take f (drop (j * f) l) r 0 h ∙ get_or-drop (j * f) l r 0

-- .. with the same places
places_same : (l m : List ℕ) (n f : ℕ) → 0 < f → length l ≡ n * f → length m ≡ n * f
    → ((j : ℕ) → j < n → place_at f j l ≡ place_at f j m) → l ≡ m
places_same l m n f p a b e = entries-same l m (n * f) a b same
  where
    same : (k : ℕ) → k < n * f → get_or l k 0 ≡ get_or m k 0
    same k h =
        let d = div-add-mod' k f in
        let r = mod-lt k p in
        let j : k / f < n = (div-lt_iff_lt-mul p).1 h in
        ap (λ (x : ℕ). get_or l x 0) (sym d)
        ∙ sym (at_place f (k / f) (k % f) l r)
        ∙ ap (λ (x : List ℕ). get_or x (k % f) 0) (e (k / f) j)
        ∙ at_place f (k / f) (k % f) m r
        ∙ ap (λ (x : ℕ). get_or m x 0) d

five-same : (a b : Five) → a.numbers ≡ b.numbers → a.requests ≡ b.requests → a.counts ≡ b.counts → a.bits ≡ b.bits
    → a.frames ≡ b.frames → a ≡ b
five-same a b e f g h i =
    ap₂ (λ (x y : List ℕ). five x y a.counts a.bits a.frames) e f
    ∙ ap₂ (λ (x y : List ℕ). five b.numbers b.requests x y a.frames) g h
    ∙ ap (five b.numbers b.requests b.counts b.bits) i

-- ---- the promise determines the answer

module _ (size mode : ℕ) (slots : List ℕ) (old new new' : Five) (u : IsGiven size mode slots old new) (v : IsGiven size mode slots old new')
  where
    answer_at : (j : ℕ) → j < length old.numbers
        → SameAnswer (place_at (frame_size size mode) j new.frames) (place_at (frame_size size mode) j new'.frames) (told_at new j)
        (told_at new' j)
    answer_at j l = verdict-only size mode (place_at size j slots) _ _ _ (told_at new j) (told_at new' j) (u.each j l) (v.each j l)

    given-same : new ≡ new'
    given-same =
        let n = length old.numbers in
        let p = frame-bounds size mode u.range in
        let a = u.as_many in
        let b = v.as_many in
        five-same new new'
        (entries-same new.numbers new'.numbers n a b (λ j l. ap (λ (t : Told). t.number) (answer_at j l).answer_same))
        (entries-same new.requests new'.requests n (u.left.requests_fit ∙ a) (v.left.requests_fit ∙ b)
        (λ j l. ap (λ (t : Told). t.request) (answer_at j l).answer_same))
        (entries-same new.counts new'.counts n (u.left.counts_fit ∙ a) (v.left.counts_fit ∙ b)
        (λ j l. ap (λ (t : Told). t.count) (answer_at j l).answer_same))
        (entries-same new.bits new'.bits n (u.left.bits_fit ∙ a) (v.left.bits_fit ∙ b)
        (λ j l. ap (λ (t : Told). t.bits) (answer_at j l).answer_same))
        (places_same new.frames new'.frames n (frame_size size mode) (omega (arith, p.0))
        (u.left.frames_fit ∙ ap (λ (x : ℕ). x * frame_size size mode) a) (v.left.frames_fit ∙ ap (λ (x : ℕ). x * frame_size size mode) b)
        (λ j l. (answer_at j l).frame_same))

-- two calls that keep the promise answer the same number and leave the same five buffers
pub each-only : (size mode : ℕ) (slots : List ℕ) (old new new' : Five) (k l : ℕ) → UnprotectsEach size mode slots old new k
    → UnprotectsEach size mode slots old new' l → (k ≡ l) × (new ≡ new')
each-only size mode slots old new new' zero zero u v = (refl, given-same size mode slots old new new' u v)
each-only size mode slots old new new' zero (suc zero) u v = absurd (v.unfit u.range)
each-only size mode slots old new new' zero (suc (suc zero)) u v = absurd (v.unfit u.lent)
each-only size mode slots old new new' zero (suc (suc (suc l))) u v = absurd v
each-only size mode slots old new new' (suc zero) zero u v = absurd (u.unfit v.range)
each-only size mode slots old new new' (suc zero) (suc zero) u v = (refl, u.kept ∙ sym v.kept)
each-only size mode slots old new new' (suc zero) (suc (suc zero)) u v = absurd (u.unfit v.range)
each-only size mode slots old new new' (suc zero) (suc (suc (suc l))) u v = absurd v
each-only size mode slots old new new' (suc (suc zero)) zero u v = absurd (u.unfit v.lent)
each-only size mode slots old new new' (suc (suc zero)) (suc zero) u v = absurd (v.unfit u.range)
each-only size mode slots old new new' (suc (suc zero)) (suc (suc zero)) u v = (refl, u.kept ∙ sym v.kept)
each-only size mode slots old new new' (suc (suc zero)) (suc (suc (suc l))) u v = absurd v
each-only size mode slots old new new' (suc (suc (suc k))) l u v = absurd u

-- ---- of every slot

module _ (size mode : ℕ) (slots : List ℕ) (old new : Five) (given : IsGiven size mode slots old new) (j : ℕ)
    (inside : j < length old.numbers) where
  -- what is accepted a record can hold
  pub each-recordable : Recordable (told_at new j) (place_at (frame_size size mode) j new.frames)
  each-recordable = recordable size mode (place_at size j slots) _ _ (told_at new j) (given.each j inside)

  place-long : (f : ℕ) (l : List ℕ) → length l ≡ length old.numbers * f → length (place_at f j l) ≡ f
  place-long f l e =
      let part : PlacePart f j (j * f) (j * f + f) (length old.numbers) = record { start = refl; end = refl; inside = inside } in
      ap (λ (x : List ℕ). length x) (sym (part-is part l e)) ∙ part-long part l e

  -- demand 3, of a frame that protecting put into the slot that came as slot j
  pub each-demand : (q : ℕ) (frame lent sent : List ℕ) → Protects size mode q frame lent sent 0
      → DemandThree size mode q frame sent (place_at size j slots) (place_at (frame_size size mode) j new.frames) (told_at new j)
  each-demand q frame lent sent p =
      demand-three size mode q frame lent sent (place_at size j slots) (place_at (frame_size size mode) j old.frames) _ (told_at new j) p
      (record {
        frame_long = place-long (frame_size size mode) old.frames given.lent.frames_fit;
        slot_long = place-long size slots given.lent.slots_fit;
      })
      (given.each j inside)
