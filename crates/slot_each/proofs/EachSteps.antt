-- The loop over the slots of a batch: the slot and the frame's place of each turn, and what a turn leaves. Assumes nothing.
use mathlib.Core.Path.{◌≡◌, refl, sym, ap, ◌∙◌, subst}
use mathlib.Core.Bool.{Bool, true, false}
use mathlib.Core.List.{List, ◌++◌}
use Prim.Native.Nat.{ℕ, suc, ◌+◌, ◌-◌, ◌*◌, ◌≤◌, ◌<◌}
use native.Mathlib.Omega.{arith}
use native.Mathlib.Nat.{mul-le-mul_right}
use lib.Dec.{eqb}
use lib.ListN.{length, take, drop, get_or, set, length-set, length-drop, take-append-drop}
use lib.Seq.{length-take-le, take_at, drop_at, drop-drop, take-append-le, drop-append-le, get_or-set_same, get_or-set_other}
use borrow.Author.Tests.{eqb-true, eqb-false}
use borrow.Rule.Slice.PartMut.{mid_of, put_mid, same_len_mid, drop_put}
use Rattle.slot_laws.specs.Sizes.{InRange, frame_size}
use Rattle.std.specs.Prelude.{Result, Ok, Err}
use Rattle.std.specs.Result.{result_unwrap_or}
use Rattle.refusals.specs.declared.Refusal.{Refusal}
use Rattle.refusals.specs.Numbers.{number_of}
use Rattle.slot_answers.specs.declared.Reception.{Reception}
use Rattle.slot_answers.specs.Answers.{Told, told_of}
use Rattle.slot.specs.Unprotect.{Unprotects}
use Rattle.slot.proofs.Rule.{told_same}
use Rattle.slot_each.specs.Each.{Five, five, place_at, told_at, Fits, UnprotectsAt, IsGiven}
use Rattle.slot_each.specs.Inner.{EachTo}

-- the part from at to e - 1 is place i of n bytes each, and there is one
pub record PlacePart (n i at e many : ℕ) : Type 0 where
  pub start : at ≡ i * n
  pub end : e ≡ at + n
  pub inside : i < many

module _ {n i at e many : ℕ} (part : PlacePart n i at e many) where
  pub part_end : e ≤ many * n
  part_end =
      let m = mul-le-mul_right {m = suc i} {n = many} n part.inside in
      let d : suc i * n ≡ i * n + n = omega arith in
      omega (arith, part.start, part.end)

  pub next_place : e ≡ (i + 1) * n
  next_place = omega (arith, part.start, part.end)

  module _ (s : List ℕ) (long : length s ≡ many * n) where
    pub part-is : mid_of at (e - at) s ≡ place_at n i s
    unfolding place_at
    part-is =
        let k : e - at ≡ n = omega (arith, part.end) in
        ap (λ (x : ℕ). take x (drop at s)) k ∙ ap (λ (x : ℕ). take n (drop x s)) part.start

    pub part-long : length (mid_of at (e - at) s) ≡ n
    part-long =
        let d = length-drop at s in
        length-take-le (e - at) (drop at s) (omega (arith, part_end, part.end, long)) ∙ omega (arith, part.end)

    front_long : length (take at s) ≡ at
    front_long = length-take-le at s (omega (arith, part_end, part.end, long))

    module _ (last : List ℕ) (last-long : length last ≡ n) where
      pub put-long : length (put_mid at (e - at) s last) ≡ length s
      put-long = same_len_mid at (e - at) s last (last-long ∙ sym part-long)

      pub put-here : place_at n i (put_mid at (e - at) s last) ≡ last
      unfolding place_at
      put-here =
          ap (λ (x : ℕ). take n (drop x (put_mid at (e - at) s last))) (sym part.start)
          ∙ ap (take n) (drop_at (take at s) (last ++ drop (e - at) (drop at s)) at front_long)
          ∙ take_at last (drop (e - at) (drop at s)) n last-long

      -- the places before stay
      pub put-before : (j : ℕ) → j < i → place_at n j (put_mid at (e - at) s last) ≡ place_at n j s
      unfolding place_at
      put-before j l =
          front (last ++ drop (e - at) (drop at s)) ∙ sym (front (drop at s))
          ∙ ap (λ (x : List ℕ). take n (drop (j * n) x)) (take-append-drop at s)
        where
          within : j * n + n ≤ at
          within =
              let m = mul-le-mul_right {m = suc j} {n = i} n l in
              let d : suc j * n ≡ j * n + n = omega arith in
              omega (arith, part.start)

          front : (rest : List ℕ) → take n (drop (j * n) (take at s ++ rest)) ≡ take n (drop (j * n) (take at s))
          front rest =
              let d = length-drop (j * n) (take at s) in
              ap (take n) (drop-append-le (j * n) (take at s) rest (omega (arith, within, front_long)))
              ∙ take-append-le n (drop (j * n) (take at s)) rest (omega (arith, within, front_long))

      -- .. and so does what lies behind
      pub put-behind : drop e (put_mid at (e - at) s last) ≡ drop e s
      put-behind = drop_put at e s last (omega (arith, part.end)) (omega (arith, part_end, long)) (last-long ∙ omega (arith, part.end))

-- ---- the turns

-- the number and what is told beside it are the answer's: zeros where it is refused
pub record Tells (number : ℕ) (told : Reception) (answer : Told) : Type 0 where
  pub number_is : number ≡ answer.number
  pub request : told.request ≡ answer.request
  pub count : told.count ≡ answer.count
  pub bits : told.bits ≡ answer.bits

pub tells : (r : Result Reception Refusal) (number : ℕ) (told : Reception) → number ≡ number_of r
    → told ≡ result_unwrap_or r (record { request = 0; count = 0; bits = 0 }) → Tells number told (told_of r)
tells (Ok found) number told n e = record {
  number_is = n;
  request = ap (λ (t : Reception). t.request) e;
  count = ap (λ (t : Reception). t.count) e;
  bits = ap (λ (t : Reception). t.bits) e;
}
tells (Err why) number told n e = record {
  number_is = n;
  request = ap (λ (t : Reception). t.request) e;
  count = ap (λ (t : Reception). t.count) e;
  bits = ap (λ (t : Reception). t.bits) e;
}

-- the five buffers after a turn
abbrev pub turned : Five → ℕ → ℕ → Reception → List ℕ → Five
turned b i number told frames =
    five (set b.numbers i number) (set b.requests i told.request) (set b.counts i told.count) (set b.bits i told.bits) frames

-- an entry that is written, and the others
entry_here : (l : List ℕ) (i v w n : ℕ) → length l ≡ n → i < n → v ≡ w → get_or (set l i v) i 0 ≡ w
entry_here l i v w n e h k = get_or-set_same l i v 0 (omega arith) ∙ k

module _ (size mode i at e : ℕ) (slots : List ℕ) (old new : Five) (so_far : EachTo size mode i slots old new)
    (part : PlacePart (frame_size size mode) i at e (length new.numbers)) (last : List ℕ) (last-long : length last ≡ frame_size size mode)
    (answer : Told) (number : ℕ) (told : Reception) (told_is : Tells number told answer)
    (slot place : List ℕ) (slot_is : slot ≡ place_at size i slots)
    (place_is : place ≡ place_at (frame_size size mode) i new.frames) (unprotects : Unprotects size mode slot place last answer) where
  abbrev after : Five
  after = turned new i number told (put_mid at (e - at) new.frames last)

  abbrev f : ℕ
  f = frame_size size mode

  fit : Fits size mode slots new
  fit = so_far.left

  told_here : told_at after i ≡ answer
  told_here =
      told_same (told_at after i) answer
      (entry_here new.numbers i number _ _ refl part.inside told_is.number_is)
      (entry_here new.requests i told.request _ _ fit.requests_fit part.inside told_is.request)
      (entry_here new.counts i told.count _ _ fit.counts_fit part.inside told_is.count)
      (entry_here new.bits i told.bits _ _ fit.bits_fit part.inside told_is.bits)

  told-before : (j : ℕ) → (j ≡ i → ⊥) → told_at after j ≡ told_at new j
  told-before j d =
      told_same (told_at after j) (told_at new j)
      (get_or-set_other new.numbers i j number 0 d) (get_or-set_other new.requests i j told.request 0 d)
      (get_or-set_other new.counts i j told.count 0 d) (get_or-set_other new.bits i j told.bits 0 d)

  -- this frame's place is still as lent
  as_lent : place_at f i new.frames ≡ place_at f i old.frames
  unfolding place_at
  as_lent = ap (take f) so_far.rest

  here : UnprotectsAt size mode slots old after i
  here =
      subst (λ (a : Told). Unprotects size mode (place_at size i slots) (place_at f i old.frames) (place_at f i after.frames) a)
      (sym told_here)
      (subst (λ (l : List ℕ). Unprotects size mode (place_at size i slots) (place_at f i old.frames) l answer)
      (sym (put-here part new.frames fit.frames_fit last last-long))
      (subst (λ (l : List ℕ). Unprotects size mode (place_at size i slots) l last answer) (place_is ∙ as_lent)
      (subst (λ (l : List ℕ). Unprotects size mode l place last answer) slot_is unprotects)))

  before : (j : ℕ) → j < i → (j ≡ i → ⊥) → UnprotectsAt size mode slots old after j
  before j l d =
      subst (λ (a : Told). Unprotects size mode (place_at size j slots) (place_at f j old.frames) (place_at f j after.frames) a)
      (sym (told-before j d))
      (subst (λ (x : List ℕ). Unprotects size mode (place_at size j slots) (place_at f j old.frames) x (told_at new j))
      (sym (put-before part new.frames fit.frames_fit last last-long j l))
      (so_far.each j l))

  as_many : length after.numbers ≡ length new.numbers
  as_many = length-set new.numbers i number

  fit-after : Fits size mode slots after
  fit-after = record {
    slots_fit = fit.slots_fit ∙ ap (λ (x : ℕ). x * size) (sym as_many);
    requests_fit = length-set new.requests i told.request ∙ fit.requests_fit ∙ sym as_many;
    counts_fit = length-set new.counts i told.count ∙ fit.counts_fit ∙ sym as_many;
    bits_fit = length-set new.bits i told.bits ∙ fit.bits_fit ∙ sym as_many;
    frames_fit =
        put-long part new.frames fit.frames_fit last last-long ∙ fit.frames_fit ∙ ap (λ (x : ℕ). x * f) (sym as_many);
  }

  behind : drop ((i + 1) * f) after.frames ≡ drop ((i + 1) * f) old.frames
  behind =
      let n : (i + 1) * f ≡ e = sym (next_place part) in
      let m : e ≡ i * f + f = omega (arith, part.start, part.end) in
      ap (λ (x : ℕ). drop x after.frames) n
      ∙ put-behind part new.frames fit.frames_fit last last-long
      ∙ ap (λ (x : ℕ). drop x new.frames) m
      ∙ sym (drop-drop f (i * f) new.frames)
      ∙ ap (drop f) so_far.rest
      ∙ drop-drop f (i * f) old.frames
      ∙ ap (λ (x : ℕ). drop x old.frames) (sym (n ∙ m))

  pub each_next : EachTo size mode (i + 1) slots old after
  each_next = record {
    left = fit-after;
    as_many = as_many ∙ so_far.as_many;
    each = λ j l. go j l (eqb j i) refl;
    rest = behind;
  }
    where
      go : (j : ℕ) → j < i + 1 → (b : Bool) → eqb j i ≡ b → UnprotectsAt size mode slots old after j
      go j l true t = rw (eqb-true j i t) here
      go j l false t = let d : (j ≡ i → ⊥) = eqb-false j i t in before j (omega arith) d

-- every slot has its answer
pub all-given : (size mode : ℕ) (slots : List ℕ) (old new : Five) → InRange size mode → Fits size mode slots old
    → EachTo size mode (length old.numbers) slots old new → IsGiven size mode slots old new
all-given size mode slots old new r l e = record { range = r; lent = l; left = e.left; as_many = e.as_many; each = e.each }
