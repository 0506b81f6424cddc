-- What the code of unprotecting asks at its returns: the answer from the words corrected and the heading compared, and demand 3 of two
-- calls.
-- Assumes nothing.
use mathlib.Core.Path.{◌≡◌, refl, sym, ap, ◌∙◌}
use mathlib.Core.List.{List}
use Prim.Native.Nat.{ℕ, zero, suc, ◌≤◌}
use native.Mathlib.Omega.{arith}
use lib.ListN.{take}
use lib.Seq.{length-take-le}
use Rattle.laws.proofs.Tab.{below-take}
use Rattle.std.specs.Prelude.{Result, Ok, Err}
use Rattle.refusals.specs.declared.Refusal.{Refusal}
use Rattle.refusals.specs.declared.Refusal.TheVariants as refusal
use Rattle.slot_laws.specs.Sizes.{words, frame_size, data_size}
use Rattle.slot_laws.specs.Order.{request_swapped, Data}
use Rattle.slot_laws.specs.Slot.{slot_with}
use Rattle.slot_protection.specs.Protect.{Protects}
use Rattle.slot_laws.specs.Corrected.{Corrected, SomeBeyond}
use Rattle.slot_answers.specs.Answers.{Told, accepted_with, refused_with, told_of}
use Rattle.slot_answers.specs.declared.Reception.{Reception}
use Rattle.slot.specs.Unprotect.{Taken, Unprotects}
use Rattle.slot.specs.Demand.{Carried}
use Rattle.slot_laws.specs.Back.{rolled, request_in, rest_in, Matches, request_of, frame_of}
use Rattle.slot_repair.specs.Inner.{MendedTo}
use Rattle.slot_delivery.specs.Inner.{AcceptedFrom, IsAnswered}
use Rattle.slot_laws.proofs.Slot.{gathered, gathered-slot, request_from, frame_from, HashesMatch}
use Rattle.slot.proofs.Rule.{accepts, refuses}
use Rattle.slot.proofs.Demand.{demand-three}
use Rattle.slot_interleaving.proofs.PlaceSteps.{zeros-at}
use Rattle.slot_laws.proofs.ProtectSteps.{blanks}
use Rattle.slot_repair.proofs.ReceiveSteps.{corrected-slot, count-changes, bits-changes}

-- room for the data
pub data-blank : (size mode e : ℕ) → e ≡ data_size size mode → e ≤ 800 → Data size mode (take e blanks)
data-blank size mode e h l = record {
  long = length-take-le e blanks l ∙ h;
  below = below-take 16 e blanks (omega arith) (λ i. let z = zeros-at 800 i in omega arith);
}

-- the words corrected, the swap undone, the heading compared, the frame written or not
module _ (size mode : ℕ) (slot old new message : List ℕ) (count bits : ℕ) (taken : Taken size mode slot old)
    (corrected : MendedTo size mode slot message (words size) count bits) where
  back : gathered size mode (slot_with size mode message) ≡ message
  back = gathered-slot size mode message taken.range corrected.given

  hashes : HashesMatch size mode (slot_with size mode message) ≡ Matches size mode (request_swapped size mode message)
  unfolding HashesMatch
  hashes = ap (λ (s : List ℕ). Matches size mode (request_swapped size mode s)) back

  request-as : (q : ℕ) → q ≡ request_in size (request_swapped size mode message) → q ≡ request_from size mode (slot_with size mode message)
  unfolding request_from request_of
  request-as q f = f ∙ ap (λ (s : List ℕ). request_in size (request_swapped size mode s)) (sym back)

  frame-as : new ≡ rolled (frame_size size mode) (rest_in size mode (request_swapped size mode message))
      → new ≡ frame_from size mode (slot_with size mode message)
  unfolding frame_from frame_of
  frame-as g = g ∙ ap (λ (s : List ℕ). rolled (frame_size size mode) (rest_in size mode (request_swapped size mode s))) (sym back)

  slot-corrected : Corrected size mode slot (slot_with size mode message)
  slot-corrected = corrected-slot size mode slot message count bits taken.range corrected

  accepted-answer : (q n b : ℕ) → AcceptedFrom size mode (request_swapped size mode message) count bits new q n b
      → Unprotects size mode slot old new (accepted_with q n b)
  accepted-answer q n b d =
      rw (
        frame-as d.written.frame_is,
        request-as q d.request,
        d.counted ∙ count-changes size mode slot message count bits taken.range corrected,
        d.bits_counted ∙ bits-changes size mode slot message count bits taken.range corrected,
      )
      (accepts size mode slot old (slot_with size mode message) taken slot-corrected (rw hashes d.written.matching))

  -- the answer for the slot's data is the slot's
  pub answered : (r : Result Reception Refusal) → IsAnswered size mode message count bits old new r
      → Unprotects size mode slot old new (told_of r)
  answered (Ok r) d = accepted-answer r.request r.count r.bits d
  answered (Err refusal.Setting) d = absurd d
  answered (Err refusal.Length) d = absurd d
  answered (Err refusal.Beyond) d = absurd d
  answered (Err refusal.Foreign) d =
      rw d.kept (refuses size mode slot old (slot_with size mode message) taken slot-corrected (rw hashes d.foreign))
  answered (Err (refusal.BitError why)) d = absurd d
  answered (Err refusal.NoRoom) d = absurd d
  answered (Err refusal.NotRecord) d = absurd d
  answered (Err refusal.TooSmall) d = absurd d

-- a word beyond repair
pub beyond-answer : (size mode : ℕ) (slot old : List ℕ) → Taken size mode slot old → SomeBeyond size mode slot
    → Unprotects size mode slot old old (refused_with 3)
beyond-answer size mode slot old t b = record { taken = t; beyond = b; refused = record { kept = refl; nothing_else = refl } }

-- demand 3 follows from the two contracts
pub carried : (number size mode q : ℕ) (frame lent sent slot old new : List ℕ) (answer : Told) → Protects size mode q frame lent sent number
    → Unprotects size mode slot old new answer → Carried size mode q frame lent sent slot old new answer
carried zero size mode q frame lent sent slot old new answer p u s l k =
    demand-three size mode q frame lent sent slot old new answer p k u
carried (suc zero) size mode q frame lent sent slot old new answer p u s l k = absurd (p.unfit s)
carried (suc (suc zero)) size mode q frame lent sent slot old new answer p u s l k = absurd (p.unfit l)
carried (suc (suc (suc m))) size mode q frame lent sent slot old new answer p u s l k = absurd p
