-- From the answer of the frame reader to that of the C face: a refusal, and a frame that was read. Assumes nothing.
use mathlib.Core.Path.{◌≡◌, sym, ◌∙◌, subst}
use mathlib.Core.List.{List}
use Prim.Native.Nat.{ℕ, ◌≤◌}
use native.Mathlib.Omega.{arith}
use lib.IntN.{ℤ}
use Rattle.frame_answers.specs.Answers.{Given, told, refused_with}
use Rattle.frame_arithmetic.specs.Answers.{Judged, refused, Answers}
use Rattle.frame_arithmetic.specs.Sound.{Bounded}
use Rattle.frame_arithmetic.proofs.ArithmeticSteps.{answers-refused}
use Rattle.std.specs.Prelude.{Result}
use Rattle.refusals.specs.declared.Refusal.{Refusal}
use Rattle.frame_answers.specs.declared.Reading.{Reading}
use Rattle.silberlaus_frames.specs.Frames.{frame_given}
use Rattle.silberlaus_frames.specs.declared.SilberlausFrame.{SilberlausFrame}

-- the answer, both buffers and the bounds of a judgement
abbrev Answered : ℕ → SilberlausFrame → Judged → List ℤ → List ℤ → List ℕ → List ℕ → Type 0
Answered most o j lines lines' bits bits' =
    Answers (frame_given o) j lines lines' bits bits' × Bounded most (frame_given o) lines'

pub refusal :
    (most : ℕ) (j : Judged) (n : ℕ) (o : SilberlausFrame) (lines : List ℤ) (bits : List ℕ) → j ≡ refused n 0 → 1 ≤ n → (n ≡ 5 → ⊥)
    → frame_given o ≡ refused_with n 0 → Answered most o j lines lines bits bits
refusal most j n o lines bits e h k g = (
  answers-refused (frame_given o) j n 0 lines bits g e,
  rw g (record {
    symbols = λ z. absurd (omega arith);
    values = λ z. absurd (omega arith);
    cause_from = λ z. absurd (k z);
    cause_to = omega arith;
  }),
)

pub reading :
    (most : ℕ) (j k : Judged) (r : Result Reading Refusal) (o : SilberlausFrame) (lines lines' : List ℤ) (bits bits' : List ℕ) → k ≡ j
    → frame_given o ≡ told r → Answers (told r) k lines lines' bits bits' → Bounded most (told r) lines'
    → Answered most o j lines lines' bits bits'
reading most j k r o lines lines' bits bits' e g a b =
    let c = subst (λ (x : Given). Bounded most x lines') (sym g) b in
    rw (← e) (record { given = g ∙ a.given; lines = a.lines; bits = a.bits }, c)
