-- `writer::write_and_read` meets its contract: what was written reads back. Assumes nothing.
use mathlib.Core.Path.{refl, subst}
use mathlib.Core.List.{List}
use Prim.Native.Nat.{ℕ}
use lib.ListN.{length}
use Rattle.frame.specs.Frame.{judged_of}
use Rattle.frame_answers.specs.Answers.{told}
use Rattle.frame_arithmetic.specs.Answers.{Answers}
use Rattle.writer_laws.specs.Writing.{Given, given}
use Rattle.writer.specs.Writer.{Outcome, written_of}
use Rattle.writer.proofs.Outcomes.{returned}
use Rattle.writer.proofs.write_and_read.Goals as goal

pub returns : goal.returns
returns c = let a = c.args in
    let g : Given = given a.fields a.tns_coefficients_0 a.tns_coefficients_1 a.spectrum.now a.residual.now in
    let o : Outcome = written_of a.khz a.duration (length a.frame.now) g in
    let f = c.read.ensures.answers in
    let h = subst (λ (s : List ℕ). Answers (told c.read.result)
    (judged_of a.khz a.duration s (length a.lines.now) (length a.bits.now))
    a.lines.now c.read.new.spectrum a.bits.now c.read.new.residual) c.write.ensures.bytes f in
    record {
      frame_after = c.write.ensures.bytes;
      answers = f;
      returned = returned a.khz a.duration _ g a.frame.now o _ _ _ _ _ refl c.write.ensures.back h;
    }
