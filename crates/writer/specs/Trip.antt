-- What is written reads back at the same settings, as what was given, with the residual bits that were sent. Assumes nothing.
use Rattle.std.specs.Prelude.{◌≡◌, List, ℕ, length, ℤ, Option, Some, None}
use Rattle.frame_settings.specs.Settings.{setting_of}
use Rattle.frame_settings.specs.declared.Setting.{Setting}
use Rattle.frame_answers.specs.Answers as reading
use Rattle.frame_arithmetic.specs.Answers.{Judged, accepted, Answers}
use Rattle.frame.specs.Frame.{judged_of}
use Rattle.writer_laws.specs.Writing.{Given, items_of}
use Rattle.writer_back.specs.Back.{whole_back}
use Rattle.writer.specs.Writer.{Outcome, wrote, refuses, written_of, Told, told_of, frame_after}

-- the symbols of a frame of n bytes
abbrev pub symbols_at : Option Setting → ℕ → Given → ℕ
symbols_at (Some r) n g = length (items_of r n g)
symbols_at None n g = 0

-- what reading a written frame has to answer: accepted, all as given, and k residual bits
unfoldable pub back_of : ℕ → ℕ → ℕ → Given → ℕ → Judged
back_of khz q n g k = accepted (whole_back g k (symbols_at (setting_of khz q) n g))

-- what was written reads back
abbrev pub BackFrom : ℕ → ℕ → ℕ → Given → Outcome → Type 0
BackFrom khz q n g (wrote k s) = judged_of khz q s (length g.lines) (length g.residual) ≡ back_of khz q n g k
BackFrom khz q n g (refuses number) = Unit {0}

-- the answer t and the lent frame afterwards are what the definition asks for, and a frame that was written reads back
pub record Writes (khz q : ℕ) (g : Given) (frame frame' : List ℕ) (t : Told) : Type 0 where
  pub told : t ≡ told_of (written_of khz q (length frame) g)
  pub bytes : frame' ≡ frame_after (written_of khz q (length frame) g) frame
  pub back : BackFrom khz q (length frame) g (written_of khz q (length frame) g)

-- written, then read: where it was written, the answer a and both buffers are as given, but for the residual bits that were not sent
abbrev pub Returned : ℕ → ℕ → Given → List ℕ → reading.Given → List ℤ → List ℤ → List ℕ → List ℕ → Outcome → Type 0
Returned khz q g frame a lines lines' bits bits' (wrote k s) =
    length lines ≡ length g.lines → length bits ≡ length g.residual
    → Answers a (back_of khz q (length frame) g k) lines lines' bits bits'
Returned khz q g frame a lines lines' bits bits' (refuses number) = Unit {0}
