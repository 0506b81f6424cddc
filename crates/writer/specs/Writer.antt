-- A frame written, or refused by number in document 02's order (request 02 §5). Assumes nothing.
use Rattle.std.specs.Prelude.{cond, ◌&&◌, List, ℕ, ◌*◌, ltb, eqb, length, Option, Some, None, Result, Ok, Err}
use Rattle.frame_settings.specs.Settings.{setting_of}
use Rattle.frame_settings.specs.declared.Setting.{Setting}
use Rattle.frame.specs.Frame.{sized}
use Rattle.writer_laws.specs.Fits.{fields_fit, lines_fit}
use Rattle.writer_laws.specs.Writing.{Given, needed_bits, sent_of, bytes_of}
use Rattle.refusals.specs.declared.Refusal.{Refusal}
use Rattle.refusals.specs.Numbers.{refusal_number}

-- accepted, with the number of residual bits sent and the frame; or refused, with document 01's number
pub data Outcome : Type 0 where
  wrote : ℕ → List ℕ → Outcome
  refuses : ℕ → Outcome

-- 8: "the clause's coder, residual aside, needs more bits than the frame has"
abbrev pub written_fit : Setting → ℕ → Given → Outcome
written_fit r n g = cond (ltb (8 * n) (needed_bits r n g)) (refuses 8) (wrote (sent_of r n g) (bytes_of r n g))

-- 1: a line or a residual bit that cannot be written
abbrev pub written_lines : Setting → ℕ → Given → Outcome
written_lines r n g = cond (lines_fit g.fields g.lines g.residual) (written_fit r n g) (refuses 1)

-- 2: a lent buffer hasn't NE entries
abbrev pub written_sized : Setting → ℕ → Given → Outcome
written_sized r n g =
    cond (eqb (length g.lines) r.lines && eqb (length g.residual) r.lines) (written_lines r n g) (refuses 2)

-- 1: a field that cannot be written
abbrev pub written_fields : Setting → ℕ → Given → Outcome
written_fields r n g = cond (fields_fit r g.fields g.first g.second) (written_sized r n g) (refuses 1)

-- 1: a setting is out of range
abbrev pub written_at : Option Setting → ℕ → Given → Outcome
written_at None n g = refuses 1
written_at (Some r) n g = cond (sized n) (written_fields r n g) (refuses 1)

-- of a rate, a duration, the frame's length, and what is to be written
unfoldable pub written_of : ℕ → ℕ → ℕ → Given → Outcome
written_of khz q n g = written_at (setting_of khz q) n g

-- document 01's number, and the residual bits sent
pub record Told : Type 0 where
  pub number : ℕ
  pub residual : ℕ

abbrev pub telling : ℕ → ℕ → Told
telling number residual = record { number = number; residual = residual }

-- document 01's number and value of the answer
abbrev pub answered : Result ℕ Refusal → Told
answered (Ok k) = telling 0 k
answered (Err why) = telling (refusal_number why) 0

abbrev pub told_of : Outcome → Told
told_of (wrote k s) = telling 0 k
told_of (refuses number) = telling number 0

-- the lent frame afterwards: written where it was accepted, as lent where not
abbrev pub frame_after : Outcome → List ℕ → List ℕ
frame_after (wrote k s) lent = s
frame_after (refuses number) lent = lent
