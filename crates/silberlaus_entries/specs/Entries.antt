-- What reading an entry of a record answers. Assumes nothing.
use Rattle.std.specs.Prelude.{cond, ◌&&◌, List, ℕ, ltb, eqb, length, Some, None}
use Rattle.std.specs.Prelude as std
use Rattle.std.proofs.Math.Option.{Option, none, some}
use Rattle.frame_settings.specs.Settings.{setting_of}
use Rattle.frame_arithmetic.specs.Answers.{Judged, refused, judged_read}
use Rattle.frame.specs.Frame.{frame_of}
use Rattle.frame_settings.specs.declared.Setting.{Setting}
use Rattle.record_forms.specs.declared.Form.{Form}
use Rattle.record_forms.specs.Forms.{which_form}
use Rattle.record_bytes.specs.Layout.{RecordEntry}
use Rattle.record_bytes.specs.Reading.{read_record}
use Rattle.record.specs.Answers.{in_form, frame_at, entry_answer}

-- the record 7, the place 1, then the frame's 5
abbrev pub judged_place : Setting → Option (List RecordEntry) → ℕ → Judged
judged_place r none place = refused 7 0
judged_place r (some es) place = cond (ltb place (length es)) (judged_read (frame_of (frame_at es place) r)) (refused 1 0)

-- the rate and the duration 1, the two buffers 2
abbrev pub judged_in : std.Option Setting → Form → List ℕ → ℕ → ℕ → ℕ → Judged
judged_in None f s place x b = refused 1 0
judged_in (Some r) f s place x b = cond (eqb x r.lines && eqb b r.lines) (judged_place r (read_record f s) place) (refused 2 0)

-- of a form, which is a 1 before all else, a rate and a duration, a record and a place, and the lengths of the two lent buffers
unfoldable pub judged_entry : ℕ → ℕ → ℕ → List ℕ → ℕ → ℕ → ℕ → Judged
judged_entry form khz q s place x b = in_form (which_form form) (refused 1 0) (λ f. judged_in (setting_of khz q) f s place x b)

-- the record's own number for a place
abbrev pub missing : ℕ → List ℕ → ℕ → ℕ
missing form s place = (entry_answer form s place).number
