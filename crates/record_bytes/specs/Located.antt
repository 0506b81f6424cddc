-- Where an entry stands in a record. Assumes nothing.
use Rattle.std.specs.Prelude.{List, [], ◌∷◌, ℕ, zero, suc, ◌+◌, length}
use Rattle.record_forms.specs.declared.Form.{Form}
use Rattle.record_forms.specs.Forms.{trailer_size}
use Rattle.record_bytes.specs.Layout.{RecordEntry}
use Rattle.record_bytes.specs.declared.Located.{Located}

abbrev pub nowhere : Located
nowhere = record { start = 0; length = 0; request = 0; count = 0; bits = 0 }

-- an entry's fields, with the place where its frame starts
abbrev pub located : RecordEntry → ℕ → Located
located e start = record { start = start; length = length e.frame; request = e.request; count = e.count; bits = e.bits }

-- of the entry at `place` among those that stand from `start` on: where its frame stands, and its fields
abbrev pub locate : Form → List RecordEntry → ℕ → ℕ → Located
locate f [] place start = nowhere
locate f (e ∷ es) zero start = located e start
locate f (e ∷ es) (suc place) start = locate f es place (start + (length e.frame + trailer_size f))

-- where the entry at `place` among those that stand from `start` on ends; 0 where there is none
abbrev pub end_at : Form → List RecordEntry → ℕ → ℕ → ℕ
end_at f [] place start = 0
end_at f (e ∷ es) zero start = start + (length e.frame + trailer_size f)
end_at f (e ∷ es) (suc place) start = end_at f es place (start + (length e.frame + trailer_size f))
