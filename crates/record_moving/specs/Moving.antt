-- Moving a record from one form to the other (document 02 §2): it is read in the one and written in the other. Assumes nothing.
use Rattle.std.specs.Prelude.{◌≡◌, Bool, ◌&&◌, cond, List, [], ◌∷◌, ◌++◌, ℕ, length, drop, leb}
use Rattle.std.proofs.Math.Option.{Option, none, some}
use Rattle.record_forms.specs.declared.Form.{Form}
use Rattle.record_bytes.specs.Layout.{RecordEntry, entries_bytes, record_bytes, most}
use Rattle.record_forms.specs.Ranges.{unknown}
use Rattle.record_bytes.specs.Reading.{read_record}
use Rattle.record_bytes.specs.Answers.{Answer, accepted, refused}

-- whether the entries fit in the form: "`out` too short, or the moved record above 65,536 bytes" is a 6
unfoldable pub move_fits : Form → List RecordEntry → List ℕ → Bool
move_fits to es out = leb (length (record_bytes to es)) (length out) && leb (length (record_bytes to es)) most

-- "7, 6"; accepted, the used length of the moved record
abbrev pub move_of : Form → Option (List RecordEntry) → List ℕ → Answer
move_of to none out = refused 7
move_of to (some es) out = cond (move_fits to es out) (accepted (length (record_bytes to es))) (refused 6)

unfoldable pub move_answer : Form → Form → List ℕ → List ℕ → Answer
move_answer from to s out = move_of to (read_record from s) out

-- accepted, the same entries in the other form, and "`out` past what is written stays"
abbrev pub moved_of : Form → Option (List RecordEntry) → List ℕ → List ℕ
moved_of to none out = out
moved_of to (some es) out = cond (move_fits to es out) (record_bytes to es ++ drop (length (record_bytes to es)) out) out

unfoldable pub move_buffer : Form → Form → List ℕ → List ℕ → List ℕ
move_buffer from to s out = moved_of to (read_record from s) out

-- the bytes of what was read, in the other form
abbrev pub entries_as : Form → Option (List RecordEntry) → List ℕ
entries_as to none = []
entries_as to (some es) = entries_bytes to es

abbrev pub moved_entries : Form → Form → List ℕ → List ℕ
moved_entries from to s = entries_as to (read_record from s)

-- "every entry's bits are unknown"
abbrev pub AllUnknown : List RecordEntry → Type 0
AllUnknown [] = Unit {0}
AllUnknown (e ∷ es) = (e.bits ≡ unknown) × AllUnknown es
