-- What each function answers for all input: document 01's number with the values beside it, and the buffer that it leaves. What is said of
-- a form stands first, and the number that names it is looked at before everything else.
-- A refusal returns its number, zero in every other field, and no lent byte is changed. Assumes nothing.
use Rattle.std.specs.Prelude.{Bool, ◌&&◌, cond, List, [], ◌∷◌, ◌++◌, ℕ, zero, suc, ◌+◌, length, take, drop, leb, ltb, eqb, Result, Ok, Err}
use Rattle.std.proofs.Math.Option.{Option, none, some}
use Rattle.record_forms.specs.declared.Form.{Form}
use Rattle.refusals.specs.declared.Refusal.{Refusal}
use Rattle.record_forms.specs.Forms.{trailer_size, end_size, which_form}
use Rattle.record_bytes.specs.Layout.{RecordEntry, record_bytes, most}
use Rattle.record_forms.specs.Ranges.{in_range}
use Rattle.record_bytes.specs.Reading.{read_record}
use Rattle.record_bytes.specs.Located.{locate}
use Rattle.record_bytes.specs.Answers.{Answer, accepted, refused, EntryAnswer, unfound}

-- what is answered in the form that a number names, and what where it names none
abbrev pub in_form : {A : Type 0} → Result Form Refusal → A → (Form → A) → A
in_form (Ok f) bad k = k f
in_form (Err why) bad k = bad

-- "in a buffer shorter than 4 gives 6", or than 5
unfoldable pub new_number : ℕ → List ℕ → ℕ
new_number form buffer = in_form (which_form form) 1 (λ f. cond (leb (end_size f) (length buffer)) 0 6)

-- "making one writes those and leaves the rest"
unfoldable pub new_buffer : ℕ → List ℕ → List ℕ
new_buffer form buffer =
    in_form (which_form form) buffer (λ f. cond (leb (end_size f) (length buffer)) (record_bytes f [] ++ drop (end_size f) buffer) buffer)

abbrev pub entries_of : Option (List RecordEntry) → Answer
entries_of none = refused 7
entries_of (some es) = accepted (length es)

unfoldable pub entries_in : Form → List ℕ → Answer
entries_in f s = entries_of (read_record f s)

unfoldable pub entries_answer : ℕ → List ℕ → Answer
entries_answer form s = in_form (which_form form) (refused 1) (λ f. entries_in f s)

-- "a place that isn't below the number of entries is a 1, checked after the 7"
abbrev pub entry_of : Form → Option (List RecordEntry) → ℕ → EntryAnswer
entry_of f none place = unfound 7
entry_of f (some es) place = record { number = cond (ltb place (length es)) 0 1; entry = locate f es place 0 }

unfoldable pub entry_in : Form → List ℕ → ℕ → EntryAnswer
entry_in f s place = entry_of f (read_record f s) place

unfoldable pub entry_answer : ℕ → List ℕ → ℕ → EntryAnswer
entry_answer form s place = in_form (which_form form) (unfound 1) (λ f. entry_in f s place)

-- the frame of the entry at `place`; no bytes where there is none
abbrev pub frame_at : List RecordEntry → ℕ → List ℕ
frame_at [] place = []
frame_at (e ∷ es) zero = e.frame
frame_at (e ∷ es) (suc place) = frame_at es place

abbrev pub frame_of : Option (List RecordEntry) → ℕ → List ℕ
frame_of none place = []
frame_of (some es) place = frame_at es place

unfoldable pub frame_in : Form → List ℕ → ℕ → List ℕ
frame_in f s place = frame_of (read_record f s) place

unfoldable pub frame_part : ℕ → List ℕ → ℕ → List ℕ
frame_part form s place = in_form (which_form form) [] (λ f. frame_in f s place)

-- the entry that an addition asks for
abbrev pub asked : List ℕ → ℕ → ℕ → ℕ → RecordEntry
asked frame request count bits = record { frame = frame; request = request; count = count; bits = bits }

-- "the used length (above the buffer's length or above 65,536: 1) and an entry (field out of range, or a frame not of its length: 1)"
unfoldable pub may_add_to : ℕ → ℕ → ℕ → ℕ → ℕ → ℕ → ℕ → Bool
may_add_to room used frame request count bits size =
    (leb used room && leb used most) && (in_range request count bits size && eqb size frame)

unfoldable pub may_add : List ℕ → ℕ → RecordEntry → ℕ → Bool
may_add buffer used e size = may_add_to (length buffer) used (length e.frame) e.request e.count e.bits size

-- the used length with one more entry
abbrev pub used_with : Form → ℕ → RecordEntry → ℕ
used_with f used e = used + length e.frame + trailer_size f

-- "refused with 6 exactly when used + frame + 4 exceeds the buffer or 65,536", or + 6
unfoldable pub has_room : Form → List ℕ → ℕ → RecordEntry → Bool
has_room f buffer used e = leb (used_with f used e) (length buffer) && leb (used_with f used e) most

-- "then the used bytes must be a record (else 7)"; accepted, "the new used length is returned"
abbrev pub add_of : Form → Option (List RecordEntry) → List ℕ → ℕ → RecordEntry → Answer
add_of f none buffer used e = refused 7
add_of f (some es) buffer used e = cond (has_room f buffer used e) (accepted (used_with f used e)) (refused 6)

unfoldable pub add_answer : Form → List ℕ → ℕ → RecordEntry → ℕ → Answer
add_answer f buffer used e size =
    cond (may_add buffer used e size) (add_of f (read_record f (take used buffer)) buffer used e) (refused 1)

-- accepted, the record of the old entries and one more, and the bytes past the new end stay
abbrev pub stored_of : Form → Option (List RecordEntry) → List ℕ → ℕ → RecordEntry → List ℕ
stored_of f none buffer used e = buffer
stored_of f (some es) buffer used e =
    cond (has_room f buffer used e) (record_bytes f (es ++ (e ∷ [])) ++ drop (used_with f used e) buffer) buffer

unfoldable pub add_buffer : Form → List ℕ → ℕ → RecordEntry → ℕ → List ℕ
add_buffer f buffer used e size =
    cond (may_add buffer used e size) (stored_of f (read_record f (take used buffer)) buffer used e) buffer
