-- What the answers mean for the entries, beside their numbers: that a count is that of the entries whose bytes these are, and that
-- an entry called stored is read back. Assumes nothing.
use Rattle.std.specs.Prelude.{◌≡◌, List, ℕ, zero, suc, ◌-◌, ◌<◌, length, take, drop, Result, Ok, Err}
use Rattle.record_forms.specs.declared.Form.{Form}
use Rattle.refusals.specs.declared.Refusal.{Refusal}
use Rattle.record_forms.specs.Forms.{end_size, which_form}
use Rattle.record_bytes.specs.Layout.{RecordEntry, entry_bytes, IsRecord, held}
use Rattle.record_bytes.specs.Answers.{Answer, accepted, EntryAnswer}
use Rattle.record.specs.Answers.{entries_in, entry_in, frame_in}
use Rattle.record_bytes.specs.Located.{located}

abbrev pub Counts : Result Form Refusal → ℕ → ℕ → List ℕ → Type 0
Counts (Err why) number n s = number ≡ 1
Counts (Ok f) zero n s = (es : List RecordEntry) × IsRecord f s es × (n ≡ length es)
Counts (Ok f) (suc number) n s = (es : List RecordEntry) → IsRecord f s es → ⊥

-- accepted: a record of so many entries; refused: no list of entries at all has these bytes, or the number names no form
abbrev pub CountMeans : ℕ → Answer → List ℕ → Type 0
CountMeans form a s = Counts (which_form form) a.number a.value s

-- an entry that is found, whose frame starts at `start`
abbrev pub entry_from : RecordEntry → ℕ → EntryAnswer
entry_from e start = record { number = 0; entry = located e start }

-- what an accepted addition of e to the first `used` bytes of the buffer leaves in the first `next` bytes
pub record Stored (f : Form) (buffer after : List ℕ) (used next : ℕ) (e : RecordEntry) : Type 0 where
  pub older : ℕ
  pub counted : entries_in f (take used buffer) ≡ accepted older
  -- the number of entries is one more
  pub one_more : entries_in f (take next after) ≡ accepted (suc older)
  -- what was added is what is read, at the last place, as the form keeps it
  pub last : entry_in f (take next after) older ≡ entry_from (held f e) (used - end_size f)
  pub last_frame : frame_in f (take next after) older ≡ e.frame
  -- every older entry reads as before
  pub same : (place : ℕ) → place < older → entry_in f (take next after) place ≡ entry_in f (take used buffer) place
  pub same_frame : (place : ℕ) → place < older → frame_in f (take next after) place ≡ frame_in f (take used buffer) place
  -- "the entry stands where the old end number began"
  pub bytes : take (length (entry_bytes f e)) (drop (used - end_size f) after) ≡ entry_bytes f e
  -- "bytes before the old end number and past the new end stay"
  pub front : take (used - end_size f) after ≡ take (used - end_size f) buffer
  pub past : drop next after ≡ drop next buffer

abbrev pub Stores : Form → ℕ → ℕ → List ℕ → List ℕ → ℕ → RecordEntry → Type 0
Stores f zero next buffer after used e = Stored f buffer after used next e
Stores f (suc number) next buffer after used e = after ≡ buffer

-- accepted with the new used length: the entry is stored, and all older ones read as before; refused: the buffer is as lent
abbrev pub StoredBy : Form → Answer → List ℕ → List ℕ → ℕ → RecordEntry → Type 0
StoredBy f a buffer after used e = Stores f a.number a.value buffer after used e
