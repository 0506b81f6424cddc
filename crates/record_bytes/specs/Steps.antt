-- What the steps below the public functions answer: the walk over a record, and bytes put into a buffer. Assumes nothing.
use Rattle.std.specs.Prelude.{◌≡◌, List, ◌++◌, ℕ, ◌+◌, ◌-◌, length, take, drop, Some, None}
use Rattle.std.specs.Prelude as std
use Rattle.std.proofs.Math.Option.{Option, none, some}
use Rattle.record_forms.specs.declared.Form.{Form}
use Rattle.record_forms.specs.Forms.{trailer_size}
use Rattle.record_bytes.specs.Layout.{RecordEntry}
use Rattle.record_bytes.specs.Reading.{read_record}
use Rattle.record_bytes.specs.Located.{located, end_at}
use Rattle.record_bytes.specs.declared.Located.{Located}
use Rattle.record_bytes.specs.declared.Walked.{Walked}

-- an entry that ends before `end`, with its start
abbrev pub step_of : Form → Option RecordEntry → ℕ → std.Option Located
step_of f none end = None
step_of f (some e) end = Some (located e (end - (length e.frame + trailer_size f)))

-- a record of n entries, with where the one that was asked for ends
abbrev pub whole : ℕ → ℕ → std.Option Walked
whole n end = Some (record { entries = n; end = end })

-- the number of entries, with where the one at `place` ends
abbrev pub walk_of : Form → Option (List RecordEntry) → ℕ → std.Option Walked
walk_of f none place = None
walk_of f (some es) place = whole (length es) (end_at f es place 0)

-- the bytes are a record of n entries in the form
pub record Whole (f : Form) (s : List ℕ) (n : ℕ) : Type 0 where
  pub es : List RecordEntry
  pub read : read_record f s ≡ some es
  pub counted : n ≡ length es

-- d with s put from `at` on
unfoldable pub put : List ℕ → ℕ → List ℕ → List ℕ
put d at s = take at d ++ (s ++ drop (at + length s) d)

-- what d became: x put into it so that it ends before `end`, from r on
pub record Placed (d after : List ℕ) (r end : ℕ) (x : List ℕ) : Type 0 where
  pub sized : r + length x ≡ end
  pub placed : after ≡ put d r x
