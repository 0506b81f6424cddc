-- The session record (document 01, "The session record"; document 02 §2): how a list of entries looks as bytes in a form, and which bytes
-- are a record of it. Assumes nothing.
use Rattle.std.specs.Prelude.{◌≡◌, true, List, [], ◌∷◌, ◌++◌, map, ℕ, zero, suc, ◌/◌, ◌%◌, ◌≤◌, length}
use Rattle.record_forms.specs.declared.Form.{Form}
use Rattle.record_forms.specs.Forms.{bits_size, mark_size, mark}
use Rattle.record_forms.specs.Ranges.{in_range, held_bits}

-- "all numbers big-endian": n in k bytes
unfoldable pub big : ℕ → ℕ → List ℕ
big zero n = []
big (suc k) n = big k (n / 256) ++ (n % 256 ∷ [])

-- "a record entry": its length is that of the frame
pub record RecordEntry : Type 0 where
  pub frame : List ℕ
  pub request : ℕ
  pub count : ℕ
  pub bits : ℕ

-- "request 1, semi-octets 1, bits 2, length 2", the bits in as many bytes as the form has for them
unfoldable pub trailer_bytes : Form → ℕ → ℕ → ℕ → ℕ → List ℕ
trailer_bytes f request count bits size = request ∷ count ∷ (big (bits_size f) bits ++ big 2 size)

unfoldable pub trailer : Form → RecordEntry → List ℕ
trailer f e = trailer_bytes f e.request e.count e.bits (length e.frame)

-- "the frame, then" its trailer
unfoldable pub entry_bytes : Form → RecordEntry → List ℕ
entry_bytes f e = e.frame ++ trailer f e

-- the entries one after the other, oldest first
unfoldable pub entries_bytes : Form → List RecordEntry → List ℕ
entries_bytes f [] = []
entries_bytes f (e ∷ es) = entry_bytes f e ++ entries_bytes f es

-- "after the last entry, 4 bytes hold the number of entries", and the form's mark follows
unfoldable pub end_bytes : Form → ℕ → List ℕ
end_bytes f n = big 4 n ++ big (mark_size f) (mark f)

unfoldable pub record_bytes : Form → List RecordEntry → List ℕ
record_bytes f es = entries_bytes f es ++ end_bytes f (length es)

abbrev pub EntryInRange : RecordEntry → Type 0
EntryInRange e = in_range e.request e.count e.bits (length e.frame) ≡ true

abbrev pub AllInRange : List RecordEntry → Type 0
AllInRange [] = Unit {0}
AllInRange (e ∷ es) = EntryInRange e × AllInRange es

-- "at most 65,536 bytes"
abbrev pub most : ℕ
most = 65536

-- s is the record of the entries es in the form f
pub record IsRecord (f : Form) (s : List ℕ) (es : List RecordEntry) : Type 0 where
  pub bytes : s ≡ record_bytes f es
  pub ranges : AllInRange es
  pub size : length s ≤ most

-- an entry as a form keeps it
abbrev pub held : Form → RecordEntry → RecordEntry
held f e = record { frame = e.frame; request = e.request; count = e.count; bits = held_bits f e.bits }

abbrev pub held_all : Form → List RecordEntry → List RecordEntry
held_all f es = map (held f) es
