-- Reading a record of a form from the end back (document 01, "The session record"). proofs/Inverse.antt shows that it finds the list of
-- entries whose bytes these are, as the form keeps them, and none exactly where there is no such list. Assumes nothing.
use Rattle.std.specs.Prelude.{Bool, ◌&&◌, cond, List, [], ◌∷◌, ℕ, zero, suc, ◌+◌, ◌*◌, ◌-◌, length, get_or, take, drop, leb, eqb}
use Rattle.std.proofs.Math.Option.{Option, none, some}
use Rattle.record_forms.specs.declared.Form.{Form}
use Rattle.record_forms.specs.Forms.{bits_size, mark_size, mark, trailer_size, end_size}
use Rattle.record_bytes.specs.Layout.{RecordEntry, most}
use Rattle.record_forms.specs.Ranges.{in_range, held_bits}

-- the number in k bytes from `at`, big-endian
unfoldable pub number : List ℕ → ℕ → ℕ → ℕ
number s at zero = 0
number s at (suc k) = number s at k * 256 + get_or s (at + k) 0

-- the bits that stand from `at` on, unknown where the form has no bytes for them
unfoldable pub bits_at : Form → List ℕ → ℕ → ℕ
bits_at f s at = held_bits f (number s at (bits_size f))

-- the entry of `size` frame bytes whose trailer stands from `at` on
unfoldable pub entry_ending : Form → List ℕ → ℕ → ℕ → RecordEntry
entry_ending f s at size =
    record { frame = take size (drop (at - size) s); request = get_or s at 0; count = get_or s (at + 1) 0; bits = bits_at f s (at + 2) }

-- whether an entry of `size` frame bytes may end before `end`: it has room there, and no "field outside its range"
unfoldable pub may_end : Form → List ℕ → ℕ → ℕ → Bool
may_end f s end size =
    leb (size + trailer_size f) end
    && in_range (get_or s (end - trailer_size f) 0) (get_or s (end - trailer_size f + 1) 0) (bits_at f s (end - trailer_size f + 2)) size

-- the entry that ends before `end`, its length pointing to its start
unfoldable pub entry_before : Form → List ℕ → ℕ → Option RecordEntry
entry_before f s end =
    cond (may_end f s end (number s (end - 2) 2)) (some (entry_ending f s (end - trailer_size f) (number s (end - 2) 2))) none

abbrev pub then_read : Option RecordEntry → (RecordEntry → Option (List RecordEntry)) → Option (List RecordEntry)
then_read none k = none
then_read (some e) k = k e

-- `left` entries from `end` back, in front of those that are later: "the walk must arrive at byte 0 with no entries left over"
unfoldable pub read_back : Form → List ℕ → ℕ → ℕ → List RecordEntry → Option (List RecordEntry)
read_back f s end zero later = cond (eqb end 0) (some later) none
read_back f s end (suc left) later =
    then_read (entry_before f s end) (λ e. read_back f s (end - (length e.frame + trailer_size f)) left (e ∷ later))

-- whether the bytes may be a record by their number and by the mark at their end: "fewer than 4 bytes, or more than 65,536" is none
unfoldable pub may_be : Form → List ℕ → Bool
may_be f s =
    (leb (end_size f) (length s) && leb (length s) most) && eqb (number s (length s - mark_size f) (mark_size f)) (mark f)

unfoldable pub read_record : Form → List ℕ → Option (List RecordEntry)
read_record f s = cond (may_be f s) (read_back f s (length s - end_size f) (number s (length s - end_size f) 4) []) none
