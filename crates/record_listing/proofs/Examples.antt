-- Document 01's example of a listing, computed in both forms. Assumes nothing.
use mathlib.Core.Path.{◌≡◌, refl}
use mathlib.Core.List.{[], ◌∷◌}
use lib.ListN.{replicate}
use Rattle.record_forms.specs.declared.Form.{Form}
use Rattle.record_forms.specs.declared.Form.TheVariants as form
use Rattle.record_bytes.specs.Layout.{RecordEntry, big, trailer_bytes, trailer, entry_bytes, entries_bytes, end_bytes, record_bytes}
use Rattle.record_forms.specs.Ranges.{bits_in_range, in_range}
use Rattle.record_bytes.specs.Reading.{number, bits_at, entry_ending, may_end, entry_before, read_back, may_be, read_record}
use Rattle.record_listing.specs.Listing.{leading, decimal, field, line, lines, listing}

-- "one entry of 20 bytes (28 bytes in all), request 3, count 0"
abbrev example : RecordEntry
example = record { frame = replicate 20 0; request = 3; count = 0; bits = 0 }

-- `records 1` and `0 20 3 0`, each with its newline
pub example-listing : (f : Form) → listing (record_bytes f (example ∷ []))
    ≡ 114 ∷ 101 ∷ 99 ∷ 111 ∷ 114 ∷ 100 ∷ 115 ∷ 32 ∷ 49 ∷ 10 ∷ 48 ∷ 32 ∷ 50 ∷ 48 ∷ 32 ∷ 51 ∷ 32 ∷ 48 ∷ 10 ∷ []
unfolding record_bytes entries_bytes end_bytes entry_bytes trailer trailer_bytes big listing read_record may_be read_back entry_before
    entry_ending may_end bits_at number in_range bits_in_range lines line field decimal leading
example-listing form.One = refl
example-listing form.Two = refl
