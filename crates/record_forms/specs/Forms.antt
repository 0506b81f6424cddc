-- The forms of a record (document 02 §2) as data: how long an entry's trailer and the record's end are, and what they hold beside what
-- both forms have. Assumes nothing.
use Rattle.std.specs.Prelude.{cond, ℕ, ◌+◌, eqb, Result, Ok, Err}
use Rattle.refusals.specs.declared.Refusal.{Refusal}
use Rattle.refusals.specs.declared.Refusal.TheVariants as refusal
use Rattle.record_forms.specs.declared.Form.{Form}
use Rattle.record_forms.specs.declared.Form.TheVariants as form

-- the bytes of an entry that hold its bits
abbrev pub bits_size : Form → ℕ
bits_size form.One = 0
bits_size form.Two = 2

-- the bytes behind the number of entries, and the number that they hold
abbrev pub mark_size : Form → ℕ
mark_size form.One = 0
mark_size form.Two = 1

abbrev pub mark : Form → ℕ
mark form.One = 0
mark form.Two = 2

-- the bytes of an entry beside its frame: request 1, semi-octets 1, bits, length 2
abbrev pub trailer_size : Form → ℕ
trailer_size f = 4 + bits_size f

-- the bytes behind the last entry: their number 4, and what marks the form
abbrev pub end_size : Form → ℕ
end_size f = 4 + mark_size f

-- "1 or 2, all 32 bits looked at"
unfoldable pub which_form : ℕ → Result Form Refusal
which_form n = cond (eqb n 1) (Ok form.One) (cond (eqb n 2) (Ok form.Two) (Err refusal.Setting))
