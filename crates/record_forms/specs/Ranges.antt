-- The ranges of an entry's fields (document 01, "The session record"; document 02 §2), and what a form keeps of its bits. Assumes nothing.
use Rattle.std.specs.Prelude.{Bool, ◌&&◌, ◌||◌, cond, ℕ, ◌*◌, leb, eqb}
use Rattle.record_forms.specs.declared.Form.{Form}
use Rattle.record_forms.specs.Forms.{bits_size}

-- the bits of an entry for which they were not counted
abbrev pub unknown : ℕ
unknown = 65535

-- "65,535, or semi-octets ≤ bits ≤ 4 x semi-octets", and 648 at most
unfoldable pub bits_in_range : ℕ → ℕ → Bool
bits_in_range count bits = eqb bits unknown || (leb count bits && (leb bits (4 * count) && leb bits 648))

-- the ranges of an entry's request, count, bits and length
unfoldable pub in_range : ℕ → ℕ → ℕ → ℕ → Bool
in_range request count bits size =
    leb request 3 && (leb count 162 && ((leb 20 size && leb size 400) && bits_in_range count bits))

-- the bits that are left of an entry's in a form: "form 1 is read with every entry's bits unknown", since it has no bytes for them
abbrev pub held_bits : Form → ℕ → ℕ
held_bits f bits = cond (eqb (bits_size f) 0) unknown bits
