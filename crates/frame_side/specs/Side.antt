-- The side information (5.4.2.3): one list of fields in the order of the frame, with causes 1 and 2, and 3 from the shape. A field that is
-- not sent is one of no bits. Assumes nothing.
use Rattle.std.specs.Prelude.{cond, List, ℕ, ◌+◌, ◌-◌, ◌*◌, ◌/◌, ltb}
use Rattle.frame_bits.specs.Read.{Read}
use Rattle.frame_bits.specs.Fields.{FieldList, ends, field, any, below, followed, read_list}
use Rattle.frame_settings.specs.Settings.{filters_of}
use Rattle.frame_settings.specs.declared.Setting.{Setting}
use Rattle.frame_side.specs.declared.Head.{Head}
use Rattle.frame_side.specs.declared.Flags.{Flags}
use Rattle.frame_side.specs.declared.Tail.{Tail}
use Rattle.frame_side.specs.declared.Side.{Side}
use Rattle.frame_shape.specs.Shape.{shape_fields}
use Rattle.frame_shape.specs.declared.Shape.{Shape}

-- the field of a last line: the last pair
abbrev pub last_pair : ℕ → ℕ
last_pair last = last / 2 - 1

-- bandwidth (cause 1: bandwidth above index), last pair (last line = 2 x (field + 1), cause 2: last line above NE), LSB mode, global gain
abbrev pub head_fields : Setting → FieldList Head
head_fields r =
    field r.bandwidth (below (r.index + 1) 1) (λ b. field r.pair (below (r.lines / 2) 2) (λ f.
    field 1 any (λ m. field 8 any (λ g. ends (record { bandwidth = b; last_line = 2 * (f + 1); lsb_mode = m; gain = g })))))

unfoldable pub head_of : List ℕ → Setting → Read ℕ Head
head_of s r = read_list s 0 (head_fields r)

-- "one filter for bandwidth 0 to 2", else the setting's number: the bits of the second filter's flag
abbrev pub second_flag : ℕ → ℕ → ℕ
second_flag filters bandwidth = cond (ltb bandwidth 3) 0 (filters - 1)

-- one TNS flag per filter, and pitch present
abbrev pub flags_fields : ℕ → ℕ → FieldList Flags
flags_fields filters bandwidth =
    field 1 any (λ a. field (second_flag filters bandwidth) any (λ b. field 1 any (λ t.
    ends (record { tns_0 = a; tns_1 = b; pitch_present = t }))))

unfoldable pub flags_of : List ℕ → ℕ → ℕ → ℕ → Read ℕ Flags
flags_of s filters bandwidth p = read_list s p (flags_fields filters bandwidth)

-- with pitch the filter flag and the pitch index; then the noise level
abbrev pub tail_fields : ℕ → FieldList Tail
tail_fields pitch =
    field pitch any (λ f. field (9 * pitch) any (λ t. field 3 any (λ n.
    ends (record { filter_flag = f; pitch_index = t; noise_level = n }))))

unfoldable pub tail_of : List ℕ → ℕ → ℕ → Read ℕ Tail
tail_of s pitch p = read_list s p (tail_fields pitch)

-- what follows the shape q, the flags f and the head h
abbrev pub from_tail : Head → Flags → Shape → FieldList Side
from_tail h f q = followed (tail_fields f.pitch_present) (λ t. ends (record { head = h; flags = f; shape = q; tail = t }))

abbrev pub from_shape : Head → Flags → FieldList Side
from_shape h f = followed shape_fields (from_tail h f)

abbrev pub from_flags : ℕ → Head → FieldList Side
from_flags filters h = followed (flags_fields filters h.bandwidth) (from_shape h)

-- the side information: head, flags, shape, tail
abbrev pub side_fields : Setting → FieldList Side
side_fields r = followed (head_fields r) (from_flags (filters_of r.duration))

unfoldable pub side_of : List ℕ → Setting → Read ℕ Side
side_of s r = read_list s 0 (side_fields r)
