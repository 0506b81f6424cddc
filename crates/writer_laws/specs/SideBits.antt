-- The side stream written (5.3.14, write_bit and write_uint): a list of bits, of which bit j stands where the reader has it, in byte
-- n - 1 - j / 8 at bit j % 8; so the stream is a number, its first bit the lowest. Assumes nothing.
use Rattle.std.specs.Prelude.{List, [], ◌∷◌, ◌++◌, ℕ, ◌+◌, ◌*◌}
use Rattle.frame_shape.specs.declared.Shape.{Shape}
use Rattle.frame_side.specs.Side.{last_pair}
use Rattle.frame_side.specs.declared.Head.{Head}
use Rattle.frame_side.specs.declared.Flags.{Flags}
use Rattle.frame_side.specs.declared.Tail.{Tail}
use Rattle.frame_side.specs.declared.Side.{Side}

-- the number of a list of bits, the first the lowest
unfoldable pub number_of : List ℕ → ℕ
number_of [] = 0
number_of (b ∷ l) = b + 2 * number_of l

-- the values that the fields of the list are written with, part by part
abbrev pub head_values : Head → List ℕ
head_values h = h.bandwidth ∷ last_pair h.last_line ∷ h.lsb_mode ∷ h.gain ∷ []

abbrev pub flags_values : Flags → List ℕ
flags_values f = f.tns_0 ∷ f.tns_1 ∷ f.pitch_present ∷ []

abbrev pub shape_values : Shape → List ℕ
shape_values q = q.low ∷ q.high ∷ q.mode ∷ q.gain ∷ q.sign ∷ q.joint ∷ []

abbrev pub tail_values : Tail → List ℕ
tail_values t = t.filter_flag ∷ t.pitch_index ∷ t.noise_level ∷ []

-- as many and in the order of side_fields
abbrev pub side_values : Side → List ℕ
side_values v = head_values v.head ++ (flags_values v.flags ++ (shape_values v.shape ++ tail_values v.tail))
