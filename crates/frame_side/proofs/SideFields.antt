-- The side information's parts one after the other: what its definition is behind each, and where one of them is a cause. Assumes
use mathlib.Core.Path.{◌≡◌, ◌∙◌}
use mathlib.Core.List.{List}
use Prim.Native.Nat.{ℕ}
use Rattle.frame_bits.specs.Read.{value, cause}
use Rattle.frame_bits.specs.Fields.{ends, read_list}
use Rattle.frame_bits.proofs.FieldLists.{list-behind, list-stops}
use Rattle.frame_side.specs.Side.{head_of, head_fields, flags_of, flags_fields, tail_of, tail_fields}
use Rattle.frame_side.specs.Side.{side_of, from_flags, from_shape, from_tail}
use Rattle.frame_shape.specs.Shape.{shape_of, shape_fields}
use Rattle.frame_settings.specs.Settings.{filters_of}
use Rattle.frame_settings.specs.declared.Setting.{Setting}
use Rattle.frame_side.specs.declared.Head.{Head}
use Rattle.frame_side.specs.declared.Flags.{Flags}
use Rattle.frame_shape.specs.declared.Shape.{Shape}
use Rattle.frame_side.specs.declared.Tail.{Tail}

-- two ways to a cause, and the whole
pub side-head : (s : List ℕ) (r : Setting) (k : ℕ) → head_of s r ≡ cause k → side_of s r ≡ cause k
unfolding side_of head_of
side-head s r k e = list-stops s 0 (head_fields r) (from_flags (filters_of r.duration)) k e

pub side-shape :
    (s : List ℕ) (r : Setting) (h : Head) (p : ℕ) (f : Flags) (q k : ℕ) → head_of s r ≡ value h p
    → flags_of s (filters_of r.duration) h.bandwidth p ≡ value f q → shape_of s q ≡ cause k → side_of s r ≡ cause k
unfolding side_of head_of flags_of shape_of
side-shape s r h p f q k e d i =
    list-behind s 0 (head_fields r) (from_flags (filters_of r.duration)) h p e
    ∙ (list-behind s p (flags_fields (filters_of r.duration) h.bandwidth) (from_shape h) f q d
    ∙ list-stops s q shape_fields (from_tail h f) k i)

pub side-done :
    (s : List ℕ) (r : Setting) (h : Head) (p : ℕ) (f : Flags) (q : ℕ) (x : Shape) (u : ℕ) (t : Tail) (v : ℕ) → head_of s r ≡ value h p
    → flags_of s (filters_of r.duration) h.bandwidth p ≡ value f q → shape_of s q ≡ value x u
    → tail_of s f.pitch_present u ≡ value t v
    → side_of s r ≡ value (record { head = h; flags = f; shape = x; tail = t }) v
unfolding side_of head_of flags_of shape_of tail_of read_list
side-done s r h p f q x u t v e d i j =
    list-behind s 0 (head_fields r) (from_flags (filters_of r.duration)) h p e
    ∙ (list-behind s p (flags_fields (filters_of r.duration) h.bandwidth) (from_shape h) f q d
    ∙ (list-behind s q shape_fields (from_tail h f) x u i
    ∙ list-behind s u (tail_fields f.pitch_present) (λ t. ends (record { head = h; flags = f; shape = x; tail = t })) t v j))
