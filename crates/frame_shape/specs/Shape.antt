-- The shape of the side information (5.4.2.3), field by field in the order of reading, with cause 3. Assumes nothing.
use Rattle.std.specs.Prelude.{cond, List, ℕ, ◌+◌, ◌-◌, eqb}
use Rattle.frame_bits.specs.Read.{Read}
use Rattle.frame_bits.specs.Fields.{FieldList, ends, field, any, below, read_list}
use Rattle.frame_shape.specs.declared.Shape.{Shape}

-- cause 3: the joint index "at or above 33,460,056 (25 bits) or 16,708,096 (24 bits)", by the mode bit
abbrev pub joint_end : ℕ → ℕ
joint_end mode = cond (eqb mode 0) 33460056 16708096

-- shape (5.4.7.2): 5, 5, the mode bit, the gain, the sign bit, and the joint index
abbrev pub shape_fields : FieldList Shape
shape_fields =
    field 5 any (λ l. field 5 any (λ h. field 1 any (λ m. field (1 + m) any (λ g. field 1 any (λ n.
    field (25 - m) (below (joint_end m) 3) (λ j. ends (record { low = l; high = h; mode = m; gain = g; sign = n; joint = j })))))))

unfoldable pub shape_of : List ℕ → ℕ → Read ℕ Shape
shape_of s p = read_list s p shape_fields
