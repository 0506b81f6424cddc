-- The bounds that every form's numbers keep. Assumes nothing.
use Prim.Native.Nat.{◌≤◌, ◌<◌, ◌^◌}
use native.Mathlib.Omega.{arith}
use Rattle.record_forms.specs.declared.Form.{Form}
use Rattle.record_forms.specs.declared.Form.TheVariants as form
use Rattle.record_forms.specs.Forms.{bits_size, mark_size, mark}

pub bits_most : (f : Form) → bits_size f ≤ 2
bits_most form.One = omega arith
bits_most form.Two = omega arith

pub mark-most : (f : Form) → mark_size f ≤ 1
mark-most form.One = omega arith
mark-most form.Two = omega arith

-- the mark fits the bytes that hold it
pub mark-fits : (f : Form) → mark f < 256 ^ mark_size f
mark-fits form.One = omega arith
mark-fits form.Two = omega arith
