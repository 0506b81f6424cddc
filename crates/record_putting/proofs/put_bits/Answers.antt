-- `record_putting::put_bits` meets its contract, form by form. Assumes nothing.
use mathlib.Core.Path.{sym, ap, ◌∙◌}
use Rattle.record_forms.specs.Forms.{bits_size}
use Rattle.record_forms.specs.declared.Form.{Form}
use Rattle.record_bytes.specs.Layout.{big}
use Rattle.record_bytes.specs.Steps.{put}
use Rattle.record_bytes.proofs.Putting.{put-none}
use Rattle.record_putting.proofs.Parts.{two_bytes}
use Rattle.record_putting.proofs.put_bits.Goals as goal

pub returns-in-One : goal.returns-in-One
unfolding big
returns-in-One c =
    let a = c.args in
    put-none a.out.now a.at
    ∙ ap (λ (f : Form). put a.out.now a.at (big (bits_size f) a.bits)) (sym c.in-One.is)

pub returns-in-Two : goal.returns-in-Two
returns-in-Two c =
    let a = c.args in
    c.copy_in.ensures ∙ ap (put a.out.now a.at) (c.to_be_bytes.ensures ∙ two_bytes a.bits)
    ∙ ap (λ (f : Form). put a.out.now a.at (big (bits_size f) a.bits)) (sym c.in-Two.is)
