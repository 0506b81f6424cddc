-- `day_writing::lines_at` meets its contract. Assumes nothing.
use Prim.Native.Nat.{ℕ, ◌≤◌}
use mathlib.Core.Path.{subst⁻¹}
use Rattle.frame_settings.proofs.Settings.{lines-most}
use Rattle.day_writing.proofs.lines_at.Goals as goal

pub returns : goal.returns
returns c = subst⁻¹ (λ (n : ℕ). n ≤ 400) c.line_count.ensures (lines-most c.args.khz c.args.duration)
