-- `frame_settings::setting_of` meets its contract. Assumes nothing.
use mathlib.Core.Path.{sym, ◌∙◌}
use Rattle.frame_settings.specs.Settings.{setting_of}
use Rattle.frame_settings.proofs.Settings.{duration-bounds, rate-bounds}
use Rattle.frame_settings.proofs.setting_of.Goals as goal

pub returns-in_err-rate-clause-value : goal.returns-in_err-rate-clause-value
unfolding setting_of
returns-in_err-rate-clause-value c = rw (c.from_residual.ensures, ← c.in_err-rate.ensures)

pub known-requires : goal.known-requires
known-requires c = record {
  le_khz = rate-bounds c.args.khz c.in_ok-rate.rate c.in_ok-rate.ensures;
  le_duration = duration-bounds c.args.duration (sym c.is_duration.ensures ∙ c.if-is_duration.true);
}

pub returns-then-is_duration-clause-value : goal.returns-then-is_duration-clause-value
unfolding setting_of
returns-then-is_duration-clause-value c = rw (c.known.ensures, ← c.in_ok-rate.ensures, ← c.is_duration.ensures, c.if-is_duration.true)

pub returns-else-is_duration-clause-value : goal.returns-else-is_duration-clause-value
unfolding setting_of
returns-else-is_duration-clause-value c = rw (← c.in_ok-rate.ensures, ← c.is_duration.ensures, c.if-is_duration.false)
