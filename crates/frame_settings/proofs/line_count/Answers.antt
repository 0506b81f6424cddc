-- `frame_settings::line_count` meets its contract. Assumes nothing.
use mathlib.Core.Path.{ap}
use Rattle.frame_settings.specs.Settings.{line_count, lines_at}
use Rattle.frame_settings.proofs.line_count.Goals as goal

pub returns-in-Some : goal.returns-in-Some
unfolding line_count
returns-in-Some c = ap lines_at c.in-Some.ensures.value

pub returns-in-None : goal.returns-in-None
unfolding line_count
returns-in-None c = ap lines_at c.in-None.ensures.value
