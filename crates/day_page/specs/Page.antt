-- Where the day's two texts stand in their buffers. Assumes nothing.
use Rattle.std.specs.Prelude.{ℕ, ◌≤◌, Option, Some, None}
use Rattle.day_page.specs.declared.Page.{Page}

-- inside buffers of so many bytes
abbrev pub Inside : Option Page → ℕ → ℕ → Type 0
Inside (Some page) text lines = (page.end ≤ text) × (page.start ≤ lines)
Inside None text lines = Unit {0}
