-- The two orders of ac_spec_lookup: the standard's, level after level, and the code's, context after context. Assumes nothing.
use Rattle.std.specs.Prelude.{List, ℕ, ◌+◌, ◌*◌, ◌/◌, ◌%◌, get_or}
use Rattle.laws.specs.Tab.{tab}

-- the code's order: the four levels of a context side by side
unfoldable pub by_context : List ℕ → List ℕ
by_context t = tab (λ p. get_or t (1024 * (p % 4) + p / 4) 0) 4096

-- and back, the standard's order: 1,024 contexts for each level
unfoldable pub by_level : List ℕ → List ℕ
by_level t = tab (λ i. get_or t (4 * (i % 1024) + i / 1024) 0) 4096
