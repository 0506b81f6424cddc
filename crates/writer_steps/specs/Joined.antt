-- The bytes of both streams joined, where they share no bit. Assumes nothing.
use Rattle.std.specs.Prelude.{List, ℕ, ◌+◌, ◌-◌, ◌<◌, get_or}
use Rattle.laws.specs.Tab.{tab}

-- the two bytes at each place fit one
abbrev pub Apart : List ℕ → List ℕ → ℕ → Type 0
Apart front side n = (i : ℕ) → i < n → get_or front i 0 + get_or side (n - 1 - i) 0 < 256

-- both streams' bytes added up; the side stream's stand the last first
unfoldable pub joined_of : List ℕ → List ℕ → ℕ → List ℕ
joined_of front side n = tab (λ i. get_or front i 0 + get_or side (n - 1 - i) 0) n
