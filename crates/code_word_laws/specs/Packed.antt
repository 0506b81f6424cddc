-- Semi-octets packed in a number: digit j to the base 16. Only what the private steps promise each other speaks of it.
-- Assumes nothing.
use Rattle.std.specs.Prelude.{ℕ, zero, suc, ◌+◌, ◌*◌, ◌/◌, ◌%◌}

-- digit j of a
abbrev pub nibble : ℕ → ℕ → ℕ
nibble zero a = a % 16
nibble (suc j) a = nibble j (a / 16)

-- the number with the n digits f 0, f 1, ..
abbrev pub packed : (ℕ → ℕ) → ℕ → ℕ
packed f zero = 0
packed f (suc n) = f 0 + 16 * packed (λ j. f (suc j)) n
