-- Bytes as semi-octets: an even place is the lower half of its byte (A.52).
-- Assumes nothing.
use Rattle.std.specs.Prelude.{List, ℕ, zero, suc, ◌+◌, ◌*◌, ◌/◌, ◌%◌, ◌≡◌, length, get_or}
use Rattle.laws.specs.Tab.{tab, Below}

-- n bytes
pub record Bytes (n : ℕ) (l : List ℕ) : Type 0 where
  pub long : length l ≡ n
  pub below : Below 256 l

unfoldable pub half : ℕ → ℕ → ℕ
half zero b = b % 16
half (suc r) b = b / 16 % 16

-- the semi-octet at place p of the bytes s
unfoldable pub semi : List ℕ → ℕ → ℕ
semi s p = half (p % 2) (get_or s (p / 2) 0)

-- n bytes with the semi-octet f p at place p: byte j is place 2j + 16 x place 2j + 1 (A.52)
unfoldable pub pack : (ℕ → ℕ) → ℕ → List ℕ
pack f n = tab (λ j. f (2 * j) + 16 * f (2 * j + 1)) n
