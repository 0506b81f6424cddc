-- What the private functions promise one another: no part of what is right of a slot.
-- Assumes nothing.
use Rattle.std.specs.Prelude.{◌≡◌, List, ℕ, get_or, zero, suc, ◌+◌, ◌-◌, ◌*◌, ◌/◌, ◌%◌, ◌^◌, ◌≤◌}
use Rattle.slot_laws.specs.Hash.{Degree, pushed}
use Rattle.laws.specs.Tab.{tab}

-- the remainder r, k powers higher, reduced by p
unfoldable pub lifted : ℕ → ℕ → ℕ → ℕ → ℕ
lifted p n zero r = r
lifted p n (suc k) r = pushed p n 0 (lifted p n k r)

-- what t = i % 16, as semi-octet k = i / 16 of the sixteen highest bits of a remainder, comes to sixteen powers higher
unfoldable pub step_at : ℕ → ℕ → ℕ → ℕ
step_at p n i = lifted p n 16 (i % 16 * 2 ^ (4 * (i / 16) + (n - 16)))

-- the table of a polynomial and its degree
unfoldable pub steps_of : ℕ → ℕ → List ℕ
steps_of p n = tab (step_at p n) 64

-- a polynomial that the machine's numbers have room for
pub record Divisor (p n : ℕ) : Type 0 where
  pub degree : Degree p n
  pub to : n ≤ 22

-- and its table
pub record Stepped (p n : ℕ) (steps : List ℕ) : Type 0 where
  pub divisor : Divisor p n
  pub from : 16 ≤ n
  pub table : steps ≡ steps_of p n

-- the four bits of the semi-octet c pushed, the highest first
abbrev pub semi_pushed : ℕ → ℕ → ℕ → ℕ → ℕ
semi_pushed p n c r = pushed p n (c % 2) (pushed p n (c / 2 % 2) (pushed p n (c / 4 % 2) (pushed p n (c / 8 % 2) r)))

-- the semi-octets of a four pushed, the last first
abbrev pub four_pushed : ℕ → ℕ → List ℕ → ℕ → ℕ
four_pushed p n four r =
    semi_pushed p n (get_or four 0 0) (semi_pushed p n (get_or four 1 0) (semi_pushed p n (get_or four 2 0)
    (semi_pushed p n (get_or four 3 0) r)))
