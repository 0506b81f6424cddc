-- One pair of lines written (5.3.14): its level, its symbols, and its side bits, over the reader's rows. Assumes nothing.
use Rattle.std.specs.Prelude.{cond, ◌&&◌, List, [], ◌∷◌, ◌++◌, ℕ, zero, suc, ◌+◌, ◌*◌, ◌/◌, ◌%◌, ◌^◌, ltb, ℤ, pos, negsuc, nat_abs}
use Rattle.frame_pair.specs.Pair.{row_of}
use Rattle.writer_laws.specs.Stream.{Item, item}

-- the escapes of a pair, n at most: "while a or b is 4 or more", both are halved
unfoldable pub level_from : ℕ → ℕ → ℕ → ℕ
level_from zero a b = 0
level_from (suc n) a b = cond (ltb a 4 && ltb b 4) 0 (suc (level_from n (a / 2) (b / 2)))

-- magnitudes up to 32,767 have at most 13
abbrev pub level_of : ℕ → ℕ → ℕ
level_of x y = level_from 13 x y

-- m escapes from a level on, and then the symbol v
unfoldable pub walk_items : List ℕ → List ℕ → ℕ → ℕ → ℕ → ℕ → List Item
walk_items look cum base v zero level = item cum (row_of look base level) 16 v ∷ []
walk_items look cum base v (suc m) level = item cum (row_of look base level) 16 16 ∷ walk_items look cum base v m (suc level)

-- the low bits of these escapes, one for each value
unfoldable pub walk_bits : ℕ → ℕ → ℕ → ℕ → List ℕ
walk_bits x y zero level = []
walk_bits x y (suc m) level = x / 2 ^ level % 2 ∷ y / 2 ^ level % 2 ∷ walk_bits x y m (suc level)

-- "a sign bit (1: negative)" of a line that is not 0
abbrev pub sign_bits : ℤ → List ℕ
sign_bits (pos zero) = []
sign_bits (pos (suc n)) = 0 ∷ []
sign_bits (negsuc n) = 1 ∷ []

-- what of two magnitudes is left at a level, as one symbol: a + 4 b
abbrev pub symbol_at : ℕ → ℕ → ℕ → ℕ
symbol_at x y level = x / 2 ^ level + 4 * (y / 2 ^ level)

unfoldable pub pair_items : List ℕ → List ℕ → ℕ → ℤ → ℤ → List Item
pair_items look cum base u v =
    let x = nat_abs u in let y = nat_abs v in let l = level_of x y in walk_items look cum base (symbol_at x y l) l 0

unfoldable pub pair_bits : ℤ → ℤ → List ℕ
pair_bits u v = let x = nat_abs u in let y = nat_abs v in walk_bits x y (level_of x y) 0 ++ (sign_bits u ++ sign_bits v)
