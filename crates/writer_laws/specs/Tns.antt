-- The TNS data written (5.3.14): for each filter with its flag set the order, then so many coefficients. Assumes nothing.
use Rattle.std.specs.Prelude.{List, [], ◌∷◌, ℕ, zero, suc, ◌*◌, get_or}
use Rattle.writer_laws.specs.Stream.{Item, item}

-- the n coefficients from k on, each a symbol 0 .. 16 of its own row
unfoldable pub coefficient_items : List ℕ → List ℕ → ℕ → ℕ → List Item
coefficient_items rows l zero k = []
coefficient_items rows l (suc n) k = item rows (k * 18) 16 (get_or l k 0) ∷ coefficient_items rows l n (suc k)

-- a filter by its order, which is 0 where its flag is: the order less 1 is a symbol of row w of the orders
unfoldable pub filter_items : List ℕ → List ℕ → ℕ → ℕ → List ℕ → List Item
filter_items orders rows w zero l = []
filter_items orders rows w (suc v) l = item orders (w * 9) 7 v ∷ coefficient_items rows l (suc v) 0
