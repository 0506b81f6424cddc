-- The spectral data written (5.3.14): pairs of lines one after the other, from line 0 up. Assumes nothing.
use Rattle.std.specs.Prelude.{List, [], ◌++◌, ℕ, zero, suc, ◌+◌, ◌*◌, ◌/◌, ◌^◌, get_or, ℤ, pos, nat_abs}
use Rattle.frame_pair.specs.Pair.{context_of}
use Rattle.frame_pairs.specs.Pairs.{base_of}
use Rattle.frame_pairs.specs.declared.PairSetting.{PairSetting}
use Rattle.writer_laws.specs.Stream.{Item}
use Rattle.writer_laws.specs.Pair.{level_of, pair_items, pair_bits}

-- line k
abbrev pub line_at : List ℤ → ℕ → ℤ
line_at xs k = get_or xs k (pos 0)

-- the context that a pair of lines leaves to the next
abbrev pub context_behind : ℕ → ℤ → ℤ → ℕ
context_behind context u v =
    let x = nat_abs u in let y = nat_abs v in let l = level_of x y in context_of context (x / 2 ^ l) (y / 2 ^ l) l

-- the symbols of n pairs from pair k on
unfoldable pub pairs_items : List ℕ → List ℕ → PairSetting → List ℤ → ℕ → ℕ → ℕ → List Item
pairs_items look cum o xs zero k context = []
pairs_items look cum o xs (suc n) k context =
    pair_items look cum (base_of context o.offset o.half (2 * k)) (line_at xs (2 * k)) (line_at xs (2 * k + 1))
    ++ pairs_items look cum o xs n (suc k) (context_behind context (line_at xs (2 * k)) (line_at xs (2 * k + 1)))

-- their side bits
unfoldable pub pairs_bits : List ℤ → ℕ → ℕ → List ℕ
pairs_bits xs zero k = []
pairs_bits xs (suc n) k = pair_bits (line_at xs (2 * k)) (line_at xs (2 * k + 1)) ++ pairs_bits xs n (suc k)
