-- The end of the arithmetic stream (5.3.14, ac_enc_finish), and the frame as one number: the stream's bits at the front, the side stream's
-- at the end, zeros between them. Assumes nothing.
use Rattle.std.specs.Prelude.{Bool, cond, List, ℕ, ◌+◌, ◌-◌, ◌*◌, ◌/◌, ◌%◌, ◌^◌, leb}
use Rattle.laws.specs.Tab.{tab}
use Rattle.frame_coder.specs.declared.Coder.{Coder}
use Rattle.frame_residual.specs.Residual.{log2_of}

-- l / m, rounded up
abbrev pub up_of : ℕ → ℕ → ℕ
up_of l m = (l + (m - 1)) / m

-- "v the least multiple of 2^e at or above low": v + 2^e is still inside the range
abbrev pub fitting : ℕ → ℕ → ℕ → Bool
fitting e low range = leb (up_of low (2 ^ e) * 2 ^ e + 2 ^ e) (low + range)

-- the bits behind the shifted digits: 24 - floor (log2 range), one more where v does not fit
unfoldable pub end_bits : ℕ → ℕ → ℕ
end_bits low range = let e = log2_of range 23 in cond (fitting e low range) (24 - e) (25 - e)

-- the bits of the stream as a number: 8 shifts + end_bits of them
unfoldable pub code_of : Coder → ℕ
code_of c = up_of c.low (2 ^ (24 - end_bits c.low c.range))

-- the bits behind them in n bytes
unfoldable pub room_of : ℕ → Coder → ℕ
room_of n c = 8 * n - (8 * (c.at - 3) + end_bits c.low c.range)

-- n bytes as a number, of which `side` is the side stream's
unfoldable pub frame_number : ℕ → Coder → ℕ → ℕ
frame_number n c side = code_of c * 2 ^ room_of n c + side

-- the n bytes of a number, the highest first
unfoldable pub digits : ℕ → ℕ → List ℕ
digits n x = tab (λ i. x / 2 ^ (8 * (n - 1 - i)) % 256) n
