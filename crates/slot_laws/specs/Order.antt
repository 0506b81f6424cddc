-- The data of a slot in order (A.16 to A.37): the frame's semi-octets from the last byte back, both hashes and the request in front of
-- them, and the swap. Semi-octets are numbers below 16; four bits of the annex, the lowest first, are one of them.
-- Assumes nothing.
use Rattle.std.specs.Prelude.{cond, ◌≡◌, List, [], ◌∷◌, ◌++◌, ℕ, zero, suc, ◌+◌, ◌-◌, ◌*◌, ◌/◌, ◌%◌, ◌^◌}
use Rattle.std.specs.Prelude.{eqb, length, take, drop, get_or, set}
use Rattle.laws.specs.Tab.{tab, Below}
use Rattle.code_word_laws.specs.Word.{distance}
use Rattle.slot_laws.specs.Sizes.{word_length, conceal, hash1, hash2, frame_size, data_size}
use Rattle.slot_laws.specs.Semi.{semi}
use Rattle.slot_laws.specs.Hash.{bits_of, hash, poly14, poly16, poly22}

-- the semi-octets of a frame of n bytes, byte order reversed: a[2k] = frame[n-1-k] / 16, a[2k+1] = frame[n-1-k] % 16 (A.16, A.17)
unfoldable pub unrolled : ℕ → List ℕ → List ℕ
unrolled n frame = tab (λ k. semi frame (2 * n - 1 - k)) (2 * n)

-- the part before the partial concealment block, and the block (A.18, A.19)
unfoldable pub part_n : ℕ → ℕ → List ℕ → List ℕ
part_n size mode a = take (2 * frame_size size mode - conceal size mode) a

unfoldable pub part_p : ℕ → ℕ → List ℕ → List ℕ
part_p size mode a = drop (2 * frame_size size mode - conceal size mode) a

-- the first hash, 8 h1 - 2 bits, over the request's bits and those of the first part (A.25)
unfoldable pub first_hash : ℕ → ℕ → ℕ → List ℕ → ℕ
first_hash size mode q a =
    hash (cond (eqb size 40) poly14 poly22) (8 * hash1 size - 2) (q % 2 ∷ q / 2 % 2 ∷ bits_of (part_n size mode a))

-- the second hash, 16 bits, over the bits of the block (A.25)
unfoldable pub second_hash : ℕ → ℕ → List ℕ → ℕ
second_hash size mode a = hash poly16 16 (bits_of (part_p size mode a))

-- the lowest n semi-octets of a number, lowest first
unfoldable pub semis : ℕ → ℕ → List ℕ
semis zero v = []
semis (suc n) v = v % 16 ∷ semis n (v / 16)

-- first hash, request, second hash (A.26 to A.29)
unfoldable pub heading : ℕ → ℕ → ℕ → List ℕ → List ℕ
heading size mode q a =
    semis (2 * hash1 size) (first_hash size mode q a + q * 2 ^ (8 * hash1 size - 2))
    ++ semis (2 * hash2 size mode) (second_hash size mode a)

-- .. and the frame's semi-octets behind them (A.30, A.31)
unfoldable pub ordered : ℕ → ℕ → ℕ → List ℕ → List ℕ
ordered size mode q a = heading size mode q a ++ a

-- the upper two bits of semi-octet i and the lower two of semi-octet j change places
unfoldable pub swapped : ℕ → ℕ → List ℕ → List ℕ
swapped i j s = set (set s i (get_or s i 0 % 4 + 4 * (get_or s j 0 % 4))) j (get_or s j 0 / 4 * 4 + get_or s i 0 / 4)

-- the request's bits 8 h1 - 2 and 8 h1 - 1 and the bits k and k + 1, k = 4 (L(0) - d), change places (A.32 to A.36)
unfoldable pub request_swapped : ℕ → ℕ → List ℕ → List ℕ
request_swapped size mode s = swapped (2 * hash1 size - 1) (word_length size 0 - distance mode) s

-- the data semi-octets of the slot (A.37)
unfoldable pub data_of : ℕ → ℕ → ℕ → List ℕ → List ℕ
data_of size mode q frame = request_swapped size mode (ordered size mode q (unrolled (frame_size size mode) frame))

-- the data semi-octets of a slot: as many as the hashes and the frame have
pub record Data (size mode : ℕ) (s : List ℕ) : Type 0 where
  pub long : length s ≡ data_size size mode
  pub below : Below 16 s
