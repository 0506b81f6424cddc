-- The way back from the data of a slot: the request, the frame, and whether the heading is the one that they make. That this decides
-- document 01's "some frame and request" is a law (proofs/Rule.antt of `slot`).
-- Assumes nothing.
use Rattle.std.specs.Prelude.{◌≡◌, List, ℕ, ◌*◌, ◌-◌, ◌/◌, take, drop, get_or}
use Rattle.slot_laws.specs.Sizes.{hash1, heading_size, frame_size}
use Rattle.slot_laws.specs.Semi.{pack}
use Rattle.slot_laws.specs.Order.{heading, request_swapped}

-- the frame of n bytes that has these semi-octets, byte order reversed
unfoldable pub rolled : ℕ → List ℕ → List ℕ
rolled n a = pack (λ p. get_or a (2 * n - 1 - p) 0) n

-- the request's two bits
unfoldable pub request_in : ℕ → List ℕ → ℕ
request_in size t = get_or t (2 * hash1 size - 1) 0 / 4

-- the frame's semi-octets
unfoldable pub rest_in : ℕ → ℕ → List ℕ → List ℕ
rest_in size mode t = drop (heading_size size mode) t

-- the heading is the one that the request and the frame's semi-octets make
unfoldable pub Matches : ℕ → ℕ → List ℕ → Type 0
Matches size mode t = heading size mode (request_in size t) (rest_in size mode t) ≡ take (heading_size size mode) t

-- the same from the data as the words carry them, the swap undone
unfoldable pub request_of : ℕ → ℕ → List ℕ → ℕ
request_of size mode s = request_in size (request_swapped size mode s)

unfoldable pub frame_of : ℕ → ℕ → List ℕ → List ℕ
frame_of size mode s = rolled (frame_size size mode) (rest_in size mode (request_swapped size mode s))
