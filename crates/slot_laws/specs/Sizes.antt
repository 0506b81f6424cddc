-- The sizes of a slot's parts (A.7 to A.15), from the slot's size in bytes and the mode.
-- Assumes nothing.
use Rattle.std.specs.Prelude.{cond, ◌≡◌, ℕ, ◌+◌, ◌-◌, ◌*◌, ◌/◌, ◌≤◌, ◌<◌, leb, eqb}
use Rattle.laws.specs.Tab.{total}
use Rattle.code_word_laws.specs.Word.{distance}

-- document 01's settings: slot 40 to 400 bytes, mode 2, 3 or 4
pub record InRange (size mode : ℕ) : Type 0 where
  pub size_from : 40 ≤ size
  pub size_to : size ≤ 400
  pub mode_from : 2 ≤ mode
  pub mode_to : mode ≤ 4

-- .. and the request
pub record Settings (size mode q : ℕ) : Type 0 where
  pub range : InRange size mode
  pub request : q < 4

-- the number of words: 2 x slot / 15, rounded up (A.7)
unfoldable pub words : ℕ → ℕ
words size = (2 * size + 14) / 15

-- the semi-octets of word i (A.8)
unfoldable pub word_length : ℕ → ℕ → ℕ
word_length size i = (2 * size - i - 1) / words size + 1

-- the data semi-octets of word i: all but the d - 1 check semi-octets (A.10, A.38)
unfoldable pub data_length : ℕ → ℕ → ℕ → ℕ
data_length size mode i = word_length size i - (distance mode - 1)

-- the words of the partial concealment block: floor(0.080447761194030 Ns - 1.791044776119394 + 0.5) in mode 3,
-- floor(0.066492537313433 Ns - 1.970149253731338 + 0.5) in mode 4, from 80 bytes up (A.11); the numbers are multiplied by 10^15
unfoldable pub conceal_words : ℕ → ℕ → ℕ
conceal_words size mode =
    cond (leb 80 size)
    (cond (eqb mode 3) ((80447761194030 * size - 1791044776119394 + 500000000000000) / 1000000000000000)
    (cond (eqb mode 4) ((66492537313433 * size - 1970149253731338 + 500000000000000) / 1000000000000000) 0))
    0

-- the data semi-octets of the last n words
unfoldable pub block : ℕ → ℕ → ℕ → ℕ
block size mode n = total (λ j. data_length size mode (words size - 1 - j)) n

-- the semi-octets of the partial concealment block (A.12)
unfoldable pub conceal : ℕ → ℕ → ℕ
conceal size mode = block size mode (conceal_words size mode)

-- the first hash in bytes, with the two request bits; mode 2 and up (A.13)
unfoldable pub hash1 : ℕ → ℕ
hash1 size = cond (eqb size 40) 2 3

-- the second hash in bytes (A.14)
unfoldable pub hash2 : ℕ → ℕ → ℕ
hash2 size mode = cond (leb 80 size) (cond (leb 3 mode) 2 0) 0

-- the frame in bytes (A.15); N (d - 1) / 2 is N (m - 1)
unfoldable pub frame_size : ℕ → ℕ → ℕ
frame_size size mode = size - hash1 size - hash2 size mode - words size * (mode - 1)

-- the semi-octets of the heading: first hash with the request, and second hash
abbrev pub heading_size : ℕ → ℕ → ℕ
heading_size size mode = 2 * hash1 size + 2 * hash2 size mode

-- the semi-octets of a slot's data: heading and frame
abbrev pub data_size : ℕ → ℕ → ℕ
data_size size mode = heading_size size mode + 2 * frame_size size mode

-- the two as a caller learns them, with their bounds
pub record IsHeadingSize (size mode r : ℕ) : Type 0 where
  pub is : r ≡ heading_size size mode
  pub most : r ≤ 10

pub record IsDataSize (size mode r : ℕ) : Type 0 where
  pub is : r ≡ data_size size mode
  pub most : r ≤ 800

-- what a caller who asks for the frame's size gets: 0 where a setting is out of range
pub record IsFrameSize (size mode r : ℕ) : Type 0 where
  pub inside : InRange size mode → r ≡ frame_size size mode
  pub outside : (InRange size mode → ⊥) → r ≡ 0
