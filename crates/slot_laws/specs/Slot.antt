-- The slot that Annex A's encoder makes of a frame and a request (A.1.5), and its words.
-- Assumes nothing.
use Rattle.std.specs.Prelude.{List, ℕ, ◌<◌}
use Rattle.code_word_laws.specs.Word.{distance}
use Rattle.code_word_laws.specs.Make.{coded}
use Rattle.slot_laws.specs.Sizes.{frame_size}
use Rattle.slot_laws.specs.Semi.{Bytes}
use Rattle.slot_laws.specs.Order.{data_of}
use Rattle.slot_laws.specs.Words.{data_word, signature, slot_from, received}

-- what may be sent: a request from 0 to 3, and a frame of the size that the slot has room for
pub record Sent (size mode q : ℕ) (frame : List ℕ) : Type 0 where
  pub request : q < 4
  pub frame_bytes : Bytes (frame_size size mode) frame

-- code word i over the data of a slot (A.43 to A.45)
unfoldable pub code_word : ℕ → ℕ → List ℕ → ℕ → List ℕ
code_word size mode s i = coded (distance mode) (data_word size mode s i)

-- the slot with these data (A.38 to A.52)
unfoldable pub slot_with : ℕ → ℕ → List ℕ → List ℕ
slot_with size mode s = slot_from size (signature mode) (code_word size mode s)

-- the slot that protecting makes
unfoldable pub slot_of : ℕ → ℕ → ℕ → List ℕ → List ℕ
slot_of size mode q frame = slot_with size mode (data_of size mode q frame)

-- word i of a slot as received
unfoldable pub word_in : ℕ → ℕ → List ℕ → ℕ → List ℕ
word_in size mode slot i = received size (signature mode) slot i
