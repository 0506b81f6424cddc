-- What the functions ask of and promise one another: no part of what is right of a slot.
-- Assumes nothing.
use Rattle.std.specs.Prelude.{◌≡◌, List, [], ℕ, ◌-◌, ◌*◌, ◌<◌, length, get_or, take, drop}
use Rattle.laws.specs.Tab.{tab, Below}
use Rattle.gf16.specs.Field.{sum}
use Rattle.code_word_laws.specs.Word.{distance}
use Rattle.code_word_laws.specs.Make.{coded}
use Rattle.code_word_laws.specs.Register.{with_checks}
use Rattle.code_word_laws.specs.Checks.{summed}
use Rattle.slot_laws.specs.Sizes.{InRange, word_length, data_length}
use Rattle.slot_laws.specs.Semi.{semi}
use Rattle.slot_laws.specs.Words.{signature, place_of}
use Rattle.slot_laws.specs.Slot.{code_word}

-- as many semi-octets as a slot has
pub record SemiOctetsOf (size mode : ℕ) (s : List ℕ) : Type 0 where
  pub range : InRange size mode
  pub long : length s ≡ 2 * size
  pub below : Below 16 s

-- the semi-octets of the slot, each at its place
unfoldable pub unpacked : List ℕ → List ℕ
unpacked slot = tab (λ p. semi slot p) (2 * length slot)

-- word i as received, from the places (A.53 to A.55)
unfoldable pub word_from : ℕ → ℕ → List ℕ → ℕ → List ℕ
word_from size mode places i = tab (λ k. sum (get_or places (place_of size i k) 0) (signature mode i k)) (word_length size i)

-- the check semi-octets of word i as received, and the data behind them
abbrev pub checks_from : ℕ → ℕ → List ℕ → ℕ → List ℕ
checks_from size mode places i = take (distance mode - 1) (word_from size mode places i)

abbrev pub data_from : ℕ → ℕ → List ℕ → ℕ → List ℕ
data_from size mode places i = drop (distance mode - 1) (word_from size mode places i)

-- r is the sum, packed, of what these data add to the check semi-octets
abbrev pub ChecksSummed : ℕ → ℕ → List ℕ → ℕ → List ℕ → ℕ → Type 0
ChecksSummed size mode places i rows r = r ≡ summed rows (λ k. get_or (data_from size mode places i) k 0) (data_length size mode i)

-- the check semi-octets are those packed in r
abbrev pub ChecksAre : ℕ → ℕ → List ℕ → ℕ → ℕ → Type 0
ChecksAre size mode places i r = checks_from size mode places i ≡ with_checks (distance mode - 1) r []

-- word i as received is the code word over the data w
abbrev pub CleanOver : ℕ → ℕ → List ℕ → ℕ → List ℕ → Type 0
CleanOver size mode places i w = word_from size mode places i ≡ coded (distance mode) w

-- the first n words as received are the code words over the data
abbrev pub AllClean : ℕ → ℕ → List ℕ → List ℕ → ℕ → Type 0
AllClean size mode places message n = (j : ℕ) → j < n → code_word size mode message j ≡ word_from size mode places j
