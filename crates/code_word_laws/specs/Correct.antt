-- What correcting leaves of a word, and of many words that stand one after the other. Assumes nothing.
use Rattle.std.specs.Prelude.{cond, ◌≡◌, List, ℕ, zero, suc, ◌+◌, ◌/◌, ◌%◌, ◌<◌, ◌≤◌, ltb, length, take, drop, get_or}
use Rattle.code_word_laws.specs.Word.{SemiOctets, Valid, apart, bits_apart, distance, Fits}

-- what may be asked: the settings fit, and every element is a semi-octet
pub record Correctable (mode : ℕ) (old : List ℕ) : Type 0 where
  pub fits : Fits mode (length old)
  pub semi_octets : SemiOctets old

-- w is a valid word of the word's own length within m - 1 places
pub record Near (mode : ℕ) (old w : List ℕ) : Type 0 where
  pub semi_octets : SemiOctets w
  pub long : length w ≡ length old
  pub valid : Valid (distance mode) w
  pub near : apart old w < mode

-- the word left with its counts: the only such word, with the places and the bits in which the two differ; or m places and no bits for
-- none, and the word as it was lent
pub record WordCorrected (mode : ℕ) (old new : List ℕ) (count bits : ℕ) : Type 0 where
  pub found : count < mode → Near mode old new
  pub only : count < mode → (w : List ℕ) → Near mode old w → w ≡ new
  pub counted : count < mode → count ≡ apart old new
  pub bits_counted : count < mode → bits ≡ bits_apart old new
  pub none : mode ≤ count → (w : List ℕ) → Near mode old w → ⊥
  pub kept : mode ≤ count → new ≡ old
  pub told : mode ≤ count → count ≡ mode
  pub no_bits : mode ≤ count → bits ≡ 0

-- the word left is the only such one, and the counts are those of the places and of the bits in which the two differ
pub record IsCorrected (mode : ℕ) (old new : List ℕ) (count bits : ℕ) : Type 0 where
  pub correctable : Correctable mode old
  pub found : Near mode old new
  pub only : (w : List ℕ) → Near mode old w → w ≡ new
  pub counted : count ≡ apart old new
  pub bits_counted : bits ≡ bits_apart old new

-- nothing was corrected: the word is as it was lent, and nothing is counted
pub record Untouched (old new : List ℕ) (count bits : ℕ) : Type 0 where
  pub kept : new ≡ old
  pub zeroed : count ≡ 0
  pub no_bits : bits ≡ 0

-- no such word
pub record IsNone (mode : ℕ) (old new : List ℕ) (count bits : ℕ) : Type 0 where
  pub correctable : Correctable mode old
  pub none : (w : List ℕ) → Near mode old w → ⊥
  pub untouched : Untouched old new count bits

pub record NotCorrected (mode : ℕ) (old new : List ℕ) (count bits : ℕ) : Type 0 where
  pub unfit : Correctable mode old → ⊥
  pub untouched : Untouched old new count bits

-- the length of word i: one more for as many words as semi-octets are left over
abbrev pub length_at : ℕ → ℕ → ℕ → ℕ
length_at many n i = cond (ltb i (many % n)) (many / n + 1) (many / n)

-- where word i starts: behind those before it
abbrev pub start_at : ℕ → ℕ → ℕ → ℕ
start_at many n zero = 0
start_at many n (suc i) = start_at many n i + length_at many n i

-- word i of n
abbrev pub word_at : ℕ → ℕ → List ℕ → List ℕ
word_at n i words = take (length_at (length words) n i) (drop (start_at (length words) n i) words)

-- what may be asked: there is a word, room for both counts of each, the settings fit every word, and every element is a semi-octet
pub record Batch (mode : ℕ) (words counts bits : List ℕ) : Type 0 where
  pub some : 1 ≤ length counts
  pub both : length bits ≡ length counts
  pub fits : (i : ℕ) → i < length counts → Fits mode (length_at (length words) (length counts) i)
  pub semi_octets : SemiOctets words

-- what is left of each word, and its counts
abbrev pub EachCorrected : ℕ → List ℕ → List ℕ → List ℕ → List ℕ → Type 0
EachCorrected mode words words' counts bits =
    (i : ℕ) → i < length counts
    → WordCorrected mode (word_at (length counts) i words) (word_at (length counts) i words') (get_or counts i 0) (get_or bits i 0)

-- each word is corrected, with its counts, or left as it was lent, with m and 0 for its counts
pub record AllCorrected (mode : ℕ) (words counts bits words' counts' bits' : List ℕ) : Type 0 where
  pub batch : Batch mode words counts bits
  pub as_many : length counts' ≡ length counts
  pub as_many_bits : length bits' ≡ length bits
  pub as_long : length words' ≡ length words
  pub each : EachCorrected mode words words' counts' bits'

pub record NoneCorrected (mode : ℕ) (words counts bits words' counts' bits' : List ℕ) : Type 0 where
  pub unfit : Batch mode words counts bits → ⊥
  pub words_kept : words' ≡ words
  pub counts_kept : counts' ≡ counts
  pub bits_kept : bits' ≡ bits
