-- Document 01's "Small sums to prove together": one statement over the definitions of every layer. proofs/Sums.antt proves it. Assumes
-- nothing.
use Rattle.std.specs.Prelude.{◌≡◌, Some, List, [], ◌∷◌, ℕ, suc, ◌-◌, ◌^◌, ◌≤◌}
use Rattle.gf16.specs.Field.{product}
use Rattle.code_word_laws.specs.Polynomial.{generator}
use Rattle.slot_laws.specs.Sizes.{words, word_length}
use Rattle.frame_bits.specs.Read.{value, cause}
use Rattle.frame_settings.specs.Settings.{setting_of}
use Rattle.frame_bits.specs.Bits.{read_bit, read_bits}
use Rattle.frame_side.specs.Side.{head_of}
use Rattle.frame_pair.specs.declared.Streams.{Streams}
use Rattle.frame_pair.specs.Pair.{plane_of, last_of, context_of, signed_of, pair_of}
use Rattle.frame_pair.specs.declared.Last.{Last}
use Rattle.frame_coder.specs.declared.Coder.{Coder}
use Rattle.frame_settings.specs.declared.Setting.{Setting}
use Rattle.record_forms.specs.declared.Form.TheVariants as form
use Rattle.record_bytes.specs.Layout.{record_bytes}

-- a value of n bits, all of them set
abbrev pub all_set : ℕ → ℕ
all_set n = 2 ^ n - 1

-- a pair's last symbol behind thirteen escapes, every bit of which was set
abbrev pub last_set : Last
last_set = record { symbol = 15; x = all_set 13; y = all_set 13; level = 13 }

pub record SmallSums (at24 at48 : Setting) : Type 0 where
  -- "2 x 9 = 1 and 6 x 11 = 15 in the field"
  pub products : (product 2 9 ≡ 1) × (product 6 11 ≡ 15)
  -- "the three polynomials"
  pub polynomials : (generator 3 ≡ 8 ∷ 6 ∷ 1 ∷ []) × (generator 5 ≡ 7 ∷ 8 ∷ 12 ∷ 13 ∷ 1 ∷ [])
      × (generator 7 ≡ 12 ∷ 10 ∷ 12 ∷ 3 ∷ 9 ∷ 7 ∷ 1 ∷ [])
  -- "word counts of slots 40, 80 and 400"
  pub counts : (words 40 ≡ 6) × (words 80 ≡ 11) × (words 400 ≡ 54)
  -- "slot 40 has lengths 14, 14, 13, 13, 13, 13"
  pub lengths :
      (word_length 40 0 ≡ 14) × (word_length 40 1 ≡ 14) × (word_length 40 2 ≡ 13) × (word_length 40 3 ≡ 13) × (word_length 40 4 ≡ 13)
      × (word_length 40 5 ≡ 13)
  -- "context 255 with pair (3, 3) at level 1 gives 253"
  pub context : context_of 255 3 3 1 ≡ 253
  -- "level 13 with all bits set gives 32,767": an escape whose two bits are set lengthens both values by one ..
  pub escape : (s : List ℕ) (level p q r : ℕ) → read_bit s p ≡ value 1 q → read_bit s q ≡ value 1 r
      → plane_of s 0 level (all_set level) (all_set level) p ≡ value (record { x = all_set (suc level); y = all_set (suc level) }) r
  -- .. and behind thirteen of them symbol 15 makes each 32,767
  pub highest : (s look cum : List ℕ) (lsb base context p : ℕ) (c : Coder) (k : Streams)
      → last_of s look cum lsb base 14 0 0 0 c p ≡ value last_set k
      → pair_of s look cum lsb base context c p ≡ signed_of s context 32767 32767 last_set k.coder k.side
  -- the settings of 24 and 48 kHz at 10 ms
  pub rates : (setting_of 24 40 ≡ Some at24) × (setting_of 48 40 ≡ Some at48)
  -- "at 48 kHz field 199 gives line 400"
  pub line_400 : (s : List ℕ) (b m g : ℕ) → b ≤ 4
      → read_bits s 0 3 ≡ value b 3 → read_bits s 3 8 ≡ value 199 11 → read_bits s 11 1 ≡ value m 12 → read_bits s 12 8 ≡ value g 20
      → head_of s at48 ≡ value (record { bandwidth = b; last_line = 400; lsb_mode = m; gain = g }) 20
  -- "and 200 is cause 2"
  pub past_400 : (s : List ℕ) (b : ℕ) → b ≤ 4 → read_bits s 0 3 ≡ value b 3 → read_bits s 3 8 ≡ value 200 11 → head_of s at48 ≡ cause 2
  -- "at 24 kHz bandwidth 3 is cause 1"
  pub bandwidth : (s : List ℕ) → read_bits s 0 2 ≡ value 3 2 → head_of s at24 ≡ cause 1
  -- "an empty record is four zero bytes", in form 1
  pub empty : record_bytes form.One [] ≡ 0 ∷ 0 ∷ 0 ∷ 0 ∷ []
