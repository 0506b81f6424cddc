-- What reading gives back of what was written: the fields, the coefficients and the lines as given, and the residual bits that were sent.
-- Assumes nothing.
use Rattle.std.specs.Prelude.{◌≡◌, List, ◌++◌, ℕ, ◌-◌, length, take, replicate}
use Rattle.frame_bits.specs.Read.{value}
use Rattle.frame_settings.specs.declared.Setting.{Setting}
use Rattle.frame_arithmetic.specs.Answers.{Whole}
use Rattle.frame.specs.Frame.{frame_of}
use Rattle.writer_laws.specs.Writing.{Given, items_of, bits_before, sent_of, bytes_of}

-- the first k residual bits, then 0
abbrev pub kept_bits : ℕ → List ℕ → List ℕ
kept_bits k l = take k l ++ replicate (length l - k) 0

-- what an accepted frame holds: what was given, k residual bits, and so many symbols
abbrev pub whole_back : Given → ℕ → ℕ → Whole
whole_back g k symbols = record {
  side = g.fields.side;
  first = record { order = g.fields.tns_order_0; coefficients = g.first };
  second = record { order = g.fields.tns_order_1; coefficients = g.second };
  spectral = record { symbols = symbols; lines = g.lines; residual = record { number = k; bits = kept_bits k g.residual } };
}

-- the frame reads as what was given, with the residual bits that were sent
abbrev pub ReadsBack : Setting → ℕ → Given → Type 0
ReadsBack r n g =
    frame_of (bytes_of r n g) r ≡ value (whole_back g (sent_of r n g) (length (items_of r n g))) (length (bits_before r g))
