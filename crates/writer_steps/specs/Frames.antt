-- What the writer's own steps ask and promise of a frame. Assumes nothing.
use Rattle.std.specs.Prelude.{◌≡◌, true, List, ◌++◌, ℕ, ◌+◌, ◌-◌, ◌*◌, ◌<◌, ◌≤◌, length, take, Option, Some, None}
use Rattle.frame_coder.specs.declared.Coder.{Coder}
use Rattle.frame_residual.specs.Residual.{used_bits}
use Rattle.frame_settings.specs.Settings.{Known}
use Rattle.frame_settings.specs.declared.Setting.{Setting}
use Rattle.writer_laws.specs.Stream.{whole_of}
use Rattle.writer_laws.specs.SideBits.{number_of}
use Rattle.writer_steps.specs.Cursors.{Kept, Binary}
use Rattle.writer_steps.specs.declared.Cursor.{Cursor}
use Rattle.writer_steps.specs.Sends.{Sends}
use Rattle.writer_steps.specs.declared.PairsSent.{PairsSent}
use Rattle.writer_laws.specs.Ending.{frame_number, digits}
use Rattle.writer_laws.specs.Fits.{fields_fit, lines_fit}
use Rattle.writer_laws.specs.Writing.{Given, bits_before, stream_of, needed_bits, sent_of, bytes_of}

-- what can be written into n bytes
pub record Writable (r : Setting) (n : ℕ) (g : Given) : Type 0 where
  pub known : Known r
  pub least : 20 ≤ n
  pub most : n ≤ 400
  pub fields : fields_fit r g.fields g.first g.second ≡ true
  pub lines : lines_fit g.fields g.lines g.residual ≡ true
  pub spectrum : length g.lines ≡ r.lines
  pub residual : length g.residual ≡ r.lines
  pub first : length g.first ≡ 8
  pub second : length g.second ≡ 8

-- both streams behind the last pair; or the frame is too small
abbrev pub StreamsAre : Setting → ℕ → Given → List ℕ → List ℕ → Option PairsSent → Type 0
StreamsAre r n g front side (Some s) =
    (whole_of front s.coder ≡ stream_of r n g) × Kept (bits_before r g) side s.side × Sends 403 2818 3200 front side s.coder s.side
    × (8 * (s.coder.at - 3) + 2 + s.side.at ≤ 8 * n)
StreamsAre r n g front side None = 8 * n < needed_bits r n g

-- what the rest is written from: both streams, with some side bits written, so many residual bits, and a frame that has room for all
pub record Rest (front side : List ℕ) (n : ℕ) (c : Coder) (p : Cursor) (sent : ℕ) (bits : List ℕ) : Type 0 where
  pub sends : Sends 403 2818 3200 front side c p
  pub before : List ℕ
  pub kept : Kept before side p
  pub most : n ≤ 400
  pub inside : sent ≤ length bits
  pub binary : Binary sent bits
  pub room : used_bits p.at c + sent ≤ 8 * n

-- the frame is that of the side bits that were written, and the residual bits behind them
abbrev pub RestIs : List ℕ → List ℕ → ℕ → Coder → Cursor → ℕ → List ℕ → List ℕ → Type 0
RestIs front side n c p sent bits frame' =
    (l : List ℕ) → Kept l side p → frame' ≡ digits n (frame_number n (whole_of front c) (number_of (l ++ take sent bits)))

-- the frame written; or it is too small, and as lent
abbrev pub FrameIs : Setting → Given → List ℕ → List ℕ → Option ℕ → Type 0
FrameIs r g frame frame' (Some k) =
    (needed_bits r (length frame) g ≤ 8 * length frame) × (k ≡ sent_of r (length frame) g) × (frame' ≡ bytes_of r (length frame) g)
FrameIs r g frame frame' None = (8 * length frame < needed_bits r (length frame) g) × (frame' ≡ frame)
