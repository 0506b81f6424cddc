-- What the writer's own steps promise each other beside their definitions. Assumes nothing.
use Rattle.std.specs.Prelude.{◌≡◌, List, ℕ, ◌+◌, ◌-◌, ◌*◌, ◌<◌, ◌≤◌, length, Option, Some, None}
use Rattle.frame_coder.specs.declared.Coder.{Coder}
use Rattle.writer_laws.specs.Stream.{Item, coded_all, whole_of}
use Rattle.writer_steps.specs.Flow.{Flows}
use Rattle.writer_steps.specs.Cursors.{Open, Puts}
use Rattle.writer_steps.specs.declared.Cursor.{Cursor}
use Rattle.writer_steps.specs.declared.PairsSent.{PairsSent}

-- what both streams are written from: each with its room, and with counts that the next steps may raise
pub record Sends (bytes symbols bits : ℕ) (front side : List ℕ) (c : Coder) (p : Cursor) : Type 0 where
  pub flows : Flows front c
  pub sides : Open side p
  pub at : c.at ≤ bytes
  pub taken : c.taken ≤ symbols
  pub written : p.at ≤ bits

-- some items and bits were sent: both streams afterwards are the definition's
pub record Sent (items : List Item) (bits : List ℕ) (front front' side side' : List ℕ) (c c' : Coder) (p p' : Cursor) : Type 0 where
  pub coder : whole_of front' c' ≡ coded_all items (whole_of front c)
  pub kept : Puts bits side side' p p'
  pub length : p'.at ≡ p.at + length bits

-- both streams behind the pairs; or they want more than the frame has, whatever is left of the last range
abbrev pub PairsAre : ℕ → List Item → List ℕ → List ℕ → List ℕ → List ℕ → List ℕ → Coder → Cursor → Option PairsSent → Type 0
PairsAre bytes items bits front front' side side' c p (Some s) =
    Sent items bits front front' side side' c s.coder p s.side × Sends 403 2818 3200 front' side' s.coder s.side
    × (8 * (s.coder.at - 3) + 2 + s.side.at ≤ 8 * bytes)
PairsAre bytes items bits front front' side side' c p None =
    8 * bytes < 8 * ((coded_all items (whole_of front c)).at - 3) + 2 + (p.at + length bits)
