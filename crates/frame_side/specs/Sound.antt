-- What the reader's own steps promise each other beside their definitions: bounds of what is read, and cursors that stay inside.
-- No public promise but `Bounded` of `frame` rests on a line of this. Assumes nothing.
use Rattle.std.specs.Prelude.{◌≡◌, Result, Ok, Err, List, ℕ, ◌+◌, ◌*◌, ◌/◌, ◌<◌, ◌≤◌}
use Rattle.frame_bits.specs.Read.{value}
use Rattle.frame_side.specs.Side.{flags_of, tail_of}
use Rattle.frame_side.specs.declared.Side.{Side}
use Rattle.frame_settings.specs.declared.Setting.{Setting}
use Rattle.frame_side.specs.declared.Flags.{Flags}
use Rattle.frame_side.specs.declared.Head.{Head}
use Rattle.frame_side.specs.declared.Tail.{Tail}
use Rattle.frame_bits.specs.declared.Step.{Step}
use Rattle.refusals.specs.declared.Cause.{Cause}
use Rattle.refusals.specs.Numbers.{cause_number}

-- a head that the pairs can be read with
pub record HeadFor (r : Setting) (h : Head) : Type 0 where
  pub even : h.last_line ≡ 2 * (h.last_line / 2)
  pub last : h.last_line ≤ r.lines
  pub lsb : h.lsb_mode < 2

-- the parts of the side information; a cause is 1, 2 or 3, so that nothing outside the frame was wanted
abbrev pub GoodHead : Setting → Result (Step Head ℕ) Cause → Type 0
GoodHead r (Ok head) = HeadFor r head.value × (head.next ≤ 20)
GoodHead r (Err why) = (1 ≤ cause_number why) × (cause_number why ≤ 2)

pub record GoodFlags (s : List ℕ) (filters bandwidth p : ℕ) (flags : Step Flags ℕ) : Type 0 where
  pub found : flags_of s filters bandwidth p ≡ value flags.value flags.next
  pub pitch : flags.value.pitch_present < 2
  pub next : flags.next ≤ p + 3

pub record GoodTail (s : List ℕ) (pitch p : ℕ) (tail : Step Tail ℕ) : Type 0 where
  pub found : tail_of s pitch p ≡ value tail.value tail.next
  pub next : tail.next ≤ p + 13

-- what the arithmetic stream is read with
pub record Sided (r : Setting) (v : Side) (p : ℕ) : Type 0 where
  pub head : HeadFor r v.head
  pub side : p ≤ 74

abbrev pub GoodSide : Setting → Result (Step Side ℕ) Cause → Type 0
GoodSide r (Ok side) = Sided r side.value side.next
GoodSide r (Err why) = (1 ≤ cause_number why) × (cause_number why ≤ 3)
