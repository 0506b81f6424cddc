-- The shape's six fields in the order of reading, and what its definition is behind them. Assumes nothing.
use mathlib.Core.Path.{◌≡◌}
use mathlib.Core.Bool.{Bool, cond}
use mathlib.Core.List.{List}
use Prim.Native.Nat.{ℕ, ◌+◌, ◌-◌, ◌<◌}
use native.Mathlib.Omega.{arith}
use lib.Dec.{leb}
use Rattle.frame_bits.specs.Read.{value, cause}
use Rattle.frame_bits.specs.Fields.{read_list}
use Rattle.frame_bits.specs.Sound.{GoodField}
use Rattle.frame_bits.specs.declared.Step.{Step}
use Rattle.frame_bits.proofs.SideBits.{in-more}
use Rattle.frame_shape.specs.Shape.{shape_of, joint_end}

-- both fives l and h, mode bit m, gain g, sign bit n, joint index j
pub record ShapeFields (s : List ℕ) (p : ℕ) (l h m g n j : Step ℕ ℕ) : Type 0 where
  pub low : GoodField s p 5 l
  pub high : GoodField s l.next 5 h
  pub mode : GoodField s h.next 1 m
  pub gain : GoodField s m.next (1 + m.value) g
  pub sign : GoodField s g.next 1 n
  pub joint : GoodField s n.next (25 - m.value) j

-- what the definition is behind them; t says whether the joint index is at its end or above
pub shape-read :
    (s : List ℕ) (p : ℕ) (l h m g n j : Step ℕ ℕ) (t : Bool) → ShapeFields s p l h m g n j → leb (joint_end m.value) j.value ≡ t
    → shape_of s p
    ≡ cond t (cause 3)
    (value (record {
      low = l.value;
      high = h.value;
      mode = m.value;
      gain = g.value;
      sign = n.value;
      joint = j.value;
    }) j.next)
unfolding shape_of read_list
shape-read s p l h m g n j t f k =
    rw (f.low.found, f.high.found, f.mode.found, f.gain.found, f.sign.found, f.joint.found, k)

-- the gain has one or two bits
pub gain-below : (s : List ℕ) (p q : ℕ) (m g : Step ℕ ℕ) → GoodField s p 1 m → GoodField s q (1 + m.value) g → g.value < 4
gain-below s p q m g e f = in-more g.value (1 + m.value) 2 f.below (omega (arith, e.below))
