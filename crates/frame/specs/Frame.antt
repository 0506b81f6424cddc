-- A whole frame (5.4.2), in the order of reading, and document 01's refusals 1 and 2 in front of it. Assumes nothing.
use Rattle.std.specs.Prelude.{Bool, ◌&&◌, cond, Option, Some, None, List, ℕ, leb, eqb, length}
use Rattle.frame_bits.specs.Read.{Read, and_then}
use Rattle.frame_settings.specs.Settings.{setting_of}
use Rattle.frame_side.specs.Side.{side_of}
use Rattle.frame_settings.specs.declared.Setting.{Setting}
use Rattle.frame_arithmetic.specs.Answers.{Whole, arithmetic_from, Judged, judged_read, refused}

-- the frame's fields, spectrum and residual bits, or the first cause in reading order
unfoldable pub frame_of : List ℕ → Setting → Read ℕ Whole
frame_of s r = and_then (side_of s r) (λ v p. arithmetic_from s r v p)

-- "frame for the frame reader 20 to 400 bytes"
abbrev pub sized : ℕ → Bool
sized n = leb 20 n && leb n 400

-- 2: a lent buffer hasn't NE entries; x and b are the lengths of the two
abbrev pub judged_sized : Setting → List ℕ → ℕ → ℕ → Judged
judged_sized r s x b = cond (eqb x r.lines && eqb b r.lines) (judged_read (frame_of s r)) (refused 2 0)

-- 1: a setting is out of range
abbrev pub judged_at : Option Setting → List ℕ → ℕ → ℕ → Judged
judged_at None s x b = refused 1 0
judged_at (Some r) s x b = cond (sized (length s)) (judged_sized r s x b) (refused 1 0)

-- of a rate, a duration, a frame, and the lengths of the two lent buffers
unfoldable pub judged_of : ℕ → ℕ → List ℕ → ℕ → ℕ → Judged
judged_of khz q s x b = judged_at (setting_of khz q) s x b
