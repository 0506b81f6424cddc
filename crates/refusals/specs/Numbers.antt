-- The numbers of refusals and of the causes of a bit error, as documents 01 and 02 have them. Assumes nothing.
use Rattle.std.specs.Prelude.{ℕ, Result, Ok, Err}
use Rattle.refusals.specs.declared.Cause.{Cause}
use Rattle.refusals.specs.declared.Cause.TheVariants as cause
use Rattle.refusals.specs.declared.Refusal.{Refusal}
use Rattle.refusals.specs.declared.Refusal.TheVariants as refusal

-- 1: bandwidth above index; 2: last line above NE; 3: joint index at or above its end; 4: arithmetic value at or above the scaled range;
-- 5: fourteen escapes in a pair; 6: a byte outside the frame is wanted; 7: fewer than no bits left for the residual; 8: order above the
-- highest
abbrev pub cause_number : Cause → ℕ
cause_number cause.Bandwidth = 1
cause_number cause.LastLine = 2
cause_number cause.Joint = 3
cause_number cause.Scaled = 4
cause_number cause.Escapes = 5
cause_number cause.Outside = 6
cause_number cause.Residual = 7
cause_number cause.Order = 8

-- 1: a setting is out of range, or the record's rules say 1; 2: a lent buffer has not the exact length named; 3: a word has no valid word
-- near enough; 4: the corrected slot is not what protecting makes of any frame and request; 5: a bit error; 6: the record has no room;
-- 7: the bytes are not a record; 8: the frame is too small for what is to be written
abbrev pub refusal_number : Refusal → ℕ
refusal_number refusal.Setting = 1
refusal_number refusal.Length = 2
refusal_number refusal.Beyond = 3
refusal_number refusal.Foreign = 4
refusal_number (refusal.BitError why) = 5
refusal_number refusal.NoRoom = 6
refusal_number refusal.NotRecord = 7
refusal_number refusal.TooSmall = 8

-- the cause's number, 0 where it is no bit error
abbrev pub refusal_cause : Refusal → ℕ
refusal_cause refusal.Setting = 0
refusal_cause refusal.Length = 0
refusal_cause refusal.Beyond = 0
refusal_cause refusal.Foreign = 0
refusal_cause (refusal.BitError why) = cause_number why
refusal_cause refusal.NoRoom = 0
refusal_cause refusal.NotRecord = 0
refusal_cause refusal.TooSmall = 0

-- 0: accepted; else the refusal's number
abbrev pub number_of : {T : Type 0} → Result T Refusal → ℕ
number_of (Ok x) = 0
number_of (Err why) = refusal_number why
