-- The whole frame (5.4.2): what each return of the reader's own functions says, from what was found up to it.
-- Assumes nothing.
use mathlib.Core.Path.{◌≡◌}
use mathlib.Core.List.{List}
use Prim.Native.Nat.{ℕ, ◌≤◌, ◌<◌}
use lib.ListN.{length}
use borrow.Author.Tests.{eq-eqb, ne_eqb, le-leb, lt-leb}
use Rattle.frame_bits.specs.Read.{value, cause}
use Rattle.frame_settings.specs.Settings.{setting_of, order_of, last_cause, last_cause_of}
use Rattle.frame_side.specs.Side.{side_of}
use Rattle.frame_arithmetic.specs.Answers.{arithmetic_from}
use Rattle.frame.specs.Frame.{frame_of}
use Rattle.frame_arithmetic.specs.Answers.{refused, judged_read}
use Rattle.frame.specs.Frame.{judged_sized, judged_of}
use Rattle.frame_settings.specs.declared.Setting.{Setting}
use Rattle.std.specs.Prelude.{Option, Some, None, Result, Err}
use Rattle.std.specs.Option.{ok_or}
use Rattle.refusals.specs.declared.Refusal.{Refusal}
use Rattle.frame_side.specs.declared.Side.{Side}

-- ---- the steps before the arithmetic stream

pub frame-side : (s : List ℕ) (r : Setting) (k : ℕ) → side_of s r ≡ cause k → frame_of s r ≡ cause k
unfolding frame_of
frame-side s r k e = rw e

pub frame-rest : (s : List ℕ) (r : Setting) (v : Side) (p : ℕ) → side_of s r ≡ value v p → frame_of s r ≡ arithmetic_from s r v p
unfolding frame_of
frame-rest s r v p e = rw e

pub judged-spectrum : (r : Setting) (s : List ℕ) (x b : ℕ) → (x ≡ r.lines → ⊥) → judged_sized r s x b ≡ refused 2 0
judged-spectrum r s x b h = rw (ne_eqb x r.lines h)

pub judged-residual : (r : Setting) (s : List ℕ) (x b : ℕ) → x ≡ r.lines → (b ≡ r.lines → ⊥) → judged_sized r s x b ≡ refused 2 0
judged-residual r s x b e h = rw (eq-eqb x r.lines e, ne_eqb b r.lines h)

pub judged-read : (r : Setting) (s : List ℕ) (x b : ℕ) → x ≡ r.lines → b ≡ r.lines → judged_sized r s x b ≡ judged_read (frame_of s r)
judged-read r s x b e f = rw (eq-eqb x r.lines e, eq-eqb b r.lines f)

-- ---- a rate and a duration, and the frame's length

-- what is answered for a setting that is none
pub none-is : (x : Option Setting) (e why : Refusal) → x ≡ None → ◌≡◌ {A = Result Setting Refusal} (Err e) (ok_or x why) → e ≡ why
none-is x e why i h = let k = rw i at h in cc

module _ (khz q : ℕ) (s : List ℕ) (x b : ℕ) where
  pub judged-unknown : setting_of khz q ≡ None → judged_of khz q s x b ≡ refused 1 0
  unfolding judged_of
  judged-unknown e = rw e

  module _ (r : Setting) (e : setting_of khz q ≡ Some r) where
    pub judged-short : length s < 20 → judged_of khz q s x b ≡ refused 1 0
    unfolding judged_of
    judged-short h = rw (e, lt-leb 20 (length s) h)

    pub judged-long : 20 ≤ length s → 400 < length s → judged_of khz q s x b ≡ refused 1 0
    unfolding judged_of
    judged-long l h = rw (e, le-leb 20 (length s) l, lt-leb (length s) 400 h)

    pub judged-known : 20 ≤ length s → length s ≤ 400 → judged_of khz q s x b ≡ judged_sized r s x b
    unfolding judged_of
    judged-known l h = rw (e, le-leb 20 (length s) l, le-leb (length s) 400 h)

-- the causes that can arise there
pub causes-known : (khz q : ℕ) (r : Setting) → setting_of khz q ≡ Some r
    → last_cause_of (setting_of khz q) ≡ last_cause (order_of r.duration)
unfolding last_cause_of
causes-known khz q r e = rw e
