-- What stays at 10 ms: its settings are document 01's; causes 1 to 7 are there at every setting, and cause 8 at neither 7.5 nor 10 ms.
-- Assumes nothing.
use mathlib.Core.Path.{◌≡◌, refl}
use mathlib.Core.Bool.{Bool, true, false, cond}
use Rattle.std.specs.Prelude.{Option, None, Some}
use mathlib.Core.List.{List, [], ◌∷◌}
use Prim.Native.Nat.{ℕ, ◌<◌, ◌≤◌}
use native.Mathlib.Omega.{arith}
use lib.Dec.{ltb, eqb}
use borrow.Author.Tests.{lt-leb}
use Rattle.frame_settings.specs.Settings.{rates, durations, setting, rate_in, listed, setting_for, setting_of}
use Rattle.frame_settings.specs.Settings.{last_cause, last_cause_of}
use Rattle.frame_settings.specs.declared.Rate.{Rate}
use Rattle.frame_settings.specs.declared.Setting.{Setting}
use Rattle.frame_settings.specs.TenMs.{Row, setting_in, TenMs}

-- ---- document 01's table

-- the rates with their settings of 10 ms
rows : List Rate → List Row
rows [] = []
rows (x ∷ xs) = record { khz = x.khz; given = setting x 40 } ∷ rows xs

row_first : (x : Rate) (b : Bool) (o : Option Rate) (s : Option Setting) → setting_for o 40 ≡ s
    → setting_for (cond b (Some x) o) 40 ≡ cond b (Some (setting x 40)) s
row_first x true o s e = refl
row_first x false o s e = e

in_rows : (xs : List Rate) (khz : ℕ) → setting_for (rate_in xs khz) 40 ≡ setting_in (rows xs) khz
unfolding rows
in_rows [] khz = refl
in_rows (x ∷ xs) khz = row_first x (eqb khz x.khz) (rate_in xs khz) (setting_in (rows xs) khz) (in_rows xs khz)

pub ten-ms : TenMs
unfolding setting_of rows
ten-ms = record { settings = in_rows rates; filters = refl; order = refl; weight = λ bytes. refl }

-- ---- causes

pub least-causes : (order : ℕ) → 7 ≤ last_cause order
least-causes order = go (ltb order 8)
  where
    go : (b : Bool) → 7 ≤ cond b 8 7
    go true = omega arith
    go false = omega arith

seven-for : (o : Option Rate) (q : ℕ) → 20 < q → last_cause_of (setting_for o q) ≡ 7
unfolding last_cause_of
seven-for None q h = refl
seven-for (Some x) q h = go (listed durations q)
  where
    go : (b : Bool) → last_cause_of (cond b (Some (setting x q)) None) ≡ 7
    go true = rw (lt-leb q 20 h)
    go false = refl

-- at 7.5 and 10 ms
pub seven-causes : (khz q : ℕ) → 20 < q → last_cause_of (setting_of khz q) ≡ 7
unfolding setting_of
seven-causes khz q h = seven-for (rate_in rates khz) q h
