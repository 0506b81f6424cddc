-- The settings of 10 ms as document 01 has them ("Reading a frame"): its table, and the numbers in its text. proofs/TenMs.antt shows that
-- they are the 10 ms part of the settings. Assumes nothing.
use Rattle.std.specs.Prelude.{◌≡◌, cond, Option, None, Some, List, [], ◌∷◌, ℕ, ◌*◌, ltb, eqb}
use Rattle.frame_settings.specs.Settings.{setting_of, filters_of, order_of, weighting}
use Rattle.frame_settings.specs.declared.Setting.{Setting}

-- a row of document 01's table: a rate, and its setting
pub record Row : Type 0 where
  pub khz : ℕ
  pub given : Setting

-- kHz, index, NE, bandwidth bits, last-pair bits
abbrev pub row : ℕ → ℕ → ℕ → ℕ → ℕ → Row
row khz index lines bandwidth pair =
    record { khz = khz; given = record { index = index; lines = lines; bandwidth = bandwidth; pair = pair; duration = 40 } }

abbrev pub table : List Row
table = row 8 0 80 0 6 ∷ row 16 1 160 1 7 ∷ row 24 2 240 2 7 ∷ row 32 3 320 2 8 ∷ row 48 4 400 3 8 ∷ []

-- the setting of a rate in such a table
abbrev pub setting_in : List Row → ℕ → Option Setting
setting_in [] khz = None
setting_in (x ∷ xs) khz = cond (eqb khz x.khz) (Some x.given) (setting_in xs khz)

pub record TenMs : Type 0 where
  -- the table, for every rate, known or not
  pub settings : (khz : ℕ) → setting_of khz 40 ≡ setting_in table khz
  -- "one filter for bandwidth 0 to 2, else two"
  pub filters : filters_of 40 ≡ 2
  -- an order is 1 + a symbol (0 .. 7): none is above the highest
  pub order : order_of 40 ≡ 8
  -- the weighting is 1 below 480 bits
  pub weight : (bytes : ℕ) → weighting 40 bytes ≡ cond (ltb (8 * bytes) 480) 1 0
