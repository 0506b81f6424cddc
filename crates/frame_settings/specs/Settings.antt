-- The settings of a frame (document 01, "Reading a frame"; request 02 §3): what the rate and the duration give, and how long a frame may
-- be. The duration is counted in quarter milliseconds. Assumes nothing.
use Rattle.std.specs.Prelude.{◌≡◌, Bool, true, false, cond, Option, None, Some, List, [], ◌∷◌, ℕ, zero, suc, ◌+◌, ◌-◌, ◌*◌, ◌/◌, ◌^◌}
use Rattle.std.specs.Prelude.{◌≤◌, ltb, leb, eqb, length}
use Rattle.frame_settings.specs.declared.Rate.{Rate}
use Rattle.frame_settings.specs.declared.Setting.{Setting}

-- a rate: kHz, "index" (formula 1), and the bits of the bandwidth (Table 5.21)
abbrev pub rate : ℕ → ℕ → ℕ → Rate
rate khz index bandwidth = record { khz = khz; index = index; bandwidth = bandwidth }

-- "rate 8, 16, 24, 32 or 48 kHz"
abbrev pub rates : List Rate
rates = rate 8 0 0 ∷ rate 16 1 1 ∷ rate 24 2 2 ∷ rate 32 3 2 ∷ rate 48 4 3 ∷ []

-- 5.2.4: 2.5, 5, 7.5 and 10 ms
abbrev pub durations : List ℕ
durations = 10 ∷ 20 ∷ 30 ∷ 40 ∷ []

-- ceil (log2 n) up to the width w: the least width that numbers n things
abbrev pub width_of : ℕ → ℕ → ℕ
width_of n zero = 0
width_of n (suc w) = cond (leb n (2 ^ w)) (width_of n w) (suc w)

-- 5.4.2.3.1, lastnz_bits, of NE / 2 up to 256: one more where fewer than two values would be left
abbrev pub pair_bits : ℕ → ℕ
pair_bits half = cond (ltb (2 ^ width_of half 8 - half) 2) (suc (width_of half 8)) (width_of half 8)

-- formula 7: NE, rate times duration, at most 40 lines a millisecond
abbrev pub lines_of : ℕ → ℕ → ℕ
lines_of khz q = cond (ltb khz 40) khz 40 * q / 4

-- what a rate and a duration give
abbrev pub setting : Rate → ℕ → Setting
setting r q = record {
  index = r.index;
  lines = lines_of r.khz q;
  bandwidth = r.bandwidth;
  pair = pair_bits (lines_of r.khz q / 2);
  duration = q;
}

-- the rate of so many kHz in such a table
abbrev pub rate_in : List Rate → ℕ → Option Rate
rate_in [] khz = None
rate_in (x ∷ xs) khz = cond (eqb khz x.khz) (Some x) (rate_in xs khz)

-- q is one of the list
abbrev pub listed : List ℕ → ℕ → Bool
listed [] q = false
listed (x ∷ xs) q = cond (eqb q x) true (listed xs q)

-- of a rate that was found or not, and a duration
abbrev pub setting_for : Option Rate → ℕ → Option Setting
setting_for None q = None
setting_for (Some x) q = cond (listed durations q) (Some (setting x q)) None

-- the setting of a rate and a duration; none where one of them is out of range
unfoldable pub setting_of : ℕ → ℕ → Option Setting
setting_of khz q = setting_for (rate_in rates khz) q

-- NE; 0 where there is no setting
abbrev pub lines_at : Option Setting → ℕ
lines_at (Some r) = r.lines
lines_at None = 0

unfoldable pub line_count : ℕ → ℕ → ℕ
line_count khz q = lines_at (setting_of khz q)

-- NE / 2, past which the contexts have another offset
abbrev pub half_of : Setting → ℕ
half_of r = r.lines / 2

-- "frame for the frame reader 20 to 400 bytes"
pub record Sized (s : List ℕ) : Type 0 where
  pub least : 20 ≤ length s
  pub most : length s ≤ 400

-- Tables 5.15 and 5.24: the TNS filters at bandwidth 3 and 4
abbrev pub filters_of : ℕ → ℕ
filters_of q = cond (eqb q 10) 1 2

-- 5.4.2.7, maxTnsOrder: half of 8 up to 5 ms
abbrev pub order_of : ℕ → ℕ
order_of q = cond (leb q 20) 4 8

-- formula 69, tns_lpc_weighting: 1 where the frame has fewer bits than 480 at 10 ms, and in the same measure at the others
abbrev pub weighting : ℕ → ℕ → ℕ
weighting q bytes = cond (ltb (8 * bytes) (12 * q)) 1 0

-- 5.3.11.5, rateFlag: the offset of the context at high bit rates, "512 when the frame's bits exceed 160 + 160 x index"
abbrev pub rate_offset : ℕ → ℕ → ℕ
rate_offset index bytes = cond (ltb (160 + 160 * index) (8 * bytes)) 512 0

-- the highest cause that can arise: 8 is an order above the highest, and no symbol says an order above 8
abbrev pub last_cause : ℕ → ℕ
last_cause order = cond (ltb order 8) 8 7

unfoldable pub last_cause_of : Option Setting → ℕ
last_cause_of (Some r) = last_cause (order_of r.duration)
last_cause_of None = 7

-- what the reader uses of a setting
pub record Known (r : Setting) : Type 0 where
  pub index : r.index ≤ 4
  pub lines : r.lines ≤ 400
  pub even : r.lines ≡ 2 * half_of r
  pub bandwidth : r.bandwidth ≤ 3
  pub pair : r.pair ≤ 8
  pub duration : r.duration ≤ 40

abbrev pub KnownSetting : Option Setting → Type 0
KnownSetting (Some r) = Known r
KnownSetting None = Unit {0}
