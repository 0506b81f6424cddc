-- The settings: a rate and a duration of the tables are in range, and one computed test over all twenty settings gives what the reader
-- uses of one. Assumes nothing.
use mathlib.Core.Path.{◌≡◌, refl, subst, sym}
use mathlib.Core.Bool.{Bool, true, false, cond}
use Rattle.std.specs.Prelude.{Option, None, Some}
use mathlib.Core.List.{List, [], ◌∷◌}
use Prim.Native.Nat.{ℕ, ◌*◌, ◌≤◌, ◌<◌}
use native.Mathlib.Omega.{arith}
use lib.Dec.{T, eqb, ltb, leb, eqb→eq, ltb→lt, leb→le}
use borrow.Author.Tests.{eqb-true}
use Rattle.laws.proofs.Every.{both, both_left, both_right}
use Rattle.frame_settings.specs.Settings.{rates, durations, setting, rate_in, listed, setting_for}
use Rattle.frame_settings.specs.Settings.{setting_of, lines_at, line_count, half_of, Known, KnownSetting}
use Rattle.frame_settings.specs.declared.Rate.{Rate}
use Rattle.frame_settings.specs.declared.Setting.{Setting}

-- the test f passes at each of the list
abbrev every_of : {A : Type 0} → List A → (A → Bool) → Bool
every_of [] f = true
every_of (x ∷ xs) f = both (f x) (every_of xs f)

-- ---- a duration that is listed passes what all of the list pass

here-or-later : (x q : ℕ) (xs : List ℕ) (f : ℕ → Bool) (e : Bool) → eqb q x ≡ e → T (cond e true (listed xs q)) → T (f x)
    → (T (listed xs q) → T (f q)) → T (f q)
here-or-later x q xs f true e l t r = subst (λ (y : ℕ). T (f y)) (sym (eqb-true q x e)) t
here-or-later x q xs f false e l t r = r l

at_listed : (xs : List ℕ) (f : ℕ → Bool) → T (every_of xs f) → (q : ℕ) → T (listed xs q) → T (f q)
at_listed [] f t q l = absurd l
at_listed (x ∷ xs) f t q l =
    here-or-later x q xs f (eqb q x) refl l (both_left (f x) (every_of xs f) t) (at_listed xs f (both_right (f x) (every_of xs f) t) q)

pub duration-bounds : (q : ℕ) → listed durations q ≡ true → (10 ≤ q) × (q ≤ 40)
duration-bounds q l =
    let t = at_listed durations (λ d. both (leb 10 d) (leb d 40)) tt q (subst T (sym l) tt) in
    (leb→le 10 q (both_left (leb 10 q) (leb q 40) t), leb→le q 40 (both_right (leb 10 q) (leb q 40) t))

-- ---- what the settings have in common

abbrev sizes : Setting → Bool
sizes r = both (both (ltb 0 r.lines) (leb r.lines 400)) (eqb r.lines (2 * half_of r))

abbrev widths : Setting → Bool
widths r = both (leb r.bandwidth 3) (leb r.pair 8)

abbrev numbers : Setting → Bool
numbers r = both (leb r.index 4) (leb r.duration 40)

abbrev sound : Setting → Bool
sound r = both (sizes r) (both (widths r) (numbers r))

abbrev sound_at : ℕ → Rate → Bool
sound_at q x = sound (setting x q)

abbrev Sound : Option Setting → Type 0
Sound (Some r) = T (sound r)
Sound None = Unit {0}

-- what all of a table pass, the rate that is found passes
abbrev Passed : (Rate → Bool) → Option Rate → Type 0
Passed f None = Unit {0}
Passed f (Some x) = T (f x)

either-passed : (f : Rate → Bool) (b : Bool) (o p : Option Rate) → Passed f o → Passed f p → Passed f (cond b o p)
either-passed f true o p t u = t
either-passed f false o p t u = u

found_passed : (xs : List Rate) (f : Rate → Bool) → T (every_of xs f) → (khz : ℕ) → Passed f (rate_in xs khz)
found_passed [] f t khz = tt
found_passed (x ∷ xs) f t khz =
    either-passed f (eqb khz x.khz) (Some x) (rate_in xs khz) (both_left (f x) (every_of xs f) t)
    (found_passed xs f (both_right (f x) (every_of xs f) t) khz)

pub rate-bounds : (khz : ℕ) (r : Rate) → Some r ≡ rate_in rates khz → (8 ≤ r.khz) × (r.khz ≤ 48)
rate-bounds khz r e =
    let t = subst (Passed (λ x. both (leb 8 x.khz) (leb x.khz 48))) (sym e)
    (found_passed rates (λ x. both (leb 8 x.khz) (leb x.khz 48)) tt khz) in
    (leb→le 8 r.khz (both_left (leb 8 r.khz) (leb r.khz 48) t), leb→le r.khz 48 (both_right (leb 8 r.khz) (leb r.khz 48) t))

-- the one computed test
all_sound : (khz q : ℕ) → T (listed durations q) → Passed (sound_at q) (rate_in rates khz)
all_sound khz q l = found_passed rates (sound_at q) (at_listed durations (λ d. every_of rates (sound_at d)) tt q l) khz

sound-for : (o : Option Rate) (q : ℕ) → (T (listed durations q) → Passed (sound_at q) o) → Sound (setting_for o q)
sound-for None q p = tt
sound-for (Some x) q p = go (listed durations q) p
  where
    go : (b : Bool) → (T b → T (sound_at q x)) → Sound (cond b (Some (setting x q)) None)
    go true h = h tt
    go false h = tt

sound-setting : (khz q : ℕ) → Sound (setting_of khz q)
unfolding setting_of
sound-setting khz q = sound-for (rate_in rates khz) q (all_sound khz q)

module _ (r : Setting) (t : T (sound r)) where
  size : T (both (ltb 0 r.lines) (leb r.lines 400))
  size =
      both_left (both (ltb 0 r.lines) (leb r.lines 400)) (eqb r.lines (2 * half_of r))
      (both_left (sizes r) (both (widths r) (numbers r)) t)

  some-lines : 0 < r.lines
  some-lines = ltb→lt 0 r.lines (both_left (ltb 0 r.lines) (leb r.lines 400) size)

  known : Known r
  known =
      let s = both_left (sizes r) (both (widths r) (numbers r)) t in
      let u = both_right (sizes r) (both (widths r) (numbers r)) t in
      let w = both_left (widths r) (numbers r) u in
      let n = both_right (widths r) (numbers r) u in
      record {
        index = leb→le r.index 4 (both_left (leb r.index 4) (leb r.duration 40) n);
        lines = leb→le r.lines 400 (both_right (ltb 0 r.lines) (leb r.lines 400) size);
        even = eqb→eq r.lines (2 * half_of r)
            (both_right (both (ltb 0 r.lines) (leb r.lines 400)) (eqb r.lines (2 * half_of r)) s);
        bandwidth = leb→le r.bandwidth 3 (both_left (leb r.bandwidth 3) (leb r.pair 8) w);
        pair = leb→le r.pair 8 (both_right (leb r.bandwidth 3) (leb r.pair 8) w);
        duration = leb→le r.duration 40 (both_right (leb r.index 4) (leb r.duration 40) n);
      }

known_in : (x : Option Setting) → Sound x → KnownSetting x
known_in (Some r) t = known r t
known_in None t = tt

lines-in : (x : Option Setting) → Sound x → lines_at x ≤ 400
lines-in (Some r) t = (known r t).lines
lines-in None t = omega arith

pub lines-most : (khz q : ℕ) → line_count khz q ≤ 400
unfolding line_count
lines-most khz q = lines-in (setting_of khz q) (sound-setting khz q)

unknown-in : (x : Option Setting) → Sound x → lines_at x ≡ 0 → x ≡ None
unknown-in (Some r) t z = let l = some-lines r t in absurd (omega arith)
unknown-in None t z = refl

-- NE is 0 only where there is no setting
pub setting-unknown : (khz q : ℕ) → lines_at (setting_of khz q) ≡ 0 → setting_of khz q ≡ None
setting-unknown khz q z = unknown-in (setting_of khz q) (sound-setting khz q) z
