-- The end of the arithmetic stream (5.3.14, ac_enc_finish): its last multiple lies in the range with everything that may stand behind it,
-- and the code has no more bits than it is given. Assumes nothing.
use mathlib.Core.Path.{◌≡◌, refl, sym, ap, subst, ◌∙◌}
use mathlib.Core.Bool.{Bool, true, false, cond}
use Prim.Native.Nat.{ℕ, zero, suc, ◌+◌, ◌-◌, ◌*◌, ◌/◌, ◌^◌, ◌≤◌, ◌<◌}
use native.Mathlib.Omega.{arith}
use native.Mathlib.Nat.{lt-div-mul-add, div-mul-le_self, two-pow-succ, mul_assoc, lt_of_mul-lt-mul_right}
use lib.Dec.{leb, eqb}
use lib.Pow.{pow_pos, pow-add}
use borrow.Author.Tests.{leb-true, leb-false, eqb-true, eqb-false}
use Rattle.frame_coder.specs.declared.Coder.{Coder}
use Rattle.frame_residual.specs.Residual.{log2_of}
use Rattle.writer_laws.specs.Ending.{up_of, fitting, end_bits, code_of}

-- ---- floor (log2 r)

pub log2-most : (r k : ℕ) → log2_of r k ≤ k
unfolding log2_of
log2-most r zero = omega arith
log2-most r (suc k) = go (leb (2 ^ suc k) r) (log2-most r k)
  where
    go : (t : Bool) → log2_of r k ≤ k → cond t (suc k) (log2_of r k) ≤ suc k
    go true h = omega arith
    go false h = omega arith

-- its power is not above r
pub log2-low : (r k : ℕ) → 0 < r → 2 ^ log2_of r k ≤ r
unfolding log2_of
log2-low r zero p = p
log2-low r (suc k) p = go (leb (2 ^ suc k) r) refl (log2-low r k p)
  where
    go : (t : Bool) → leb (2 ^ suc k) r ≡ t → 2 ^ log2_of r k ≤ r → 2 ^ cond t (suc k) (log2_of r k) ≤ r
    go true e h = leb-true (2 ^ suc k) r e
    go false e h = h

-- no larger exponent has such a power
pub log2-least : (r k j : ℕ) → 2 ^ j ≤ r → j ≤ k → j ≤ log2_of r k
unfolding log2_of
log2-least r zero j h l = l
log2-least r (suc k) j h l = go (leb (2 ^ suc k) r) refl (λ p. log2-least r k j h p)
  where
    go : (t : Bool) → leb (2 ^ suc k) r ≡ t → (j ≤ k → j ≤ log2_of r k) → j ≤ cond t (suc k) (log2_of r k)
    go true e f = l
    go false e f = f (below (eqb j (suc k)) refl)
      where
        below : (t : Bool) → eqb j (suc k) ≡ t → j ≤ k
        below true q =
            let s : j ≡ suc k = eqb-true j (suc k) q in
            let p : 2 ^ suc k ≤ r = subst (λ (x : ℕ). 2 ^ x ≤ r) s h in
            let n = leb-false (2 ^ suc k) r e in
            absurd (omega arith)
        below false q = let d : (j ≡ suc k → ⊥) = eqb-false j (suc k) q in omega arith

-- ---- rounding up

pub up-low : (l m : ℕ) → 0 < m → l ≤ up_of l m * m
up-low l m p =
    let a : l + (m - 1) < (l + (m - 1)) / m * m + m = lt-div-mul-add p in
    omega arith

pub up-high : (l m : ℕ) → 0 < m → up_of l m * m < l + m
up-high l m p =
    let a : (l + (m - 1)) / m * m ≤ l + (m - 1) = div-mul-le_self (l + (m - 1)) m in
    omega arith

-- ---- the end

-- what so many bits behind the shifted digits say: the multiple v of m = 2^(24 - bits) at or above low, and v + m not above low + range
pub record Ends (low range bits : ℕ) : Type 0 where
  pub some : 1 ≤ bits
  pub most : bits ≤ 9
  pub few : bits ≤ 25 - log2_of range 23
  pub from : low ≤ up_of low (2 ^ (24 - bits)) * 2 ^ (24 - bits)
  pub to : up_of low (2 ^ (24 - bits)) * 2 ^ (24 - bits) + 2 ^ (24 - bits) ≤ low + range

-- with the exponent in their place
ends_at : (low range bits e : ℕ) → 24 - bits ≡ e → 1 ≤ bits → bits ≤ 9 → bits ≤ 25 - log2_of range 23
    → up_of low (2 ^ e) * 2 ^ e + 2 ^ e ≤ low + range → Ends low range bits
ends_at low range bits e q some most few to =
    record {
      some = some;
      most = most;
      few = few;
      from = up-low low (2 ^ (24 - bits)) (pow_pos (24 - bits));
      to = rw q to;
    }

-- one bit more halves the step: the next multiple is then less than 2^f above low
half-fits : (low range f : ℕ) → 1 ≤ f → 2 ^ f ≤ range → up_of low (2 ^ (f - 1)) * 2 ^ (f - 1) + 2 ^ (f - 1) ≤ low + range
half-fits low range f h p =
    let s : suc (f - 1) ≡ f = omega arith in
    let d : 2 ^ f ≡ 2 ^ (f - 1) + 2 ^ (f - 1) = ap (λ (x : ℕ). 2 ^ x) (sym s) ∙ two-pow-succ (f - 1) in
    let u = up-high low (2 ^ (f - 1)) (pow_pos (f - 1)) in
    omega arith

pub ends : (low range : ℕ) → 65536 ≤ range → range < 16777216 → Ends low range (end_bits low range)
unfolding end_bits
ends low range h k = go (fitting (log2_of range 23) low range) refl
  where
    go : (t : Bool) → fitting (log2_of range 23) low range ≡ t → Ends low range (cond t (24 - log2_of range 23) (25 - log2_of range 23))
    go true e =
        let f : ℕ = log2_of range 23 in
        let a : f ≤ 23 = log2-most range 23 in
        let b : 16 ≤ f = log2-least range 23 16 h (omega arith) in
        ends_at low range (24 - f) f (omega arith) (omega arith) (omega arith) (omega arith)
        (leb-true (up_of low (2 ^ f) * 2 ^ f + 2 ^ f) (low + range) e)
    go false e =
        let f : ℕ = log2_of range 23 in
        let a : f ≤ 23 = log2-most range 23 in
        let b : 16 ≤ f = log2-least range 23 16 h (omega arith) in
        let p : 2 ^ f ≤ range = log2-low range 23 (omega arith) in
        ends_at low range (25 - f) (f - 1) (omega arith) (omega arith) (omega arith) (omega arith)
        (half-fits low range f (omega arith) p)

-- a number below 1 has a code of as many bits
below_end : (code top k bits : ℕ) → bits ≤ 24 → code * 2 ^ (24 - bits) + 2 ^ (24 - bits) ≤ top → top ≤ 2 ^ k * 16777215
    → code < 2 ^ (k + bits)
below_end code top k bits h to below =
    let m : ℕ = 2 ^ (24 - bits) in
    let s : bits + (24 - bits) ≡ 24 = omega arith in
    let d : 2 ^ (k + bits) * m ≡ 2 ^ k * 16777216 =
    ap (λ (x : ℕ). x * m) (pow-add 2 k bits) ∙ mul_assoc (2 ^ k) (2 ^ bits) m
    ∙ ap (λ (x : ℕ). 2 ^ k * x) (sym (pow-add 2 bits (24 - bits)) ∙ ap (λ (x : ℕ). 2 ^ x) s) in
    let p = pow_pos (24 - bits) in
    let q : code * m < 2 ^ (k + bits) * m = omega arith in
    lt_of_mul-lt-mul_right m q

pub code_below : (c : Coder) → 65536 ≤ c.range → c.range < 16777216 → c.low + c.range ≤ 2 ^ (8 * (c.at - 3)) * 16777215
    → code_of c < 2 ^ (8 * (c.at - 3) + end_bits c.low c.range)
unfolding code_of
code_below c h k below =
    let e = ends c.low c.range h k in
    let b = e.most in
    below_end (up_of c.low (2 ^ (24 - end_bits c.low c.range))) (c.low + c.range) (8 * (c.at - 3))
    (end_bits c.low c.range) (omega arith) e.to below
