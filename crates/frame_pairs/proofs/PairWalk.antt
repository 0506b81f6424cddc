-- What the loop over the pairs asks: a line as a signed number, lines that keep their room, and a turn of the walk.
-- Assumes nothing.
use mathlib.Core.Path.{◌≡◌, refl, sym, ap, ◌∙◌, subst}
use mathlib.Core.Bool.{Bool, true, false, cond}
use mathlib.Core.List.{List}
use Prim.Native.Nat.{ℕ, zero, suc, ◌+◌, ◌-◌, ◌*◌, ◌/◌, ◌≤◌, ◌<◌}
use native.Mathlib.Omega.{arith}
use native.Mathlib.Nat.{add-zero}
use native.Mathlib.Numerals.{add-one}
use lib.Dec.{eqb}
use lib.ListN.{length, get_or, set, length-set}
use lib.Seq.{get_or-set_same, get_or-set_other}
use lib.IntN.{ℤ, pos, nat_abs, neg_ℤ}
use borrow.Author.Tests.{lt-ltb, le-ltb, eqb-true, eqb-false}
use Rattle.frame_bits.specs.Read.{value, cause}
use Rattle.frame_pair.specs.Pair.{pair_of}
use Rattle.frame_pairs.specs.Pairs.{base_of, line_of, store_of, pairs_of}
use Rattle.frame_pair.specs.Sound.{Room}
use Rattle.frame_pairs.specs.Sound.{Roomy}
use Rattle.frame_coder.specs.declared.Coder.{Coder}
use Rattle.frame_pair.specs.declared.Pair.{Pair}
use Rattle.frame_pairs.specs.declared.PairSetting.{PairSetting}

-- ---- the context of a line with its offsets

pub base-past : (context offset half k : ℕ) → half < k → context + offset + 256 ≡ base_of context offset half k
base-past context offset half k h = rw (lt-ltb half k h)

pub base-before : (context offset half k : ℕ) → k ≤ half → context + offset ≡ base_of context offset half k
base-before context offset half k h = rw (le-ltb half k h) (sym (add-zero (context + offset)))

-- ---- a line

line-by : (m : ℕ) (t : Bool) → nat_abs (cond t (pos m) (neg_ℤ (pos m))) ≡ m
line-by m true = refl
line-by zero false = refl
line-by (suc m) false = refl

pub line-size : (m sign : ℕ) → nat_abs (line_of m sign) ≡ m
line-size m sign = line-by m (eqb sign 0)

-- ---- lengths and room

not-half : (i k : ℕ) → (i ≡ 2 * k → ⊥) → (i ≡ 2 * k + 1 → ⊥) → i / 2 ≡ k → ⊥
not-half i k n m e = omega arith

room-of : (lsb level : ℕ) (z : ℤ) (a : ℕ) (b : ℤ) → a ≡ level → b ≡ z → Room lsb level (nat_abs z) → Room lsb a (nat_abs b)
room-of lsb level z a b e f h = rw (e, f) h

room-line : (lsb level m sign a : ℕ) (b : ℤ) → a ≡ level → b ≡ line_of m sign → Room lsb level m → Room lsb a (nat_abs b)
room-line lsb level m sign a b e f h =
    room-of lsb level (line_of m sign) a b e f (subst (λ (n : ℕ). Room lsb level n) (sym (line-size m sign)) h)

module _ (lsb : ℕ) (lines : List ℤ) (levels : List ℕ) (k : ℕ) (q : Pair) (old : Roomy lsb lines levels) (here : k < 200)
    (wide : length lines ≡ 400) (tall : length levels ≡ 200) (rx : Room lsb q.level q.x) (ry : Room lsb q.level q.y) where
  level-same : (i : ℕ) → i / 2 ≡ k → get_or (set levels k q.level) (i / 2) 0 ≡ q.level
  level-same i e = ap (λ (j : ℕ). get_or (set levels k q.level) j 0) e ∙ get_or-set_same levels k q.level 0 (omega arith)

  first-line : get_or (store_of lines k q) (2 * k) (pos 0) ≡ line_of q.x q.xsign
  first-line =
      get_or-set_other (set lines (2 * k) (line_of q.x q.xsign)) (2 * k + 1) (2 * k) (line_of q.y q.ysign) (pos 0)
      (λ e. omega arith)
      ∙ get_or-set_same lines (2 * k) (line_of q.x q.xsign) (pos 0) (omega arith)

  second-line : get_or (store_of lines k q) (2 * k + 1) (pos 0) ≡ line_of q.y q.ysign
  second-line =
      let l = length-set lines (2 * k) (line_of q.x q.xsign) in
      get_or-set_same (set lines (2 * k) (line_of q.x q.xsign)) (2 * k + 1) (line_of q.y q.ysign) (pos 0) (omega arith)

  other-line : (i : ℕ) → (i ≡ 2 * k → ⊥) → (i ≡ 2 * k + 1 → ⊥) → get_or (store_of lines k q) i (pos 0) ≡ get_or lines i (pos 0)
  other-line i e f =
      get_or-set_other (set lines (2 * k) (line_of q.x q.xsign)) (2 * k + 1) i (line_of q.y q.ysign) (pos 0) f
      ∙ get_or-set_other lines (2 * k) i (line_of q.x q.xsign) (pos 0) e

  roomy-by : (i : ℕ) (t u : Bool) → eqb i (2 * k) ≡ t → eqb i (2 * k + 1) ≡ u
      → Room lsb (get_or (set levels k q.level) (i / 2) 0) (nat_abs (get_or (store_of lines k q) i (pos 0)))
  roomy-by i true u e f =
      let i2 = eqb-true i (2 * k) e in
      room-line lsb q.level q.x q.xsign (get_or (set levels k q.level) (i / 2) 0) (get_or (store_of lines k q) i (pos 0))
      (level-same i (omega arith)) (ap (λ (j : ℕ). get_or (store_of lines k q) j (pos 0)) i2 ∙ first-line) rx
  roomy-by i false true e f =
      let i2 = eqb-true i (2 * k + 1) f in
      room-line lsb q.level q.y q.ysign (get_or (set levels k q.level) (i / 2) 0) (get_or (store_of lines k q) i (pos 0))
      (level-same i (omega arith)) (ap (λ (j : ℕ). get_or (store_of lines k q) j (pos 0)) i2 ∙ second-line) ry
  roomy-by i false false e f =
      let n = eqb-false i (2 * k) e in
      let m = eqb-false i (2 * k + 1) f in
      room-of lsb (get_or levels (i / 2) 0) (get_or lines i (pos 0)) (get_or (set levels k q.level) (i / 2) 0)
      (get_or (store_of lines k q) i (pos 0))
      (get_or-set_other levels k (i / 2) q.level 0 (λ w. absurd (not-half i k n m w))) (other-line i n m) (old i)

  pub roomy-store : (after : List ℤ) → after ≡ store_of lines k q → Roomy lsb after (set levels k q.level)
  roomy-store after e i = rw e (roomy-by i (eqb i (2 * k)) (eqb i (2 * k + 1)) refl refl)

-- ---- the walk

module _ (s look cum : List ℕ) (o : PairSetting) (n k context : ℕ) (c : Coder) (p : ℕ) (lines : List ℤ) (levels : List ℕ) where
  pub pairs-done : n ≤ k → pairs_of s look cum o (n - k) k context c p lines levels
      ≡ value (record { lines = lines; levels = levels }) (record { coder = c; side = p })
  unfolding pairs_of
  pairs-done h = let z : n - k ≡ 0 = omega arith in rw z

  pub pairs-stop : (j : ℕ) → k < n → pair_of s look cum o.lsb (base_of context o.offset o.half (2 * k)) context c p ≡ cause j
      → pairs_of s look cum o (n - k) k context c p lines levels ≡ cause j
  unfolding pairs_of
  pairs-stop j h e = let z : n - k ≡ suc (n - (k + 1)) = omega arith in rw (z, e)

  pub pairs-more : (q : Pair) (d : Coder) (r : ℕ) (after : List ℤ) → k < n
      → pair_of s look cum o.lsb (base_of context o.offset o.half (2 * k)) context c p ≡ value q (record { coder = d; side = r })
      → after ≡ store_of lines k q
      → pairs_of s look cum o (n - (k + 1)) (k + 1) q.context d r after (set levels k q.level)
      ≡ pairs_of s look cum o (n - k) k context c p lines levels
  unfolding pairs_of
  pairs-more q d r after h e f = let z : n - k ≡ suc (n - suc k) = omega arith in rw (f, z, e, add-one k)
