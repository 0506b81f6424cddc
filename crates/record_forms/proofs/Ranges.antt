-- Tests and what they tell: both of two, and the ranges of an entry's fields as orders. Assumes nothing.
use mathlib.Core.Path.{◌≡◌, refl}
use mathlib.Core.Bool.{Bool, true, false, ◌&&◌, ◌||◌}
use Prim.Native.Nat.{ℕ, ◌*◌, ◌≤◌, ◌<◌}
use native.Mathlib.Omega.{arith}
use lib.Dec.{leb, eqb}
use borrow.Author.Tests.{leb-true, le-leb, lt-leb, eqb-true, eq-eqb, ne_eqb}
use Rattle.record_forms.specs.declared.Form.{Form}
use Rattle.record_forms.specs.declared.Form.TheVariants as form
use Rattle.record_forms.specs.Ranges.{unknown, bits_in_range, in_range, held_bits}

pub and_left : (a b : Bool) → (a && b) ≡ true → a ≡ true
and_left true b h = refl
and_left false b h = h

pub and_right : (a b : Bool) → (a && b) ≡ true → b ≡ true
and_right true b h = h
and_right false b h = let z : false ≡ true = h in cc

bits-known : (c b : ℕ) (x : Bool) → eqb b unknown ≡ x → (x || (leb c b && (leb b (4 * c) && leb b 648))) ≡ true → b ≤ 65535
bits-known c b true t h = let e : b ≡ 65535 = eqb-true b 65535 t in omega arith
bits-known c b false t h =
    let r = and_right (leb c b) (leb b (4 * c) && leb b 648) h in
    let m : b ≤ 648 = leb-true b 648 (and_right (leb b (4 * c)) (leb b 648) r) in
    omega arith

-- two bytes hold the bits
pub bits_fit : (c b : ℕ) → bits_in_range c b ≡ true → b ≤ 65535
unfolding bits_in_range
bits_fit c b h = bits-known c b (eqb b unknown) refl h

-- the ranges as orders
pub in-range-of : (q c b n : ℕ) → in_range q c b n ≡ true → (q ≤ 3) × (c ≤ 162) × (20 ≤ n) × (n ≤ 400) × (bits_in_range c b ≡ true)
unfolding in_range
in-range-of q c b n h =
    let z : Bool = leb 20 n && leb n 400 in
    let t = and_right (leb q 3) (leb c 162 && (z && bits_in_range c b)) h in
    let r = and_right (leb c 162) (z && bits_in_range c b) t in
    let l = and_left z (bits_in_range c b) r in (
      leb-true q 3 (and_left (leb q 3) (leb c 162 && (z && bits_in_range c b)) h),
      leb-true c 162 (and_left (leb c 162) (z && bits_in_range c b) t),
      leb-true 20 n (and_left (leb 20 n) (leb n 400) l),
      leb-true n 400 (and_right (leb 20 n) (leb n 400) l),
      and_right z (bits_in_range c b) r,
    )

pub bits-unknown : (c b : ℕ) → b ≡ 65535 → true ≡ bits_in_range c b
unfolding bits_in_range
bits-unknown c b e = simp (eq-eqb b 65535 e)

pub bits_below : (c b : ℕ) → (b ≡ 65535 → ⊥) → b < c → false ≡ bits_in_range c b
unfolding bits_in_range
bits_below c b e h = simp (ne_eqb b 65535 e, lt-leb c b h)

-- 648 is the most that 162 semi-octets have
pub bits_most : (c b : ℕ) → c ≤ 162 → (b ≡ 65535 → ⊥) → c ≤ b → leb b (4 * c) ≡ bits_in_range c b
unfolding bits_in_range
bits_most c b m e h = go (leb b (4 * c)) refl
  where
    go : (x : Bool) → leb b (4 * c) ≡ x → leb b (4 * c) ≡ (eqb b unknown || (leb c b && (leb b (4 * c) && leb b 648)))
    go true t = let k : b ≤ 4 * c = leb-true b (4 * c) t in simp (ne_eqb b 65535 e, le-leb c b h, t, le-leb b 648 (omega arith))
    go false t = simp (ne_eqb b 65535 e, le-leb c b h, t)

-- what a form keeps of an entry in range is in range
pub held-in-range : (f : Form) (q c b n : ℕ) → in_range q c b n ≡ true → in_range q c (held_bits f b) n ≡ true
unfolding in_range bits_in_range
held-in-range form.One q c b n r =
    let o = in-range-of q c b n r in
    simp (le-leb q 3 o.0, le-leb c 162 o.1, le-leb 20 n o.2, le-leb n 400 o.3)
held-in-range form.Two q c b n r = r
