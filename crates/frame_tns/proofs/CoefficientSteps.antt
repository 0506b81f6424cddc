-- The TNS data: each way through the loop over a filter's coefficients, and each answer of a filter. Assumes nothing.
use mathlib.Core.Path.{◌≡◌}
use mathlib.Core.List.{List}
use Prim.Native.Nat.{ℕ, suc, ◌+◌, ◌-◌, ◌*◌, ◌≤◌, ◌<◌}
use native.Mathlib.Omega.{arith}
use lib.ListN.{length, set}
use borrow.Author.Tests.{eq-eqb, ne_eqb, lt-ltb, le-ltb}
use Rattle.frame_bits.specs.Read.{Read, value, cause, and_then}
use Rattle.frame_settings.specs.Settings.{order_of, weighting}
use Rattle.frame_coder.specs.Symbol.{symbol_of}
use Rattle.frame_tns.specs.Tns.{unused, coefficients_of, sent_of, filter_of}
use Rattle.frame_coder.specs.declared.Coder.{Coder}

-- ---- the coefficients from k on: none left, no symbol, one more

pub coefficients-done : (s rows : List ℕ) (n k : ℕ) (l : List ℕ) (c : Coder) → n ≤ k → coefficients_of s rows (n - k) k l c ≡ value l c
unfolding coefficients_of
coefficients-done s rows n k l c h = let p : n - k ≡ 0 = omega arith in rw p

pub coefficients-cause : (s rows : List ℕ) (n k : ℕ) (l : List ℕ) (c : Coder) (x : ℕ) → k < n → symbol_of s rows (k * 18) 16 c ≡ cause x
    → coefficients_of s rows (n - k) k l c ≡ cause x
unfolding coefficients_of
coefficients-cause s rows n k l c x h e = let p : n - k ≡ suc (n - (k + 1)) = omega arith in rw (p, e)

pub coefficients-more : (s rows : List ℕ) (n k : ℕ) (l : List ℕ) (c d : Coder) (v : ℕ) → k < n → symbol_of s rows (k * 18) 16 c ≡ value v d
    → coefficients_of s rows (n - (k + 1)) (k + 1) (set l k v) d ≡ coefficients_of s rows (n - k) k l c
unfolding coefficients_of
coefficients-more s rows n k l c d v h e =
    let p : n - k ≡ suc (n - (k + 1)) = omega arith in
    let q : k + 1 ≡ suc k = omega arith in
    rw (p, e, q)

-- ---- a filter: not sent, no order, an order above the highest, no coefficients, whole

module _ (s orders rows : List ℕ) (q flag : ℕ) (c : Coder) where
  pub filter-unused : flag ≡ 0 → filter_of s orders rows q flag c ≡ value (record { order = 0; coefficients = unused }) c
  unfolding filter_of
  filter-unused h = rw (eq-eqb flag 0 h)

  -- the order's symbol
  abbrev Order : Read Coder ℕ → Type 0
  Order x = symbol_of s orders (weighting q (length s) * 9) 7 c ≡ x

  pub no-order : (x : ℕ) → (flag ≡ 0 → ⊥) → Order (cause x) → filter_of s orders rows q flag c ≡ cause x
  unfolding filter_of sent_of
  no-order x h e = rw (ne_eqb flag 0 h, e)

  module _ (h : flag ≡ 0 → ⊥) (d : Coder) (v : ℕ) (e : Order (value v d)) where
    pub order-above : order_of q < v + 1 → filter_of s orders rows q flag c ≡ cause 8
    unfolding filter_of sent_of
    order-above l = let m : order_of q < suc v = omega arith in rw (ne_eqb flag 0 h, e, lt-ltb (order_of q) (suc v) m)

    module _ (l : v + 1 ≤ order_of q) where
      taken : filter_of s orders rows q flag c
          ≡ and_then (coefficients_of s rows (v + 1) 0 unused d) (λ k z. value (record { order = v + 1; coefficients = k }) z)
      unfolding filter_of sent_of
      taken =
          let i : v + 1 ≡ suc v = omega arith in
          let m : suc v ≤ order_of q = omega arith in
          rw (ne_eqb flag 0 h, e, le-ltb (order_of q) (suc v) m, ← i)

      pub no-coefficients : (x : ℕ) → coefficients_of s rows (v + 1) 0 unused d ≡ cause x → filter_of s orders rows q flag c ≡ cause x
      no-coefficients x f = rw f at taken

      pub filter-whole : (k : List ℕ) (z : Coder) → coefficients_of s rows (v + 1) 0 unused d ≡ value k z
          → filter_of s orders rows q flag c ≡ value (record { order = v + 1; coefficients = k }) z
      filter-whole k z f = rw f at taken
