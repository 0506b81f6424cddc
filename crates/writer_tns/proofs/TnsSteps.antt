-- The TNS data written: each way through the loop over a filter's coefficients, and both answers of a filter. Assumes nothing.
use mathlib.Core.Path.{◌≡◌, refl}
use mathlib.Core.List.{List}
use Prim.Native.Nat.{ℕ, zero, suc, ◌+◌, ◌-◌, ◌*◌, ◌≤◌, ◌<◌}
use native.Mathlib.Omega.{arith}
use lib.ListN.{get_or}
use Rattle.frame_coder.specs.declared.Coder.{Coder}
use Rattle.writer_laws.specs.Stream.{coded, coded_all}
use Rattle.writer_laws.specs.Tns.{coefficient_items, filter_items}

-- ---- the coefficients from k on: none left, one more

pub coefficients-done : (rows l : List ℕ) (n k : ℕ) (c : Coder) → n ≤ k → coded_all (coefficient_items rows l (n - k) k) c ≡ c
unfolding coefficient_items coded_all
coefficients-done rows l n k c h = let p : n - k ≡ 0 = omega arith in rw p

pub coefficients-more : (rows l : List ℕ) (n k v : ℕ) (c d : Coder) → k < n → v ≡ get_or l k 0 → d ≡ coded rows (k * 18) v c
    → coded_all (coefficient_items rows l (n - (k + 1)) (k + 1)) d ≡ coded_all (coefficient_items rows l (n - k) k) c
unfolding coefficient_items coded_all
coefficients-more rows l n k v c d h e f =
    let p : n - k ≡ suc (n - (k + 1)) = omega arith in
    let q : k + 1 ≡ suc k = omega arith in
    rw (p, q, f, e)

-- ---- a filter: none, or its order and its coefficients

pub filter_none : (orders rows : List ℕ) (w n : ℕ) (l : List ℕ) (c : Coder) → n ≡ 0 → c ≡ coded_all (filter_items orders rows w n l) c
unfolding filter_items coded_all
filter_none orders rows w n l c e = rw e

pub filter-sent : (orders rows : List ℕ) (w n : ℕ) (l : List ℕ) (c d e : Coder) → (n ≡ 0 → ⊥) → d ≡ coded orders (w * 9) (n - 1) c
    → e ≡ coded_all (coefficient_items rows l n 0) d → e ≡ coded_all (filter_items orders rows w n l) c
unfolding filter_items coded_all
filter-sent orders rows w zero l c d e h f g = absurd (h refl)
filter-sent orders rows w (suc v) l c d e h f g =
    let p : suc v - 1 ≡ v = omega arith in
    let q : d ≡ coded orders (w * 9) v c = rw p at f in
    rw q at g
