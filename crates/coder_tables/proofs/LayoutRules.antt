-- The two orders of the lookups: an entry of each, the one undoes the other, and the code's order as four lists in turn. Assumes nothing.
use mathlib.Core.Path.{◌≡◌, refl, sym, ap, ap₂, ◌∙◌}
use mathlib.Core.List.{List, [], ◌∷◌}
use Prim.Native.Nat.{ℕ, zero, suc, ◌+◌, ◌*◌, ◌/◌, ◌%◌, ◌<◌}
use native.Mathlib.Omega.{arith}
use lib.ListN.{length, get_or, drop}
use lib.Seq.{get_or-drop}
use Rattle.laws.specs.Tab.{tab}
use Rattle.laws.proofs.Tab.{length-tab, get_or-tab, tab-is}
use Rattle.coder_tables.specs.Layout.{by_context, by_level}

pub length-by-context : (t : List ℕ) → length (by_context t) ≡ 4096
unfolding by_context
length-by-context t = length-tab (λ p. get_or t (1024 * (p % 4) + p / 4) 0) 4096

-- what the code's order has at place p
entry : (t : List ℕ) (base l p : ℕ) → p ≡ 4 * base + l → l < 4 → get_or t (1024 * (p % 4) + p / 4) 0 ≡ get_or t (1024 * l + base) 0
entry t base l p h k = let e : 1024 * (p % 4) + p / 4 ≡ 1024 * l + base = omega arith in ap (λ (i : ℕ). get_or t i 0) e

-- a context's level, by either order's place
pub by-context-at : (t : List ℕ) (base l : ℕ) → base < 1024 → l < 4 → get_or (by_context t) (4 * base + l) 0 ≡ get_or t (1024 * l + base) 0
unfolding by_context
by-context-at t base l h k =
    get_or-tab (λ p. get_or t (1024 * (p % 4) + p / 4) 0) 4096 (4 * base + l) (omega arith) ∙ entry t base l (4 * base + l) refl k

pub by-level-at : (t : List ℕ) (base l : ℕ) → base < 1024 → l < 4 → get_or (by_level t) (base + 1024 * l) 0 ≡ get_or t (4 * base + l) 0
unfolding by_level
by-level-at t base l h k =
    let e : 4 * ((base + 1024 * l) % 1024) + (base + 1024 * l) / 1024 ≡ 4 * base + l = omega arith in
    get_or-tab (λ i. get_or t (4 * (i % 1024) + i / 1024) 0) 4096 (base + 1024 * l) (omega arith) ∙ ap (λ (i : ℕ). get_or t i 0) e

-- the standard's order is found again
pub by-level-back : (t : List ℕ) → length t ≡ 4096 → by_level (by_context t) ≡ t
unfolding by_level
by-level-back t h =
    tab-is (λ i. get_or (by_context t) (4 * (i % 1024) + i / 1024) 0) 4096 t h
    (λ i p. let e : 1024 * (i / 1024) + i % 1024 ≡ i = omega arith in
    by-context-at t (i % 1024) (i / 1024) (omega arith) (omega arith) ∙ ap (λ (j : ℕ). get_or t j 0) e)

-- ---- the code's order as four lists in turn: no entry reads the table from its start

unfoldable pub in_turn : ℕ → List ℕ → List ℕ → List ℕ → List ℕ → List ℕ
in_turn zero a b c d = []
in_turn (suc n) a b c d = get_or a 0 0 ∷ in_turn n b c d (drop 1 a)

-- every fourth value is an entry of the same list
tab-in-turn : (f : ℕ → ℕ) (n : ℕ) (a b c d : List ℕ) → ((k : ℕ) → f (4 * k) ≡ get_or a k 0) → ((k : ℕ) → f (suc (4 * k)) ≡ get_or b k 0)
    → ((k : ℕ) → f (suc (suc (4 * k))) ≡ get_or c k 0) → ((k : ℕ) → f (suc (suc (suc (4 * k)))) ≡ get_or d k 0)
    → tab f n ≡ in_turn n a b c d
unfolding tab in_turn
tab-in-turn f zero a b c d p q r s = refl
tab-in-turn f (suc n) a b c d p q r s =
    let next : (k : ℕ) → f (suc (suc (suc (suc (4 * k))))) ≡ get_or (drop 1 a) k 0 =
    λ k. let e : suc (suc (suc (suc (4 * k)))) ≡ 4 * (1 + k) = omega arith in ap f e ∙ p (1 + k) ∙ sym (get_or-drop 1 a k 0) in
    ap₂ (λ (x : ℕ) (l : List ℕ). x ∷ l) (p 0) (tab-in-turn (λ k. f (suc k)) n b c d (drop 1 a) q r s next)

pub by-context-in-turn : (t : List ℕ) → by_context t ≡ in_turn 4096 t (drop 1024 t) (drop 2048 t) (drop 3072 t)
unfolding by_context
by-context-in-turn t =
    let level : (l p k : ℕ) → p ≡ 4 * k + l → l < 4 → get_or t (1024 * (p % 4) + p / 4) 0 ≡ get_or (drop (1024 * l) t) k 0 =
    λ l p k h i. entry t k l p h i ∙ sym (get_or-drop (1024 * l) t k 0) in
    tab-in-turn (λ p. get_or t (1024 * (p % 4) + p / 4) 0) 4096 t (drop 1024 t) (drop 2048 t) (drop 3072 t)
    (λ k. level 0 (4 * k) k (omega arith) (omega arith)) (λ k. level 1 (suc (4 * k)) k (omega arith) (omega arith))
    (λ k. level 2 (suc (suc (4 * k))) k (omega arith) (omega arith)) (λ k. level 3 (suc (suc (suc (4 * k)))) k (omega arith) (omega arith))
