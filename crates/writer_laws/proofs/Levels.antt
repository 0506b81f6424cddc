-- The escapes of a pair written one at a time: its level, its symbols and its low bits; and the pairs of a frame one at a time.
-- Assumes nothing.
use mathlib.Core.Path.{◌≡◌, refl, sym, ap, ap₂, ◌∙◌}
use mathlib.Core.Bool.{Bool, true, false}
use mathlib.Core.List.{List, [], ◌∷◌, ◌++◌, append_assoc, append-nil}
use Prim.Native.Nat.{ℕ, zero, suc, ◌+◌, ◌-◌, ◌*◌, ◌/◌, ◌%◌, ◌^◌, ◌≤◌, ◌<◌}
use native.Mathlib.Omega.{arith}
use native.Mathlib.Nat.{add-zero, zero-add}
use native.Mathlib.Numerals.{add-one}
use lib.Dec.{ltb}
use lib.ListN.{length, length-append}
use lib.IntN.{ℤ, nat_abs}
use lib.Pow.{shr-shr}
use borrow.Author.Tests.{lt-ltb, ltb-true}
use Rattle.frame_bits.specs.Fields.{value_bits}
use Rattle.frame_coder.specs.declared.Coder.{Coder}
use Rattle.frame_pair.specs.Pair.{row_of}
use Rattle.frame_pairs.specs.Pairs.{base_of}
use Rattle.frame_pairs.specs.declared.PairSetting.{PairSetting}
use Rattle.writer_laws.specs.Stream.{Item, coded, coded_all}
use Rattle.writer_laws.specs.Pair.{level_from, level_of, walk_items, walk_bits, sign_bits, pair_items, pair_bits}
use Rattle.writer_laws.specs.Pairs.{line_at, context_behind, pairs_items, pairs_bits}
use Rattle.writer_laws.proofs.Streams.{coded-append}

-- ---- the level

pub half-more : (x l : ℕ) → x / 2 / 2 ^ l ≡ x / 2 ^ suc l
half-more x l = let e : 1 + l ≡ suc l = omega arith in shr-shr x 1 l ∙ ap (λ (k : ℕ). x / 2 ^ k) e

-- a level more
pub half-next : (x l : ℕ) → x / 2 ^ l / 2 ≡ x / 2 ^ (l + 1)
half-next x l = shr-shr x l 1

-- both values are below 4 at the level
abbrev pub Halved : ℕ → ℕ → ℕ → ℕ → Type 0
Halved n x y l = (x / 2 ^ l < 4) × (y / 2 ^ l < 4) × (l ≤ n)

halved-more : (n x y l : ℕ) → Halved n (x / 2) (y / 2) l → Halved (suc n) x y (suc l)
halved-more n x y l h =
    let a = h.0 in
    let b = h.1 in
    let k = h.2 in
    (rw (← half-more x l) a, rw (← half-more y l) b, omega arith)

pub halved : (n x y : ℕ) → x < 4 * 2 ^ n → y < 4 * 2 ^ n → Halved n x y (level_from n x y)
unfolding level_from
halved zero x y h k = (omega arith, omega arith, omega arith)
halved (suc n) x y h k = go (ltb x 4) (ltb y 4) refl refl (halved n (x / 2) (y / 2) (omega arith) (omega arith))
  where
    go : (t u : Bool) → ltb x 4 ≡ t → ltb y 4 ≡ u → Halved n (x / 2) (y / 2) (level_from n (x / 2) (y / 2))
        → Halved (suc n) x y (level_from (suc n) x y)
    go true true e f r =
        let a = ltb-true x 4 e in
        let b = ltb-true y 4 f in
        let z : Halved (suc n) x y 0 = (omega arith, omega arith, omega arith) in
        rw (e, f) z
    go true false e f r = rw (e, f) (halved-more n x y (level_from n (x / 2) (y / 2)) r)
    go false u e f r = rw e (halved-more n x y (level_from n (x / 2) (y / 2)) r)

-- magnitudes up to 32,767 have at most 13 escapes
pub level_in : (x y : ℕ) → x ≤ 32767 → y ≤ 32767 → Halved 13 x y (level_of x y)
level_in x y h k = halved 13 x y (omega arith) (omega arith)

-- no escape where both values are below 4
pub level-none : (n a b : ℕ) → a < 4 → b < 4 → level_from n a b ≡ 0
unfolding level_from
level-none zero a b h k = refl
level-none (suc n) a b h k = rw (lt-ltb a 4 h, lt-ltb b 4 k)

-- one of the two is 4 or more
abbrev pub Escapes : ℕ → ℕ → Type 0
Escapes a b = (a < 4 → b < 4 → ⊥)

level_by : (n a b : ℕ) → Escapes a b → level_from (suc n) a b ≡ suc (level_from n (a / 2) (b / 2))
unfolding level_from
level_by n a b h = go (ltb a 4) (ltb b 4) refl refl
  where
    go : (t u : Bool) → ltb a 4 ≡ t → ltb b 4 ≡ u → level_from (suc n) a b ≡ suc (level_from n (a / 2) (b / 2))
    go true true e f = absurd (h (ltb-true a 4 e) (ltb-true b 4 f))
    go true false e f = rw (e, f)
    go false u e f = rw e

-- an escape, and one fewer to come
pub level-more : (n a b level : ℕ) → level < n → Escapes a b
    → level_from (n - level) a b ≡ suc (level_from (n - (level + 1)) (a / 2) (b / 2))
level-more n a b level h k =
    let z : n - level ≡ suc (n - (level + 1)) = omega arith in rw z (level_by (n - (level + 1)) a b k)

-- the two parts of a symbol
pub symbol-parts : (a b : ℕ) → a < 4 → b < 4 → ((a + 4 * b) % 4 ≡ a) × ((a + 4 * b) / 4 ≡ b) × (a + 4 * b < 16)
symbol-parts a b h k = (omega arith, omega arith, omega arith)

-- ---- the escapes

module _ (look cum : List ℕ) (base v : ℕ) where
  -- an escape is a symbol
  pub walk_more : (l level : ℕ) (c : Coder) → level < l
      → coded_all (walk_items look cum base v (l - (level + 1)) (level + 1)) (coded cum (row_of look base level) 16 c)
      ≡ coded_all (walk_items look cum base v (l - level) level) c
  unfolding walk_items coded_all
  walk_more l level c h = let z : l - level ≡ suc (l - (level + 1)) = omega arith in rw (z, add-one level)

  -- the last symbol
  pub walk_end : (l level : ℕ) (c : Coder) → level ≡ l
      → coded cum (row_of look base level) v c ≡ coded_all (walk_items look cum base v (l - level) level) c
  unfolding walk_items coded_all
  walk_end l level c e = let z : l - level ≡ 0 = omega arith in rw z

pub walk-length : (x y m level : ℕ) → length (walk_bits x y m level) ≡ 2 * m
unfolding walk_bits
walk-length x y zero level = refl
walk-length x y (suc m) level = let r = walk-length x y m (suc level) in omega arith

-- the low bits of an escape behind those before it
pub walk-snoc : (x y m level : ℕ)
    → walk_bits x y (suc m) level ≡ walk_bits x y m level ++ (x / 2 ^ (level + m) % 2 ∷ y / 2 ^ (level + m) % 2 ∷ [])
unfolding walk_bits
walk-snoc x y zero level = rw (add-zero level)
walk-snoc x y (suc m) level =
    let e : suc level + m ≡ level + suc m = omega arith in
    ap (λ (l : List ℕ). x / 2 ^ level % 2 ∷ y / 2 ^ level % 2 ∷ l)
    (walk-snoc x y m (suc level)
    ∙ ap (λ (k : ℕ). walk_bits x y m (suc level) ++ (x / 2 ^ k % 2 ∷ y / 2 ^ k % 2 ∷ [])) e)

-- two bits as one value
pub two-bits : (a b : ℕ) → value_bits (a % 2 + 2 * (b % 2)) 2 ≡ a % 2 ∷ b % 2 ∷ []
unfolding value_bits
two-bits a b =
    let e : (a % 2 + 2 * (b % 2)) % 2 ≡ a % 2 = omega arith in
    let f : (a % 2 + 2 * (b % 2)) / 2 ≡ b % 2 = omega arith in
    let g : b % 2 % 2 ≡ b % 2 = omega arith in
    rw (e, f, g)

pub walk-next : (x y level a b : ℕ) → a ≡ x / 2 ^ level → b ≡ y / 2 ^ level
    → walk_bits x y level 0 ++ value_bits (a % 2 + 2 * (b % 2)) 2 ≡ walk_bits x y (level + 1) 0
walk-next x y level a b e f =
    let s = rw (zero-add level) at (walk-snoc x y level 0) in
    rw (two-bits a b, e, f, add-one level) (sym s)

-- ---- a pair

pub bits-length : (u v : ℤ)
    → length (pair_bits u v) ≡ 2 * level_of (nat_abs u) (nat_abs v) + (length (sign_bits u) + length (sign_bits v))
unfolding pair_bits
bits-length u v =
    length-append (walk_bits (nat_abs u) (nat_abs v) (level_of (nat_abs u) (nat_abs v)) 0) (sign_bits u ++ sign_bits v)
    ∙ ap₂ (λ (a b : ℕ). a + b) (walk-length (nat_abs u) (nat_abs v) (level_of (nat_abs u) (nat_abs v)) 0)
    (length-append (sign_bits u) (sign_bits v))

-- ---- the pairs

-- the bits of some pairs behind those before them
pub pairs-append : (xs : List ℤ) (m n k : ℕ) → pairs_bits xs (m + n) k ≡ pairs_bits xs m k ++ pairs_bits xs n (k + m)
unfolding pairs_bits
pairs-append xs zero n k = rw (zero-add n, add-zero k)
pairs-append xs (suc m) n k =
    let e : suc k + m ≡ k + suc m = omega arith in
    let z : suc m + n ≡ suc (m + n) = omega arith in
    let here : List ℕ = pair_bits (line_at xs (2 * k)) (line_at xs (2 * k + 1)) in
    rw z
    (ap (λ (l : List ℕ). here ++ l) (pairs-append xs m n (suc k) ∙ ap (λ (j : ℕ). pairs_bits xs m (suc k) ++ pairs_bits xs n j) e)
    ∙ sym (append_assoc here (pairs_bits xs m (suc k)) (pairs_bits xs n (k + suc m))))

-- a pair more
pub pairs-snoc : (xs : List ℤ) (k : ℕ)
    → pairs_bits xs k 0 ++ pair_bits (line_at xs (2 * k)) (line_at xs (2 * k + 1)) ≡ pairs_bits xs (k + 1) 0
unfolding pairs_bits
pairs-snoc xs k =
    let e = rw zero-add at (pairs-append xs k 1 0) in
    sym (e ∙ ap (λ (l : List ℕ). pairs_bits xs k 0 ++ l) (append-nil (pair_bits (line_at xs (2 * k)) (line_at xs (2 * k + 1)))))

module _ (look cum : List ℕ) (o : PairSetting) (xs : List ℤ) (n k context : ℕ) (c : Coder) where
  -- a pair, and then the others
  pub pairs-more : k < n
      → coded_all (pairs_items look cum o xs (n - (k + 1)) (k + 1) (context_behind context (line_at xs (2 * k)) (line_at xs (2 * k + 1))))
      (coded_all (pair_items look cum (base_of context o.offset o.half (2 * k)) (line_at xs (2 * k)) (line_at xs (2 * k + 1))) c)
      ≡ coded_all (pairs_items look cum o xs (n - k) k context) c
  unfolding pairs_items
  pairs-more h =
      let z : n - k ≡ suc (n - suc k) = omega arith in
      let now : List Item = pair_items look cum (base_of context o.offset o.half (2 * k)) (line_at xs (2 * k)) (line_at xs (2 * k + 1)) in
      let next : ℕ = context_behind context (line_at xs (2 * k)) (line_at xs (2 * k + 1)) in
      let rest : List Item = pairs_items look cum o xs (n - suc k) (suc k) next in
      rw (z, add-one k) (sym (coded-append now rest c))

  pub pairs-done : n ≤ k → coded_all (pairs_items look cum o xs (n - k) k context) c ≡ c
  unfolding pairs_items coded_all
  pairs-done h = let z : n - k ≡ 0 = omega arith in rw z
