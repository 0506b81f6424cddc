-- Bounds of the arithmetic stream written: its range between two symbols, the number that stays below 1, and what grows symbol by symbol.
-- Over the rows of crate `coder_tables`. Assumes nothing.
use mathlib.Core.Path.{◌≡◌, refl, sym, ap, ◌∙◌}
use mathlib.Core.Bool.{Bool, true, false}
use mathlib.Core.List.{List, [], ◌∷◌, ◌++◌}
use Prim.Native.Nat.{ℕ, zero, suc, ◌+◌, ◌-◌, ◌*◌, ◌/◌, ◌^◌, ◌≤◌, ◌<◌}
use native.Mathlib.Omega.{arith}
use native.Mathlib.Nat.{le_refl, le_trans, mul-add, mul-le-mul, mul-le-mul_left, mul-le-mul_right, mul_right_comm, add-zero}
use lib.Dec.{ltb}
use lib.ListN.{length, get_or}
use lib.Pow.{pow-add}
use borrow.Author.Tests.{ltb-true, ltb-false}
use Rattle.coder_tables.specs.Rows.{Row}
use Rattle.coder_tables.proofs.Rules.{row_below}
use Rattle.frame_coder.specs.declared.Coder.{Coder}
use Rattle.writer_laws.specs.Stream.{shifted, widened, placed, coded, Item, coded_all}

-- each item is a symbol of a row of its table
abbrev pub Fit : List Item → Type 0
Fit [] = Unit {0}
Fit (i ∷ l) = (Row i.cum i.row i.last × (i.symbol ≤ i.last)) × Fit l

-- the range between two symbols
pub record Wide (c : Coder) : Type 0 where
  pub least : 65536 ≤ c.range
  pub most : c.range < 16777216

-- the number stays below 1: 8 (at - 3) bits, and 24 of which the first range lacks one unit
pub record Bounded (c : Coder) : Type 0 where
  pub at : 3 ≤ c.at
  pub below : c.low + c.range ≤ 2 ^ (8 * (c.at - 3)) * 16777215

-- ---- lists of symbols

pub coded-append : (l m : List Item) (c : Coder) → coded_all (l ++ m) c ≡ coded_all m (coded_all l c)
unfolding coded_all
coded-append [] m c = refl
coded-append (i ∷ l) m c = coded-append l m (coded i.cum i.row i.symbol c)

pub fit_append : (l m : List Item) → Fit l → Fit m → Fit (l ++ m)
fit_append [] m f g = g
fit_append (i ∷ l) m f g = (f.0, fit_append l m f.1 g)

-- ---- a part of the range

-- a symbol's part starts and ends inside the range
pub scaled-in : (t a b r : ℕ) → a < b → b ≤ 1024 → t * 1024 ≤ r → (t * a + t * (b - a) ≡ t * b) × (t * b ≤ r)
scaled-in t a b r h k m =
    let e : a + (b - a) ≡ b = omega arith in
    (sym (mul-add t a (b - a)) ∙ ap (λ (x : ℕ). t * x) e, le_trans (mul-le-mul_left t k) m)

-- the same of a symbol of a row, with t the range's 1,024th
pub part_in : {cum : List ℕ} {row last : ℕ} (v r : ℕ) → Row cum row last → v ≤ last
    → (r / 1024 * get_or cum (row + v) 0 + r / 1024 * (get_or cum (row + (v + 1)) 0 - get_or cum (row + v) 0)
    ≡ r / 1024 * get_or cum (row + (v + 1)) 0)
    × (r / 1024 * get_or cum (row + (v + 1)) 0 ≤ r)
part_in {cum} {row} {last} v r w h =
    let t : r / 1024 * 1024 ≤ r = omega arith in
    scaled-in (r / 1024) (get_or cum (row + v) 0) (get_or cum (row + (v + 1)) 0) r (w.rises v h) (row_below w (omega arith)) t

-- ---- the range

wide-twice : (c : Coder) → 256 ≤ c.range → c.range < 16777216 → Wide (widened 1 c)
unfolding widened
wide-twice c h k = go (ltb c.range 65536) refl
  where
    go : (t : Bool) → ltb c.range 65536 ≡ t → Wide (widened 1 c)
    go true e = let p = ltb-true c.range 65536 e in rw e (record { least = omega arith; most = omega arith })
    go false e = let p = ltb-false c.range 65536 e in rw e (record { least = p; most = k })

pub wide-widened : (c : Coder) → 64 ≤ c.range → c.range < 16777216 → Wide (widened 2 c)
unfolding widened
wide-widened c h k = go (ltb c.range 65536) refl
  where
    go : (t : Bool) → ltb c.range 65536 ≡ t → Wide (widened 2 c)
    go true e = let p = ltb-true c.range 65536 e in rw e (wide-twice (shifted c) (omega arith) (omega arith))
    go false e = let p = ltb-false c.range 65536 e in rw e (record { least = p; most = k })

-- a symbol keeps the range between 2^16 and 2^24
pub wide-coded : {cum : List ℕ} {row last : ℕ} (v : ℕ) (c : Coder) → Row cum row last → v ≤ last → Wide c → Wide (coded cum row v c)
unfolding coded
wide-coded {cum} {row} {last} v c w h g =
    let t : ℕ = c.range / 1024 in
    let a : ℕ = get_or cum (row + v) 0 in
    let b : ℕ = get_or cum (row + (v + 1)) 0 in
    let u = g.least in
    let m = g.most in
    let i : a < b = w.rises v h in
    let o : 1 ≤ b - a = omega arith in
    let p : 64 ≤ t = omega arith in
    let some : 64 * 1 ≤ t * (b - a) = mul-le-mul p o in
    let q = part_in v c.range w h in
    let e = q.0 in
    let f = q.1 in
    wide-widened (placed cum row t v c) (omega arith) (omega arith)

pub wide-all : (l : List Item) (c : Coder) → Fit l → Wide c → Wide (coded_all l c)
unfolding coded_all
wide-all [] c f g = g
wide-all (i ∷ l) c f g =
    wide-all l (coded i.cum i.row i.symbol c) f.1 (wide-coded i.symbol c f.0.0 f.0.1 g)

-- ---- the number

bounded-shifted : (c : Coder) → Bounded c → Bounded (shifted c)
bounded-shifted c g =
    let k : ℕ = c.at - 3 in
    let h = g.at in
    let e : 8 * (c.at + 1 - 3) ≡ 8 * k + 8 = omega arith in
    let p : 2 ^ (8 * (c.at + 1 - 3)) ≡ 2 ^ (8 * k) * 256 = ap (λ (x : ℕ). 2 ^ x) e ∙ pow-add 2 (8 * k) 8 in
    let m : (c.low + c.range) * 256 ≤ 2 ^ (8 * k) * 16777215 * 256 = mul-le-mul_right 256 g.below in
    let q = mul_right_comm (2 ^ (8 * k)) 16777215 256 in
    record { at = omega arith; below = rw p (omega arith) }

bounded-widened : (n : ℕ) (c : Coder) → Bounded c → Bounded (widened n c)
unfolding widened
bounded-widened zero c g = g
bounded-widened (suc n) c g = go (ltb c.range 65536) refl (bounded-widened n (shifted c) (bounded-shifted c g))
  where
    go : (t : Bool) → ltb c.range 65536 ≡ t → Bounded (widened n (shifted c)) → Bounded (widened (suc n) c)
    go true e r = rw e r
    go false e r = rw e g

pub below-coded : {cum : List ℕ} {row last : ℕ} (v : ℕ) (c : Coder) → Row cum row last → v ≤ last → Bounded c → Bounded (coded cum row v c)
unfolding coded
below-coded {cum} {row} v c w h g =
    let q = part_in v c.range w h in
    let e = q.0 in
    let f = q.1 in
    let b = g.below in
    bounded-widened 2 (placed cum row (c.range / 1024) v c) (record { at = g.at; below = omega arith })

pub below_all : (l : List Item) (c : Coder) → Fit l → Bounded c → Bounded (coded_all l c)
unfolding coded_all
below_all [] c f g = g
below_all (i ∷ l) c f g =
    below_all l (coded i.cum i.row i.symbol c) f.1 (below-coded i.symbol c f.0.0 f.0.1 g)

-- ---- what grows

pub at-widened : (n : ℕ) (c : Coder) → c.at ≤ (widened n c).at
unfolding widened
at-widened zero c = le_refl c.at
at-widened (suc n) c = go (ltb c.range 65536) refl (at-widened n (shifted c))
  where
    go : (t : Bool) → ltb c.range 65536 ≡ t → c.at + 1 ≤ (widened n (shifted c)).at → c.at ≤ (widened (suc n) c).at
    go true e r = rw e (omega arith)
    go false e r = rw e (le_refl c.at)

pub at-coded : (cum : List ℕ) (row v : ℕ) (c : Coder) → c.at ≤ (coded cum row v c).at
unfolding coded
at-coded cum row v c = at-widened 2 (placed cum row (c.range / 1024) v c)

-- the bytes shifted out never get fewer
pub at_all : (l : List Item) (c : Coder) → c.at ≤ (coded_all l c).at
unfolding coded_all
at_all [] c = le_refl c.at
at_all (i ∷ l) c = le_trans (at-coded i.cum i.row i.symbol c) (at_all l (coded i.cum i.row i.symbol c))

taken-widened : (n : ℕ) (c : Coder) → (widened n c).taken ≡ c.taken
unfolding widened
taken-widened zero c = refl
taken-widened (suc n) c = go (ltb c.range 65536) refl (taken-widened n (shifted c))
  where
    go : (t : Bool) → ltb c.range 65536 ≡ t → (widened n (shifted c)).taken ≡ c.taken → (widened (suc n) c).taken ≡ c.taken
    go true e r = rw e r
    go false e r = rw e refl

pub taken-coded : (cum : List ℕ) (row v : ℕ) (c : Coder) → (coded cum row v c).taken ≡ c.taken + 1
unfolding coded
taken-coded cum row v c = taken-widened 2 (placed cum row (c.range / 1024) v c)

-- every symbol counts one
pub taken-all : (l : List Item) (c : Coder) → (coded_all l c).taken ≡ c.taken + length l
unfolding coded_all
taken-all [] c = sym (add-zero c.taken)
taken-all (i ∷ l) c =
    let e = taken-coded i.cum i.row i.symbol c in
    let r = taken-all l (coded i.cum i.row i.symbol c) in
    omega arith
