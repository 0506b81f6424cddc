-- What the code of one pair asks: how a value grows by an escape's bits, the row of a context, and the escapes a way at a time.
-- Assumes nothing.
use mathlib.Core.Path.{◌≡◌, refl, sym, ap, ◌∙◌, subst}
use mathlib.Core.Bool.{Bool, true, false, cond}
use mathlib.Core.List.{List}
use Prim.Native.Nat.{ℕ, suc, ◌+◌, ◌-◌, ◌*◌, ◌/◌, ◌%◌, ◌^◌, ◌≤◌, ◌<◌, min}
use native.Mathlib.Omega.{arith}
use native.Mathlib.Nat.{mul-le-mul, mul-le-mul_right}
use native.Mathlib.Numerals.{add-one}
use lib.Dec.{ltb}
use lib.ListN.{length, get_or}
use lib.Pow.{pow_mono}
use borrow.Author.Tests.{ltb-true, ltb-false, lt-ltb, le-ltb, eq-eqb, ne_eqb}
use Rattle.coder_tables.specs.Layout.{by_context}
use Rattle.coder_tables.specs.Rows.{Row, SpectrumTables}
use Rattle.coder_tables.specs.Tables.{look_table}
use Rattle.coder_tables.proofs.LayoutRules.{by-context-at}
use Rattle.std.specs.Prelude.{Result, Ok, Err}
use Rattle.refusals.specs.declared.Cause.{Cause}
use Rattle.refusals.specs.Numbers.{cause_number}
use Rattle.frame_bits.specs.declared.Step.{Step}
use Rattle.frame_bits.specs.Read.{value, cause, given}
use Rattle.frame_bits.specs.Bits.{bit_of, read_bit}
use Rattle.frame_bits.specs.Sound.{GoodBit}
use Rattle.frame_coder.specs.Symbol.{symbol_of}
use Rattle.frame_pair.specs.Pair.{capped, row_of, plane_of, last_of, sign_of, context_of, signed_of, pair_of}
use Rattle.frame_pair.specs.Sound.{Built, Room, GoodSign}
use Rattle.frame_coder.specs.declared.Coder.{Coder}
use Rattle.frame_pair.specs.declared.Last.{Last}

-- ---- values

pub times_power : (a level : ℕ) → a ≤ 3 → a * 2 ^ level ≤ 3 * 2 ^ level
times_power a level h = mul-le-mul_right (2 ^ level) h

-- behind the last symbol a value is whole, up to the late bit
pub room : (lsb level x a : ℕ) → Built lsb level x → a < 4 → level ≤ 13 → Room lsb level (x + a * 2 ^ level)
room lsb level x a b h l =
    let w : 2 ^ level ≤ 8192 = pow_mono l in
    let m = times_power a level (omega arith) in
    let u = b.0 in
    (omega arith, λ k. let v = b.1 k in omega arith)

-- ---- rows and contexts

capped-min-by : (level : ℕ) (t : Bool) → ltb level 3 ≡ t → min level 3 ≡ cond t level 3
capped-min-by level true e = let h = ltb-true level 3 e in omega arith
capped-min-by level false e = let h = ltb-false level 3 e in omega arith

pub capped-min : (level : ℕ) → min level 3 ≡ capped level
capped-min level = capped-min-by level (ltb level 3) refl

capped-by : (level : ℕ) (t : Bool) → ltb level 3 ≡ t → cond t level 3 ≤ 3
capped-by level true e = let h = ltb-true level 3 e in omega arith
capped-by level false e = omega arith

pub capped_le : (level : ℕ) → capped level ≤ 3
capped_le level = capped-by level (ltb level 3) refl

-- the code's table has the four levels of a context side by side
pub row_is : (base level l r : ℕ) → base < 1024 → l < 4 → l ≡ capped level → r ≡ get_or (by_context look_table) (4 * base + l) 0
    → r * 18 ≡ row_of look_table base level
row_is base level l r h i e f =
    let p : 1024 * l + base ≡ base + 1024 * capped level = omega arith in
    ap (λ (k : ℕ). k * 18) (f ∙ by-context-at look_table base l h i ∙ ap (λ (k : ℕ). get_or look_table k 0) p)

pub row_at : (look cum : List ℕ) (base level r : ℕ) → SpectrumTables look cum → base < 1024 → r ≡ row_of look base level → Row cum r 16
row_at look cum base level r t h e =
    let k = capped_le level in
    subst (λ (i : ℕ). Row cum i 16) (sym e)
    (t.row (get_or look (base + 1024 * capped level) 0) (t.below (base + 1024 * capped level) (omega arith)))

pub weight : (a b l : ℕ) → a + b ≤ 6 → l ≤ 1 → (a + b) * (l + 1) ≤ 12
weight a b l h k = mul-le-mul {n₂ = 6} {m₂ = 2} h (omega arith)

-- ---- an escape's bits

module _ (s : List ℕ) (lsb level x y p : ℕ) where
  pub plane-late : level < lsb → plane_of s lsb level x y p ≡ value (record { x = x; y = y }) p
  unfolding plane_of
  plane-late h = rw (lt-ltb level lsb h)

  pub plane-first : (k : ℕ) → lsb ≤ level → read_bit s p ≡ cause k → plane_of s lsb level x y p ≡ cause k
  unfolding plane_of
  plane-first k h e = rw (le-ltb level lsb h, e)

  pub plane-second : (a q k : ℕ) → lsb ≤ level → read_bit s p ≡ value a q → read_bit s q ≡ cause k → plane_of s lsb level x y p ≡ cause k
  unfolding plane_of
  plane-second a q k h e f = rw (le-ltb level lsb h, e, f)

  pub plane-both : (a q b r u w : ℕ) → lsb ≤ level → read_bit s p ≡ value a q → read_bit s q ≡ value b r
      → u ≡ x + a * 2 ^ level → w ≡ y + b * 2 ^ level → plane_of s lsb level x y p ≡ value (record { x = u; y = w }) r
  unfolding plane_of
  plane-both a q b r u w h e f g i = rw (g, i, le-ltb level lsb h, e, f)

-- ---- the escapes

module _ (s look cum : List ℕ) (lsb base level x y : ℕ) (c : Coder) (p : ℕ) where
  pub last_none : 14 ≤ level → last_of s look cum lsb base (14 - level) level x y c p ≡ cause 5
  unfolding last_of
  last_none h = let n : 14 - level ≡ 0 = omega arith in rw n

  pub last-stop : (k : ℕ) → level < 14 → symbol_of s cum (row_of look base level) 16 c ≡ cause k
      → last_of s look cum lsb base (14 - level) level x y c p ≡ cause k
  unfolding last_of
  last-stop k h e = let n : 14 - level ≡ suc (13 - level) = omega arith in rw (n, e)

  pub last_found : (v : ℕ) (d : Coder) → level < 14 → symbol_of s cum (row_of look base level) 16 c ≡ value v d → v < 16
      → last_of s look cum lsb base (14 - level) level x y c p
      ≡ value (record { symbol = v; x = x; y = y; level = level }) (record { coder = d; side = p })
  unfolding last_of
  last_found v d h e f = let n : 14 - level ≡ suc (13 - level) = omega arith in rw (n, e, lt-ltb v 16 f)

  pub last_out : (v : ℕ) (d : Coder) (k : ℕ) → level < 14 → symbol_of s cum (row_of look base level) 16 c ≡ value v d → 16 ≤ v
      → plane_of s lsb level x y p ≡ cause k → last_of s look cum lsb base (14 - level) level x y c p ≡ cause k
  unfolding last_of
  last_out v d k h e f g = let n : 14 - level ≡ suc (13 - level) = omega arith in rw (n, e, le-ltb v 16 f, g)

  pub last_more : (v : ℕ) (d : Coder) (u w q : ℕ) → level < 14 → symbol_of s cum (row_of look base level) 16 c ≡ value v d → 16 ≤ v
      → plane_of s lsb level x y p ≡ value (record { x = u; y = w }) q
      → last_of s look cum lsb base (14 - (level + 1)) (level + 1) u w d q ≡ last_of s look cum lsb base (14 - level) level x y c p
  unfolding last_of
  last_more v d u w q h e f g =
      let n : 14 - level ≡ suc (13 - level) = omega arith in
      let m : 14 - (level + 1) ≡ 13 - level = omega arith in
      rw (n, e, le-ltb v 16 f, g, m, add-one level)

-- ---- signs

pub sign-none : (s : List ℕ) (m p : ℕ) → m ≡ 0 → sign_of s m p ≡ value 0 p
unfolding sign_of
sign-none s m p e = rw (eq-eqb m 0 e)

pub sign-some : (s : List ℕ) (m p : ℕ) → (m ≡ 0 → ⊥) → sign_of s m p ≡ read_bit s p
unfolding sign_of
sign-some s m p e = rw (ne_eqb m 0 e)

-- what ends at a bit is cause 6
pub bit-cause : (s : List ℕ) (p k : ℕ) → cause k ≡ read_bit s p → k ≡ 6
unfolding read_bit
bit-cause s p k e = go (ltb p (8 * length s)) e
  where
    go : (t : Bool) → cause k ≡ cond t (value (bit_of s p) (p + 1)) (cause 6) → k ≡ 6
    go true e = absurd (cc)
    go false e = cc

pub sign-good : (s : List ℕ) (p : ℕ) (r : Result (Step ℕ ℕ) Cause) → given r ≡ read_bit s p → GoodBit s p r → GoodSign r
sign-good s p (Ok sign) e g = g.0
sign-good s p (Err why) e g = bit-cause s p (cause_number why) e

-- ---- the pair behind its last symbol

module _ (s look cum : List ℕ) (lsb base context : ℕ) (c : Coder) (p : ℕ) where
  pub pair-stop : (k : ℕ) → last_of s look cum lsb base 14 0 0 0 c p ≡ cause k → pair_of s look cum lsb base context c p ≡ cause k
  unfolding pair_of
  pair-stop k e = rw e

  pub pair-signed : (l : Last) (d : Coder) (q x y : ℕ) → last_of s look cum lsb base 14 0 0 0 c p ≡ value l (record { coder = d; side = q })
      → x ≡ l.x + l.symbol % 4 * 2 ^ l.level → y ≡ l.y + l.symbol / 4 * 2 ^ l.level
      → pair_of s look cum lsb base context c p ≡ signed_of s context x y l d q
  unfolding pair_of
  pair-signed l d q x y e f g = rw (f, g, e)

module _ (s : List ℕ) (context x y : ℕ) (l : Last) (c : Coder) (p : ℕ) where
  pub signed-first : (k : ℕ) → sign_of s x p ≡ cause k → signed_of s context x y l c p ≡ cause k
  unfolding signed_of
  signed-first k e = rw e

  pub signed-second : (a q k : ℕ) → sign_of s x p ≡ value a q → sign_of s y q ≡ cause k → signed_of s context x y l c p ≡ cause k
  unfolding signed_of
  signed-second a q k e f = rw (e, f)

  pub signed-crossed : (a q b r : ℕ) → sign_of s x p ≡ value a q → sign_of s y q ≡ value b r → length s + 2 < c.at + r / 8
      → signed_of s context x y l c p ≡ cause 6
  unfolding signed_of
  signed-crossed a q b r e f h = rw (e, f, lt-ltb (length s + 2) (c.at + r / 8) h)

  pub signed-read : (a q b r next : ℕ) → sign_of s x p ≡ value a q → sign_of s y q ≡ value b r → c.at + r / 8 ≤ length s + 2
      → next ≡ context_of context (l.symbol % 4) (l.symbol / 4) l.level
      → signed_of s context x y l c p
      ≡ value (record { x = x; xsign = a; y = y; ysign = b; level = l.level; context = next }) (record { coder = c; side = r })
  unfolding signed_of
  signed-read a q b r next e f h g = rw (e, f, le-ltb (length s + 2) (c.at + r / 8) h, g)
