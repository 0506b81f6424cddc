-- What the tests of writing tell of what is given: its side information, its filters, its lines and its residual bits. Assumes nothing.
use mathlib.Core.Path.{◌≡◌, refl, ap, ◌∙◌}
use mathlib.Core.Bool.{Bool, true, false, cond, ◌&&◌, false≢true}
use mathlib.Core.List.{List, [], ◌∷◌}
use Prim.Native.Nat.{ℕ, zero, suc, ◌+◌, ◌-◌, ◌*◌, ◌/◌, ◌^◌, ◌≤◌, ◌<◌}
use native.Mathlib.Omega.{arith}
use lib.Dec.{ltb, leb, eqb}
use lib.ListN.{length, get_or, length-append, get_or-eq_default}
use lib.IntN.{ℤ, pos, negsuc, nat_abs}
use borrow.Author.Tests.{lt-ltb, le-ltb, ltb-true, ltb-false, leb-true, eqb-true, eqb-false}
use Rattle.laws.specs.Tab.{Below}
use Rattle.frame_bits.specs.Fields.{FieldList, ends, field, obeys, value_bits, list_bits, list_fits}
use Rattle.frame_settings.specs.Settings.{Known, filters_of, order_of}
use Rattle.frame_settings.specs.declared.Setting.{Setting}
use Rattle.frame_side.specs.Side.{last_pair, second_flag, side_fields}
use Rattle.frame_side.specs.declared.Side.{Side}
use Rattle.frame_residual.specs.Residual.{is_zero}
use Rattle.frame_pairs.specs.Sound.{Small}
use Rattle.frame_answers.specs.declared.Fields.{Fields}
use Rattle.writer_laws.specs.SideBits.{side_values}
use Rattle.writer_laws.specs.Fits.{fits_from, entries_fit, magnitudes_fit, filter_fits, side_fits, fields_fit}
use Rattle.writer_laws.specs.Fits.{non_zero_from, non_zero, lines_fit}

-- both tests passed
pub both_hold : (a b : Bool) → (a && b) ≡ true → (a ≡ true) × (b ≡ true)
both_hold true b e = (refl, e)
both_hold false b e = absurd (false≢true e)

-- ---- the side information

pub length-value : (x n : ℕ) → length (value_bits x n) ≡ n
unfolding value_bits
length-value x zero = refl
length-value x (suc n) = ap suc (length-value (x / 2) n)

-- the bits of a list of fields, counted
abbrev pub widths : {A : Type 0} → FieldList A → List ℕ → ℕ
widths (ends a) xs = 0
widths (field w rule rest) [] = 0
widths (field w rule rest) (x ∷ xs) = w + widths (rest x) xs

pub list-long : {A : Type 0} (l : FieldList A) (xs : List ℕ) → length (list_bits l xs) ≡ widths l xs
unfolding list_bits
list-long (ends a) xs = refl
list-long (field w rule rest) [] = refl
list-long (field w rule rest) (x ∷ xs) =
    let r = list-long (rest x) xs in
    let wide = length-value x w in
    length-append (value_bits x w) (list_bits (rest x) xs) ∙ rw (wide, r)

-- each value is below what its width allows, and obeys its rule
abbrev pub Within : {A : Type 0} → FieldList A → List ℕ → Type 0
Within (ends a) xs = Unit {0}
Within (field w rule rest) [] = Unit {0}
Within (field w rule rest) (x ∷ xs) = ((x < 2 ^ w) × (obeys rule x ≡ true)) × Within (rest x) xs

pub list-within : {A : Type 0} (l : FieldList A) (xs : List ℕ) → list_fits l xs ≡ true → Within l xs
unfolding list_fits
list-within (ends a) xs f = tt
list-within (field w rule rest) [] f = tt
list-within (field w rule rest) (x ∷ xs) f =
    let f1 = both_hold (ltb x (2 ^ w)) (obeys rule x && list_fits (rest x) xs) f in
    let f2 = both_hold (obeys rule x) (list_fits (rest x) xs) f1.1 in
    ((ltb-true x (2 ^ w) f1.0, f2.0), list-within (rest x) xs f2.1)

second-most : (q b : ℕ) → second_flag (filters_of q) b ≤ 1
second-most q b = go (ltb b 3) (eqb q 10)
  where
    go : (t u : Bool) → cond t 0 (cond u 1 2 - 1) ≤ 1
    go true u = omega arith
    go false true = omega arith
    go false false = omega arith

-- the side information has 22 to 74 bits
pub side-long :
    (r : Setting) (v : Side) → Known r → side_fits r v ≡ true
    → (22 ≤ length (list_bits (side_fields r) (side_values v))) × (length (list_bits (side_fields r) (side_values v)) ≤ 74)
side-long r v k f =
    let fit = (both_hold (list_fits (side_fields r) (side_values v)) _ f).0 in
    let w = list-within (side_fields r) (side_values v) fit in
    let mode : v.shape.mode < 2 ^ 1 = w.1.1.1.1.1.1.1.1.1.0.0 in
    let pitch : v.flags.pitch_present < 2 ^ 1 = w.1.1.1.1.1.1.0.0 in
    let second = second-most r.duration v.head.bandwidth in
    let b = k.bandwidth in
    let p = k.pair in
    rw (list-long (side_fields r) (side_values v)) (omega arith)

-- the last line is even and not above NE, and the LSB mode is 0
pub record LastFits (r : Setting) (v : Side) : Type 0 where
  pub even : v.head.last_line ≡ 2 * (last_pair v.head.last_line + 1)
  pub most : v.head.last_line ≤ r.lines
  pub lsb : v.head.lsb_mode ≡ 0

pub last_fits : (r : Setting) (v : Side) → side_fits r v ≡ true → LastFits r v
last_fits r v f =
    let last = v.head.last_line in
    let fit = both_hold (list_fits (side_fields r) (side_values v)) _ f in
    let tests = both_hold (eqb last (2 * (last_pair last + 1))) (eqb v.head.lsb_mode 0) fit.1 in
    let even = eqb-true last (2 * (last_pair last + 1)) tests.0 in
    let w = list-within (side_fields r) (side_values v) fit.0 in
    let pair = ltb-true (last_pair last) (r.lines / 2) w.1.0.1 in
    record { even = even; most = omega arith; lsb = eqb-true v.head.lsb_mode 0 tests.1 }

-- ---- entries of a list

-- what the test of the entries tells of entry i
pub fits-at :
    (most n : ℕ) (entry : ℕ → ℕ) (m k i : ℕ) → fits_from most n entry m k ≡ true → k ≤ i → i < k + m → entry i ≤ cond (ltb i n) most 0
unfolding fits_from
fits-at most n entry zero k i f h u = absurd (omega arith)
fits-at most n entry (suc m) k i f h u =
    let d = both_hold (leb (entry k) (cond (ltb k n) most 0)) (fits_from most n entry m (suc k)) f in
    go (ltb k i) refl (leb-true _ _ d.0) (λ l. fits-at most n entry m (suc k) i d.1 l (omega arith))
  where
    go :
        (t : Bool) → ltb k i ≡ t → entry k ≤ cond (ltb k n) most 0 → (suc k ≤ i → entry i ≤ cond (ltb i n) most 0)
        → entry i ≤ cond (ltb i n) most 0
    go true t a r = r (ltb-true k i t)
    go false t a r = let e : k ≡ i = let l = ltb-false k i t in omega arith in rw e at a

pub fits_below :
    (most n : ℕ) (entry : ℕ → ℕ) (m i : ℕ) → fits_from most n entry m 0 ≡ true → i < m → i < n → entry i ≤ most
fits_below most n entry m i f h l = rw (lt-ltb i n l) at (fits-at most n entry m 0 i f (omega arith) (omega arith))

pub fits-above :
    (most n : ℕ) (entry : ℕ → ℕ) (m i : ℕ) → fits_from most n entry m 0 ≡ true → i < m → n ≤ i → entry i ≡ 0
fits-above most n entry m i f h l =
    let a : entry i ≤ 0 = rw (le-ltb i n l) at (fits-at most n entry m 0 i f (omega arith) (omega arith)) in omega arith

pub no-magnitude : (v : ℤ) → nat_abs v ≡ 0 → v ≡ pos 0
no-magnitude (pos n) e = ap pos e
no-magnitude (negsuc n) e = absurd (omega arith)

-- an entry of a list whose test passed, also past its end
pub entry-most :
    (most n : ℕ) (l : List ℕ) → entries_fit most n l ≡ true → (i : ℕ) → get_or l i 0 ≤ most
entry-most most n l f i = go (ltb i (length l)) (ltb i n) refl refl
  where
    go : (t u : Bool) → ltb i (length l) ≡ t → ltb i n ≡ u → get_or l i 0 ≤ most
    go true true e d = fits_below most n (λ k. get_or l k 0) (length l) i f (ltb-true i (length l) e) (ltb-true i n d)
    go true false e d =
        let z : get_or l i 0 ≡ 0 = fits-above most n (λ k. get_or l k 0) (length l) i f (ltb-true i (length l) e) (ltb-false i n d) in
        omega arith
    go false u e d = let z = get_or-eq_default l 0 (ltb-false i (length l) e) in omega arith

pub entry-none : (most n : ℕ) (l : List ℕ) → entries_fit most n l ≡ true → (i : ℕ) → n ≤ i → get_or l i 0 ≡ 0
entry-none most n l f i h = go (ltb i (length l)) refl
  where
    go : (t : Bool) → ltb i (length l) ≡ t → get_or l i 0 ≡ 0
    go true e = fits-above most n (λ k. get_or l k 0) (length l) i f (ltb-true i (length l) e) h
    go false e = get_or-eq_default l 0 (ltb-false i (length l) e)

-- the same of lines
pub line-most : (most n : ℕ) (xs : List ℤ) → magnitudes_fit most n xs ≡ true → (i : ℕ) → nat_abs (get_or xs i (pos 0)) ≤ most
line-most most n xs f i = go (ltb i (length xs)) (ltb i n) refl refl
  where
    go : (t u : Bool) → ltb i (length xs) ≡ t → ltb i n ≡ u → nat_abs (get_or xs i (pos 0)) ≤ most
    go true true e d =
        fits_below most n (λ k. nat_abs (get_or xs k (pos 0))) (length xs) i f (ltb-true i (length xs) e) (ltb-true i n d)
    go true false e d =
        let z : nat_abs (get_or xs i (pos 0)) ≡ 0 =
        fits-above most n (λ k. nat_abs (get_or xs k (pos 0))) (length xs) i f (ltb-true i (length xs) e) (ltb-false i n d) in
        omega arith
    go false u e d = rw (get_or-eq_default xs (pos 0) (ltb-false i (length xs) e)) (omega arith)

pub line-none : (most n : ℕ) (xs : List ℤ) → magnitudes_fit most n xs ≡ true → (i : ℕ) → n ≤ i → get_or xs i (pos 0) ≡ pos 0
line-none most n xs f i h = go (ltb i (length xs)) refl
  where
    go : (t : Bool) → ltb i (length xs) ≡ t → get_or xs i (pos 0) ≡ pos 0
    go true e =
        no-magnitude (get_or xs i (pos 0))
        (fits-above most n (λ k. nat_abs (get_or xs k (pos 0))) (length xs) i f (ltb-true i (length xs) e) h)
    go false e = get_or-eq_default xs (pos 0) (ltb-false i (length xs) e)

-- ---- the fields

-- a filter that can be written: its order is 0 where its flag is, and its coefficients are 0 from the order on
pub record FilterGiven (q flag order : ℕ) (l : List ℕ) : Type 0 where
  pub none : flag ≡ 0 → order ≡ 0
  pub some : (flag ≡ 0 → ⊥) → 1 ≤ order
  pub most : order ≤ order_of q
  pub entries : (i : ℕ) → i < order → get_or l i 0 ≤ 16
  pub rest : (i : ℕ) → order ≤ i → get_or l i 0 ≡ 0
  pub size : length l ≡ 8

pub order-most : (q : ℕ) → order_of q ≤ 8
order-most q = go (leb q 20)
  where
    go : (t : Bool) → cond t 4 8 ≤ 8
    go true = omega arith
    go false = omega arith

pub filter-given : (q flag order : ℕ) (l : List ℕ) → filter_fits q flag order l ≡ true → length l ≡ 8 → FilterGiven q flag order l
filter-given q flag order l f size = go (eqb flag 0) refl
  where
    go : (t : Bool) → eqb flag 0 ≡ t → FilterGiven q flag order l
    go true e =
        let d = both_hold (eqb order 0) (entries_fit 16 order l) (rw e at f) in
        let z : order ≡ 0 = eqb-true order 0 d.0 in
        let no : flag ≡ 0 = eqb-true flag 0 e in
        record {
          none = λ n. z;
          some = λ n. absurd (n no);
          most = omega arith;
          entries = λ i h. entry-most 16 order l d.1 i;
          rest = λ i h. entry-none 16 order l d.1 i h;
          size = size;
        }
    go false e =
        let d = both_hold (leb 1 order && leb order (order_of q)) (entries_fit 16 order l) (rw e at f) in
        let b = both_hold (leb 1 order) (leb order (order_of q)) d.0 in
        let no : flag ≡ 0 → ⊥ = eqb-false flag 0 e in
        record {
          none = λ n. absurd (no n);
          some = λ n. leb-true 1 order b.0;
          most = leb-true order (order_of q) b.1;
          entries = λ i h. entry-most 16 order l d.1 i;
          rest = λ i h. entry-none 16 order l d.1 i h;
          size = size;
        }

pub record FieldsGiven (r : Setting) (f : Fields) (first second : List ℕ) : Type 0 where
  pub side : side_fits r f.side ≡ true
  pub filter0 : FilterGiven r.duration f.side.flags.tns_0 f.tns_order_0 first
  pub filter1 : FilterGiven r.duration f.side.flags.tns_1 f.tns_order_1 second

pub fields-given :
    (r : Setting) (f : Fields) (first second : List ℕ) → fields_fit r f first second ≡ true → length first ≡ 8 → length second ≡ 8
    → FieldsGiven r f first second
unfolding fields_fit
fields-given r f first second t a b =
    let d = both_hold (side_fits r f.side) _ t in
    let e = both_hold (filter_fits r.duration f.side.flags.tns_0 f.tns_order_0 first) _ d.1 in
    record {
      side = d.0;
      filter0 = filter-given r.duration f.side.flags.tns_0 f.tns_order_0 first e.0 a;
      filter1 = filter-given r.duration f.side.flags.tns_1 f.tns_order_1 second e.1 b;
    }

-- ---- the lines and the residual bits

pub nonzero-most : (xs : List ℤ) (n k : ℕ) → non_zero_from xs n k ≤ n
unfolding non_zero_from
nonzero-most xs zero k = omega arith
nonzero-most xs (suc n) k = go (is_zero (get_or xs k (pos 0))) (nonzero-most xs n (suc k))
  where
    go : (t : Bool) → non_zero_from xs n (suc k) ≤ n → cond t 0 1 + non_zero_from xs n (suc k) ≤ suc n
    go true h = omega arith
    go false h = omega arith

pub record LinesGiven (f : Fields) (xs : List ℤ) (bits : List ℕ) : Type 0 where
  pub small : Small xs
  pub none : (i : ℕ) → f.side.head.last_line ≤ i → get_or xs i (pos 0) ≡ pos 0
  pub count : f.residual_bits ≡ non_zero xs
  pub binary : Below 2 bits

pub lines-given : (f : Fields) (xs : List ℤ) (bits : List ℕ) → lines_fit f xs bits ≡ true → LinesGiven f xs bits
unfolding lines_fit
lines-given f xs bits t =
    let last = f.side.head.last_line in
    let d = both_hold (magnitudes_fit 32767 last xs) _ t in
    let e = both_hold (eqb f.residual_bits (non_zero xs)) (entries_fit 1 f.residual_bits bits) d.1 in
    record {
      small = line-most 32767 last xs d.0;
      none = line-none 32767 last xs d.0;
      count = eqb-true f.residual_bits (non_zero xs) e.0;
      binary = λ i. let h = entry-most 1 f.residual_bits bits e.1 i in omega arith;
    }
