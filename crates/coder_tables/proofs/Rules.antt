-- The rules of the arithmetic coder's tables, each by a test that antt computes: every row rises from 0 to exactly 1,024, every lookup
-- names a row. One test of rows serves every table and width; crate `laws` turns a computed test into a rule. Assumes nothing.
use mathlib.Core.Path.{◌≡◌, refl, sym, ap, ◌∙◌}
use mathlib.Core.Bool.{Bool}
use mathlib.Core.List.{List}
use Prim.Native.Nat.{ℕ, zero, suc, ◌+◌, ◌*◌, ◌-◌, ◌/◌, ◌%◌, ◌≤◌, ◌<◌}
use native.Mathlib.Omega.{arith}
use native.Mathlib.Nat.{le_of_eq, add-zero}
use lib.Dec.{T, leb, ltb, eqb, leb→le, ltb→lt, eqb→eq}
use lib.ListN.{length, get_or, drop, length-drop}
use lib.Seq.{get_or-drop}
use Rattle.laws.proofs.Every as laws
use Rattle.coder_tables.specs.Tables.{look_table, spectrum_table, order_table, coefficient_table}
use Rattle.coder_tables.specs.Rows.{Row, SpectrumTables}

-- ---- a row

-- n entries before the last
before_last : {t : List ℕ} {at last : ℕ} → Row t at last → (n v : ℕ) → v + n ≡ last + 1 → get_or t (at + v) 0 ≤ 1024
before_last {t} {at} {last} w zero v e = let p : v ≡ last + 1 = omega arith in le_of_eq (ap (λ (k : ℕ). get_or t (at + k) 0) p ∙ w.full)
before_last {t} {at} {last} w (suc n) v e = let a = w.rises v (omega arith) in let b = before_last w n (v + 1) (omega arith) in omega arith

-- no entry of a row is above 1,024
pub row_below : {t : List ℕ} {at last v : ℕ} → Row t at last → v ≤ last + 1 → get_or t (at + v) 0 ≤ 1024
row_below {t} {at} {last} {v} w h = before_last w (last + 1 - v) v (omega arith)

-- ---- the test of a table's rows, and the rule from it

rises-test : List ℕ → ℕ → Bool
rises-test s v = ltb (get_or s v 0) (get_or s (v + 1) 0)

-- the list begins with a row of the symbols 0 .. last
row-test : ℕ → List ℕ → Bool
row-test last s =
    laws.both (leb (last + 2) (length s))
    (laws.both (eqb (get_or s 0 0) 0) (laws.both (eqb (get_or s (last + 1) 0) 1024) (laws.every (last + 1) (rises-test s))))

rows-test : List ℕ → ℕ → ℕ → Bool
rows-test t last r = row-test last (drop (r * (last + 2)) t)

row_from : (t : List ℕ) (at last : ℕ) → T (row-test last (drop at t)) → Row t at last
unfolding row-test rises-test
row_from t at last h =
    let s : List ℕ = drop at t in
    let h1 = laws.both_right (leb (last + 2) (length s)) _ h in
    let h2 = laws.both_right (eqb (get_or s 0 0) 0) _ h1 in
    let here : (v : ℕ) → get_or s v 0 ≡ get_or t (at + v) 0 = λ v. get_or-drop at t v 0 in
    let l : last + 2 ≤ length s = leb→le (last + 2) (length s) (laws.both_left (leb (last + 2) (length s)) _ h) in
    let e : length s ≡ length t - at = length-drop at t in
    let z : get_or s 0 0 ≡ 0 = eqb→eq (get_or s 0 0) 0 (laws.both_left (eqb (get_or s 0 0) 0) _ h1) in
    let f : get_or s (last + 1) 0 ≡ 1024 = eqb→eq (get_or s (last + 1) 0) 1024 (laws.both_left (eqb (get_or s (last + 1) 0) 1024) _ h2) in
    let u : (v : ℕ) → v ≤ last → get_or s v 0 < get_or s (v + 1) 0 =
    λ v p. ltb→lt (get_or s v 0) (get_or s (v + 1) 0)
    (laws.at (last + 1) (rises-test s) (laws.both_right (eqb (get_or s (last + 1) 0) 1024) _ h2) v (omega arith)) in
    record {
      inside = omega arith;
      first = ap (λ (k : ℕ). get_or t k 0) (sym (add-zero at)) ∙ sym (here 0) ∙ z;
      rises = λ v p. let a = u v p in let b = here v in let c = here (v + 1) in omega arith;
      full = sym (here (last + 1)) ∙ f;
    }

-- a table that passes has a row at each place below n
rows : (t : List ℕ) (n last : ℕ) → T (laws.every n (rows-test t last)) → (r : ℕ) → r < n → Row t (r * (last + 2)) last
unfolding rows-test
rows t n last h r p = row_from t (r * (last + 2)) last (laws.at n (rows-test t last) h r p)

-- ---- the lookups, in 64 parts of 64: no part reads the table from its start for each entry

below-test : List ℕ → ℕ → Bool
below-test s j = ltb (get_or s j 0) 64

part-test : List ℕ → ℕ → Bool
part-test t a = laws.every 64 (below-test (drop (a * 64) t))

below-from : (t : List ℕ) → T (laws.every 64 (part-test t)) → (i : ℕ) → i < 4096 → get_or t i 0 < 64
unfolding below-test part-test
below-from t h i p =
    let a : ℕ = i / 64 in
    let b : ℕ = i % 64 in
    let e : a * 64 + b ≡ i = omega arith in
    let s : List ℕ = drop (a * 64) t in
    let l : get_or s b 0 < 64 = ltb→lt (get_or s b 0) 64 (laws.at 64 (below-test s) (laws.at 64 (part-test t) h a (omega arith)) b
    (omega arith)) in
    let g : get_or s b 0 ≡ get_or t i 0 = get_or-drop (a * 64) t b 0 ∙ ap (λ (k : ℕ). get_or t k 0) e in
    omega arith

-- ---- the tables

look-length : length look_table ≡ 4096
unfolding look_table
look-length = refl

look-below : (i : ℕ) → i < 4096 → get_or look_table i 0 < 64
unfolding look_table below-test part-test
look-below = below-from look_table tt

spectrum-row : (r : ℕ) → r < 64 → Row spectrum_table (r * 18) 16
unfolding spectrum_table rows-test row-test rises-test
spectrum-row r h = rows spectrum_table 64 16 tt r h

pub spectrum-tables : SpectrumTables look_table spectrum_table
spectrum-tables = record { looks = look-length; below = look-below; row = spectrum-row }

pub order_row : (w : ℕ) → w < 2 → Row order_table (w * 9) 7
unfolding order_table rows-test row-test rises-test
order_row w h = rows order_table 2 7 tt w h

pub coefficient-row : (k : ℕ) → k < 8 → Row coefficient_table (k * 18) 16
unfolding coefficient_table rows-test row-test rises-test
coefficient-row k h = rows coefficient_table 8 16 tt k h
