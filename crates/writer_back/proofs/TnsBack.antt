-- The TNS data read back: a filter's coefficients, and the filter with its order. Over the rows of crate `coder_tables`. Assumes nothing.
use mathlib.Core.Path.{◌≡◌, refl, sym, ap, ◌∙◌}
use mathlib.Core.Bool.{Bool, true, false, cond}
use mathlib.Core.List.{List}
use Prim.Native.Nat.{ℕ, zero, suc, ◌+◌, ◌*◌, ◌≤◌, ◌<◌}
use native.Mathlib.Omega.{arith}
use native.Mathlib.Nat.{le_trans}
use lib.Dec.{ltb, eqb}
use lib.ListN.{length, get_or, set, replicate, length-set}
use lib.Seq.{get_or-set_same, get_or-set_other, ext_get_or}
use borrow.Author.Tests.{ne_eqb, le-ltb, ltb-true, ltb-false, eqb-true, eqb-false}
use Rattle.frame_bits.specs.Read.{value}
use Rattle.frame_settings.specs.Settings.{order_of, weighting}
use Rattle.frame_coder.specs.declared.Coder.{Coder}
use Rattle.frame_tns.specs.Tns.{unused, coefficients_of, sent_of, filter_of}
use Rattle.frame_tns.specs.Sound.{TnsTables}
use Rattle.writer_laws.specs.Stream.{Item, coded, coded_all}
use Rattle.writer_laws.specs.Tns.{coefficient_items, filter_items}
use Rattle.writer_laws.proofs.Streams.{Fit, at_all}
use Rattle.writer_laws.proofs.Given.{FilterGiven, order-most}
use Rattle.writer_back.proofs.Inside.{Bytes, Inside, seen, back-all, symbol-seen}

pub weighting-below : (q bytes : ℕ) → weighting q bytes < 2
weighting-below q bytes = go (ltb (8 * bytes) (12 * q))
  where
    go : (t : Bool) → cond t 1 0 < 2
    go true = omega arith
    go false = omega arith

-- ---- zeros

pub zeros : (n i : ℕ) → get_or {A = ℕ} (replicate n 0) i 0 ≡ 0
zeros zero i = refl
zeros (suc n) zero = refl
zeros (suc n) (suc i) = zeros n i

unused-zero : (i : ℕ) → get_or unused i 0 ≡ 0
unused-zero i = zeros 8 i

-- ---- the coefficients

module _ (orders rows : List ℕ) (tables : TnsTables orders rows) where
  pub coefficient-fit : (l : List ℕ) (n k : ℕ) → ((i : ℕ) → i < k + n → get_or l i 0 ≤ 16) → k + n ≤ 8 → Fit (coefficient_items rows l n k)
  unfolding coefficient_items
  coefficient-fit l zero k h m = tt
  coefficient-fit l (suc n) k h m =
      ((tables.coefficient k (omega arith), h k (omega arith)), coefficient-fit l n (suc k) (λ i b. h i (omega arith)) (omega arith))

  -- the n coefficients from k on make the list whole
  pub coefficients-back : (s l : List ℕ) → Bytes s → (n k : ℕ) (c : Coder) (kept : List ℕ) → ((i : ℕ) → i < k + n → get_or l i 0 ≤ 16)
      → k + n ≤ 8 → length kept ≡ 8 → length l ≡ 8 → ((i : ℕ) → (k ≤ i → i < k + n → ⊥) → get_or kept i 0 ≡ get_or l i 0)
      → Inside s (coded_all (coefficient_items rows l n k) c) → (coded_all (coefficient_items rows l n k) c).at ≤ length s
      → coefficients_of s rows n k kept (seen s c) ≡ value l (seen s (coded_all (coefficient_items rows l n k) c))
  unfolding coefficient_items coefficients_of coded_all
  coefficients-back s l bytes zero k c kept h m e f g i r =
      let all : kept ≡ l = ext_get_or 0 kept l (omega arith) (λ j b. g j (λ x y. omega arith)) in
      ap (λ (z : List ℕ). value z (seen s c)) all
  coefficients-back s l bytes (suc n) k c kept h m e f g i r =
      let v : ℕ = get_or l k 0 in
      let d : Coder = coded rows (k * 18) v c in
      let rest : List Item = coefficient_items rows l n (suc k) in
      let small : (j : ℕ) → j < suc k + n → get_or l j 0 ≤ 16 = λ j b. h j (omega arith) in
      let j : Inside s d = back-all s rest d bytes (coefficient-fit l n (suc k) small (omega arith)) i in
      let a : d.at ≤ length s = le_trans (at_all rest d) r in
      let again = coefficients-back s l bytes n (suc k) d (set kept k v) small (omega arith) (length-set kept k v ∙ e) f
      (λ x y. next x (eqb x k) refl y) i r in
      rw (symbol-seen s v c bytes (tables.coefficient k (omega arith)) (h k (omega arith)) j a) again
    where
      next : (x : ℕ) (t : Bool) → eqb x k ≡ t → (suc k ≤ x → x < suc k + n → ⊥) → get_or (set kept k (get_or l k 0)) x 0 ≡ get_or l x 0
      next x true w y =
          let z : x ≡ k = eqb-true x k w in
          ap (λ (b : ℕ). get_or (set kept k (get_or l k 0)) b 0) z ∙ get_or-set_same kept k (get_or l k 0) 0 (omega arith)
          ∙ sym (ap (λ (b : ℕ). get_or l b 0) z)
      next x false w y =
          let z : (x ≡ k → ⊥) = eqb-false x k w in
          get_or-set_other kept k x (get_or l k 0) 0 z ∙ g x (λ a b. y (omega arith) (omega arith))

  -- ---- a filter

  pub filter-fit : (w order : ℕ) (l : List ℕ) → w < 2 → order ≤ 8 → ((i : ℕ) → i < order → get_or l i 0 ≤ 16)
      → Fit (filter_items orders rows w order l)
  unfolding filter_items
  filter-fit w zero l h m e = tt
  filter-fit w (suc v) l h m e =
      ((tables.order w h, omega arith), coefficient-fit l (suc v) 0 (λ i b. e i (omega arith)) (omega arith))

  none-sent : (order : ℕ) (l : List ℕ) → ((i : ℕ) → order ≤ i → get_or l i 0 ≡ 0) → (i : ℕ) → (0 ≤ i → i < 0 + order → ⊥)
      → get_or unused i 0 ≡ get_or l i 0
  none-sent order l h i y = go (ltb i order) refl
    where
      go : (t : Bool) → ltb i order ≡ t → get_or unused i 0 ≡ get_or l i 0
      go true w = let z = ltb-true i order w in absurd (y (omega arith) (omega arith))
      go false w = unused-zero i ∙ sym (h i (ltb-false i order w))

  sent_back : (s l : List ℕ) (q v : ℕ) (c : Coder) → Bytes s → suc v ≤ order_of q → ((i : ℕ) → i < suc v → get_or l i 0 ≤ 16)
      → ((i : ℕ) → suc v ≤ i → get_or l i 0 ≡ 0) → length l ≡ 8
      → Inside s (coded_all (filter_items orders rows (weighting q (length s)) (suc v) l) c)
      → (coded_all (filter_items orders rows (weighting q (length s)) (suc v) l) c).at ≤ length s
      → sent_of s orders rows q (seen s c)
      ≡ value (record { order = suc v; coefficients = l })
      (seen s (coded_all (filter_items orders rows (weighting q (length s)) (suc v) l) c))
  unfolding filter_items coded_all sent_of
  sent_back s l q v c bytes m h z e i r =
      let w : ℕ = weighting q (length s) in
      let d : Coder = coded orders (w * 9) v c in
      let rest : List Item = coefficient_items rows l (suc v) 0 in
      let few = order-most q in
      let small : (i : ℕ) → i < 0 + suc v → get_or l i 0 ≤ 16 = λ i b. h i (omega arith) in
      let j : Inside s d = back-all s rest d bytes (coefficient-fit l (suc v) 0 small (omega arith)) i in
      let a : d.at ≤ length s = le_trans (at_all rest d) r in
      let all = coefficients-back s l bytes (suc v) 0 d unused small (omega arith) refl e (none-sent (suc v) l z) i r in
      let first = symbol-seen s v c bytes (tables.order w (weighting-below q (length s))) (omega arith) j a in
      rw (first, le-ltb (order_of q) (suc v) m, all) refl

  -- the filter written is the filter read: cause 8 is not reached
  pub filter-back : (s l : List ℕ) (q flag order : ℕ) (c : Coder) → Bytes s → FilterGiven q flag order l
      → Inside s (coded_all (filter_items orders rows (weighting q (length s)) order l) c)
      → (coded_all (filter_items orders rows (weighting q (length s)) order l) c).at ≤ length s
      → filter_of s orders rows q flag (seen s c)
      ≡ value (record { order = order; coefficients = l })
      (seen s (coded_all (filter_items orders rows (weighting q (length s)) order l) c))
  unfolding filter_items coded_all filter_of
  filter-back s l q flag zero c bytes g i r = go (eqb flag 0) refl
    where
      all : unused ≡ l
      all = let e = g.size in ext_get_or 0 unused l (sym e) (λ j b. unused-zero j ∙ sym (g.rest j (omega arith)))

      go : (t : Bool) → eqb flag 0 ≡ t
          → filter_of s orders rows q flag (seen s c) ≡ value (record { order = 0; coefficients = l }) (seen s c)
      go true e = rw (e, all) refl
      go false e = let a = g.some (eqb-false flag 0 e) in absurd (omega arith)
  filter-back s l q flag (suc v) c bytes g i r =
      let some : flag ≡ 0 → ⊥ = λ e. let a = g.none e in omega arith in
      rw (ne_eqb flag 0 some) (sent_back s l q v c bytes g.most g.entries g.rest g.size i r)
