-- Text put into a buffer from its end back: a number's digits, a field, texts in front of each other. Assumes nothing.
use mathlib.Core.Path.{◌≡◌, refl, sym, ap, ◌∙◌, subst}
use mathlib.Core.List.{List, [], ◌∷◌, ◌++◌, append_assoc, append-nil}
use Prim.Native.Nat.{ℕ, zero, suc, ◌+◌, ◌*◌, ◌-◌, ◌/◌, ◌%◌, ◌^◌, ◌≤◌, ◌<◌}
use native.Mathlib.Nat.{pow-suc, div-lt_iff_lt-mul}
use native.Mathlib.Omega.{arith}
use lib.ListN.{length, set, length-set}
use borrow.Author.Tests.{ne_eqb}
use Rattle.record_bytes.specs.Steps.{Placed}
use Rattle.record_listing.specs.Listing.{leading, decimal, field}
use Rattle.record_bytes.proofs.Putting.{set-put, placed-none, placed-length, placed-before}

-- ---- the digits

pub leading-none : (k : ℕ) → leading k 0 ≡ []
unfolding leading
leading-none zero = refl
leading-none (suc k) = refl

leading-more : (k n : ℕ) → 0 < n → leading (suc k) n ≡ leading k (n / 10) ++ ((48 + n % 10) ∷ [])
unfolding leading
leading-more k n h = simp (ne_eqb n 0 (omega arith))

-- the digits of `rest` are still to be put in front of those from `at` on
pub record Spelling (d after : List ℕ) (end at rest n : ℕ) : Type 0 where
  pub text : List ℕ
  pub fuel : ℕ
  pub spelled : leading fuel rest ++ text ≡ leading n n
  pub enough : rest ≤ fuel
  pub at_text : Placed d after at end text
  pub room : rest < 10 ^ (at + 3 - end)
  pub low : end ≤ at + 3

-- a digit less
pub shorter : (rest m : ℕ) → 0 < rest → rest < 10 ^ m → (0 < m) × (rest / 10 < 10 ^ (m - 1))
shorter rest zero h k = let z : rest < 1 = k in absurd (omega arith)
shorter rest (suc m) h k =
    let p : rest < 10 ^ m * 10 = rw (pow-suc 10 m) at k in
    let d : rest / 10 < 10 ^ m = (div-lt_iff_lt-mul {k = 10} (omega arith)).1 p in
    let e : suc m - 1 ≡ m = omega arith in
    (omega arith, rw e d)

pub spelling-start : (d : List ℕ) (end n : ℕ) → end ≤ length d → n < 1000 → Spelling d d end end n n
spelling-start d end n h k =
    record {
      text = [];
      fuel = n;
      spelled = append-nil (leading n n);
      enough = omega arith;
      at_text = placed-none d end;
      room = let e : end + 3 - end ≡ 3 = omega arith in rw e k;
      low = omega arith;
    }

spell-fuel : (d after : List ℕ) (end at rest n fuel : ℕ) (text : List ℕ) → 0 < rest → leading fuel rest ++ text ≡ leading n n → rest ≤ fuel
    → (k : ℕ) × (leading k (rest / 10) ++ ((48 + rest % 10) ∷ text) ≡ leading n n) × (rest / 10 ≤ k)
spell-fuel d after end at rest n zero text h s e = absurd (omega arith)
spell-fuel d after end at rest n (suc k) text h s e = (
  k,
  sym (append_assoc (leading k (rest / 10)) ((48 + rest % 10) ∷ []) text)
      ∙ ap (λ (l : List ℕ). l ++ text) (sym (leading-more k rest h)) ∙ s,
  omega arith,
)

pub spelling-turn : (d after : List ℕ) (end at rest n x : ℕ) → end ≤ length d → 3 ≤ end → 0 < rest → x ≡ 48 + rest % 10
    → Spelling d after end at rest n
    → Spelling d (set after (at - 1) x) end (at - 1) (rest / 10) n
spelling-turn d after end at rest n x h j k e s =
    let t = s.at_text in
    let z = t.sized in
    let low = s.low in
    let f = spell-fuel d after end at rest n s.fuel s.text k s.spelled s.enough in
    let m = shorter rest (at + 3 - end) k s.room in
    let pos = m.0 in
    let l : length after ≡ length d = placed-length d after at end s.text h t in
    let g : at - 1 + 3 - end ≡ at + 3 - end - 1 = omega arith in
    let o : at - 1 + 1 ≡ at = omega arith in
    record {
      text = (48 + rest % 10) ∷ s.text;
      fuel = f.0;
      spelled = f.1;
      enough = f.2;
      at_text = placed-before d after (set after (at - 1) x) (at - 1) at end ((48 + rest % 10) ∷ []) s.text h t
          (record { sized = o; placed = ap (set after (at - 1)) e ∙ set-put after (at - 1) (48 + rest % 10) (omega arith) });
      room = rw g m.1;
      low = omega arith;
    }

pub spelling-done : (d after : List ℕ) (end at rest n : ℕ) → rest ≡ 0 → Spelling d after end at rest n → Placed d after at end (leading n n)
spelling-done d after end at rest n z s =
    subst (Placed d after at end) (sym (ap (λ (l : List ℕ). l ++ s.text) (ap (leading s.fuel) z ∙ leading-none s.fuel)) ∙ s.spelled)
    s.at_text

-- the last digit and the byte after it stand, and the digits in front of them are put
pub field-placed : (d e : List ℕ) (r end n x after : ℕ) → 5 ≤ end → end ≤ length d → x ≡ 48 + n % 10
    → Placed (set (set d (end - 1) after) (end - 2) x) e r (end - 2) (leading (n / 10) (n / 10)) → Placed d e r end (field n after)
unfolding field decimal
field-placed d e r end n x after h k z p =
    let l : length (set d (end - 1) after) ≡ length d = length-set d (end - 1) after in
    let o : end - 1 + 1 ≡ end = omega arith in
    let o2 : end - 2 + 1 ≡ end - 1 = omega arith in
    let a : Placed d (set d (end - 1) after) (end - 1) end (after ∷ []) =
    record { sized = o; placed = set-put d (end - 1) after (omega arith) } in
    let b : Placed (set d (end - 1) after) (set (set d (end - 1) after) (end - 2) x) (end - 2) (end - 1) (x ∷ []) =
    record { sized = o2; placed = set-put (set d (end - 1) after) (end - 2) x (omega arith) } in
    let c : Placed d (set (set d (end - 1) after) (end - 2) x) (end - 2) end (x ∷ after ∷ []) =
    placed-before d (set d (end - 1) after) (set (set d (end - 1) after) (end - 2) x) (end - 2) (end - 1) end (x ∷ []) (after ∷ []) k a
    b in
    let f : Placed d e r end (leading (n / 10) (n / 10) ++ (x ∷ after ∷ [])) =
    placed-before d (set (set d (end - 1) after) (end - 2) x) e r (end - 2) end (leading (n / 10) (n / 10)) (x ∷ after ∷ []) k c p in
    subst (Placed d e r end) (ap (λ (y : ℕ). leading (n / 10) (n / 10) ++ (y ∷ after ∷ [])) z
    ∙ sym (append_assoc (leading (n / 10) (n / 10)) ((48 + n % 10) ∷ []) (after ∷ []))) f
