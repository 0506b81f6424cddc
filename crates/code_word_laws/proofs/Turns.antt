-- What a turn of each loop keeps, over plain lists and numbers: the syndromes, the transform, the errors taken off; and what the window of
-- digits tells.
-- Assumes nothing.
use mathlib.Core.Path.{◌≡◌, refl, sym, ap, ap₂, ◌∙◌}
use mathlib.Core.List.{List, [], ◌∷◌, ◌++◌}
use Prim.Native.Nat.{ℕ, zero, suc, ◌+◌, ◌-◌, ◌*◌, ◌/◌, ◌%◌, ◌^◌, ◌≤◌, ◌<◌}
use native.Mathlib.Omega.{arith}
use native.Mathlib.Nat.{pow-suc, zero-add, add-zero}
use native.Mathlib.Numerals.{add-one}
use lib.Arith.{mod-mul}
use lib.Bits.{bit_xor, xor_lt}
use lib.Dec.{eqb}
use lib.ListN.{length, get_or, take, drop, set, length-set, take-append-drop, drop_of_length-le}
use lib.Seq.{append_snoc, drop-cons, drop-set-lt, take-suc, take-suc-set, take-length, length-take-le}
use borrow.Author.Tests.{eqb-true, eqb-false}
use Rattle.laws.specs.Decides.{Decides}
use Rattle.gf16.specs.Field.{sum, product, power}
use Rattle.gf16.proofs.Laws.{sum-zero, zero-sum, product-comm, product_lt, product-by-zero, power-power}
use Rattle.code_word_laws.specs.Polynomial.{value}
use Rattle.code_word_laws.specs.Word.{SemiOctets, changes_by}
use Rattle.code_word_laws.specs.Packed.{nibble}
use Rattle.code_word_laws.specs.Corrector.{Row, Syndromes, Clear, Recurs, back, Transformed, taken_off, minor_two, triple}
use Rattle.code_word_laws.proofs.Division.{semi-octet-at, value-append}
use Rattle.code_word_laws.proofs.Packed.{nibble-xor, nibble-zero}

-- ---- the syndromes

-- one more semi-octet at the end
value-snoc : (xs : List ℕ) (c x : ℕ) → c < 16 → value (xs ++ c ∷ []) x ≡ sum (value xs x) (product c (power x (length xs)))
value-snoc xs c x h =
    value-append xs (c ∷ []) x (h, tt)
    ∙ ap (λ (v : ℕ). sum (value xs x) (product (power x (length xs)) v)) (ap (λ (v : ℕ). sum c v) (product-by-zero x) ∙ sum-zero c)
    ∙ ap (λ (v : ℕ). sum (value xs x) v) (product-comm (power x (length xs)) c)

-- the syndromes of the first i semi-octets
abbrev pub SpectrumTo : List ℕ → ℕ → ℕ → Type 0
SpectrumTo w i s = (j : ℕ) → j < 15 → nibble j s ≡ value (take i w) (power 2 j)

pub syndromes-first : (w : List ℕ) → SpectrumTo w 0 0
syndromes-first w j h = nibble-zero j

pub syndromes-next : (w : List ℕ) (i s r : ℕ) → i < length w → SemiOctets w → SpectrumTo w i s → Row i (get_or w i 0) r
    → SpectrumTo w (i + 1) (bit_xor s r)
syndromes-next w i s r h semi e row j l =
    nibble-xor j s r
    ∙ ap₂ sum (e j l) (row j l ∙ ap (λ (x : ℕ). product (get_or w i 0) x) (power-power 2 i j))
    ∙ ap (λ (n : ℕ). sum (value (take i w) (power 2 j)) (product (get_or w i 0) (power (power 2 j) n)))
    (sym (length-take-le i w (omega arith)))
    ∙ sym (value-snoc (take i w) (get_or w i 0) (power 2 j) (semi-octet-at w i semi))
    ∙ ap (λ (l : List ℕ). value l (power 2 j)) (sym (take-suc w i 0 h) ∙ ap (λ (n : ℕ). take n w) (sym (add-one i)))

pub syndromes-last : (w : List ℕ) (i s : ℕ) → i ≡ length w → SpectrumTo w i s → Syndromes w s
syndromes-last w i s e h j l = h j l ∙ ap (λ (l : List ℕ). value l (power 2 j)) (ap (λ (n : ℕ). take n w) e ∙ take-length w)

-- ---- the lowest digits

pub pow_pos : (n : ℕ) → 0 < 16 ^ n
pow_pos zero = omega arith
pow_pos (suc n) = let h = pow_pos n in omega (arith, pow-suc 16 n)

split-digit : (n x : ℕ) → x % 16 ^ suc n ≡ (x / 16 % 16 ^ n) * 16 + x % 16
split-digit n x = ap (λ (m : ℕ). x % m) (pow-suc 16 n) ∙ mod-mul x (pow_pos n) (omega arith)

low-zero : (n x : ℕ) → x % 16 ^ n ≡ 0 → (j : ℕ) → j < n → nibble j x ≡ 0
low-zero zero x e j h = absurd (omega arith)
low-zero (suc n) x e zero h = omega (arith, split-digit n x)
low-zero (suc n) x e (suc j) h =
    let z : x / 16 % 16 ^ n ≡ 0 = omega (arith, split-digit n x) in
    low-zero n (x / 16) z j (omega arith)

zero-low : (n x : ℕ) → ((j : ℕ) → j < n → nibble j x ≡ 0) → x % 16 ^ n ≡ 0
zero-low zero x h = omega arith
zero-low (suc n) x h =
    let z : x / 16 % 16 ^ n ≡ 0 = zero-low n (x / 16) (λ j b. h (suc j) (omega arith)) in
    let f : x % 16 ≡ 0 = h 0 (omega arith) in
    omega (arith, split-digit n x)

clear-low : (n s : ℕ) → s / 16 % 16 ^ n ≡ 0 → Clear n s
clear-low n s e zero p q = absurd (omega arith)
clear-low n s e (suc j) p q = low-zero n (s / 16) e j (omega arith)

-- the remainder tells whether the digits 1 .. n are 0
pub clears : (n s w : ℕ) → w ≡ 16 ^ n → Decides (Clear n s) (eqb (s / 16 % w) 0)
clears n s w e =
    record {
      holds = λ t. clear-low n s (ap (λ (m : ℕ). s / 16 % m) (sym e) ∙ eqb-true (s / 16 % w) 0 t);
      fails = λ t c. eqb-false (s / 16 % w) 0 t (ap (λ (m : ℕ). s / 16 % m) e
          ∙ zero-low n (s / 16) (λ j b. c (suc j) (omega arith) (omega arith)));
    }

-- ---- minors

pub minor-two-is : (a b c d : ℕ) {p q : ℕ} → p ≡ product a d → q ≡ product b c → (bit_xor p q ≡ minor_two a b c d) × (bit_xor p q < 16)
unfolding sum
minor-two-is a b c d e f =
    let s = ap₂ bit_xor e f in
    (s, rw s (xor_lt 4 (product a d) (product b c) (product_lt a d) (product_lt b c)))

pub tripled-is : (a x b y c z : ℕ) {p q r : ℕ} → p ≡ product a x → q ≡ product b y → r ≡ product c z
    → (bit_xor (bit_xor p q) r ≡ triple a x b y c z) × (bit_xor (bit_xor p q) r < 16)
unfolding sum
tripled-is a x b y c z e f g =
    let s = ap₂ bit_xor (ap₂ bit_xor e f) g in (
      s,
      rw s (xor_lt 4 (bit_xor (product a x) (product b y)) (product c z)
          (xor_lt 4 (product a x) (product b y) (product_lt a x) (product_lt b y)) (product_lt c z)),
    )

-- ---- the transform, a sum a turn

-- after q turns: the last three sums of any that go on by the rule, and the transform of all so far
abbrev pub Held : ℕ → ℕ → ℕ → ℕ → ℕ → ℕ → ℕ → ℕ → ℕ → ℕ → ℕ → Type 0
Held r1 r2 r3 s1 s2 u q a b c e =
    (s : ℕ → ℕ) → Recurs r1 r2 r3 s → s 1 ≡ s1 → s 2 ≡ s2 → s 3 ≡ u
    → (s (suc (suc (suc q))) ≡ a) × (s (suc (suc q)) ≡ b) × (s (suc q) ≡ c) × ((k : ℕ) → k < 15 → nibble k e ≡ back s k (suc (suc (suc q))))

module _ (r1 r2 r3 s1 s2 u : ℕ) where
  pub held_first : {x y z : ℕ} → Row 14 s1 x → Row 13 s2 y → Row 12 u z → Held r1 r2 r3 s1 s2 u 0 u s2 s1 (bit_xor (bit_xor x y) z)
  held_first {x} {y} {z} f g h s rule e1 e2 e3 = (
    e3,
    e2,
    e1,
    λ k l.
        nibble-xor k (bit_xor x y) z
        ∙ ap₂ sum (nibble-xor k x y ∙ ap₂ sum (f k l) (g k l)) (h k l)
        ∙ sym (rw (e1, e2, e3) (ap (λ (v : ℕ). sum (sum v (product s2 (power (power 2 13) k))) (product u (power (power 2 12) k)))
        (zero-sum (product s1 (power (power 2 14) k))))),
  )

  pub held_next : {a b c e x r : ℕ} (q n : ℕ) → n + q ≡ 12 → 0 < n → x ≡ triple r2 b r3 c r1 a → Row (n - 1) x r
      → Held r1 r2 r3 s1 s2 u q a b c e → Held r1 r2 r3 s1 s2 u (suc q) x a b (bit_xor e r)
  held_next {a} {b} {c} {e} {x} {r} q n count pos ex row h s rule e1 e2 e3 =
      let p = h s rule e1 e2 e3 in
      let new : s (suc (suc (suc (suc q)))) ≡ x = rule (suc q) ∙ rw (p.0, p.1, p.2) (sym ex) in
      let at : n - 1 ≡ 15 - suc (suc (suc (suc q))) = omega arith in (
        new,
        p.0,
        p.1,
        λ k l.
            nibble-xor k e r
            ∙ ap₂ sum (p.3 k l) (row k l ∙ ap₂ (λ (v w : ℕ). product v (power (power 2 w) k)) (sym new) at),
      )

  pub held-last : {a b c e : ℕ} (q : ℕ) → q ≡ 12 → Held r1 r2 r3 s1 s2 u q a b c e → Transformed r1 r2 r3 s1 s2 u e
  held-last q l h s rule e1 e2 e3 k b = (h s rule e1 e2 e3).3 k b ∙ ap (λ (n : ℕ). back s k (suc (suc (suc n)))) l

-- ---- errors taken off, a semi-octet a turn

-- after i turns: the front is done, the rest is as it was, and what is still to be done gives the whole, in which f counts the changes
pub record TakenTo (f : ℕ → ℕ → ℕ) (old : List ℕ) (e i rest count : ℕ) (now : List ℕ) : Type 0 where
  pub long : length now ≡ length old
  pub behind : drop i now ≡ drop i old
  pub whole : take i now ++ taken_off (drop i old) rest ≡ taken_off old e
  pub counted : count + changes_by f (drop i old) (taken_off (drop i old) rest) ≡ changes_by f old (taken_off old e)

module _ (f : ℕ → ℕ → ℕ) (old : List ℕ) (e : ℕ) where
  pub taken-first : TakenTo f old e 0 e 0 old
  taken-first = record { long = refl; behind = refl; whole = refl; counted = zero-add (changes_by f old (taken_off old e)) }

  module _ (i rest count : ℕ) (now : List ℕ) (k : TakenTo f old e i rest count now) where
    taken_step : (d v c : ℕ) → i < length old → d ≡ rest % 16 → v ≡ sum (get_or now i 0) d → c ≡ f (get_or now i 0) v
        → TakenTo f old e (suc i) (rest / 16) (count + c) (set now i v)
    taken_step d v c h ed ev ec =
        let inside : i < length now = omega (arith, k.long) in
        let o : drop i old ≡ get_or old i 0 ∷ drop (suc i) old = drop-cons old i 0 h in
        let n : drop i now ≡ get_or now i 0 ∷ drop (suc i) now = drop-cons now i 0 inside in
        let b = k.behind in
        let same : get_or now i 0 ≡ get_or old i 0 = cc in
        let rear : drop (suc i) now ≡ drop (suc i) old = cc in
        let put : v ≡ sum (get_or old i 0) (rest % 16) = ev ∙ ap₂ sum same ed in
        record {
          long = length-set now i v ∙ k.long;
          behind = drop-set-lt (suc i) now i v (omega arith) ∙ rear;
          whole =
              ap (λ (l : List ℕ). l ++ taken_off (drop (suc i) old) (rest / 16)) (take-suc-set now i v inside)
              ∙ append_snoc (take i now) v (taken_off (drop (suc i) old) (rest / 16))
              ∙ ap (λ (x : ℕ). take i now ++ x ∷ taken_off (drop (suc i) old) (rest / 16)) put
              ∙ ap (λ (l : List ℕ). take i now ++ taken_off l rest) (sym o)
              ∙ k.whole;
          counted =
              let was : count + (f (get_or old i 0) (sum (get_or old i 0) (rest % 16))
              + changes_by f (drop (suc i) old) (taken_off (drop (suc i) old) (rest / 16))) ≡ changes_by f old (taken_off old e)
              = rw o at k.counted in
              let one : c ≡ f (get_or old i 0) (sum (get_or old i 0) (rest % 16)) = ec ∙ ap₂ f same put in
              omega arith;
        }

    pub taken_next : {d c : ℕ} → i < length old → d ≡ rest % 16 → c ≡ f (get_or now i 0) (sum (get_or now i 0) d)
        → TakenTo f old e (i + 1) (rest / 16) (count + c) (set now i (bit_xor (get_or now i 0) d))
    unfolding sum
    taken_next {d} {c} h ed ec = rw (add-one i) (taken_step d (bit_xor (get_or now i 0) d) c h ed refl ec)

    pub taken-last : length old ≤ i → (now ≡ taken_off old e) × (count ≡ changes_by f old now)
    taken-last h =
        let none : drop i old ≡ [] = drop_of_length-le old h in
        let all : now ≡ taken_off old e =
        sym (take-append-drop i now)
        ∙ ap (λ (l : List ℕ). take i now ++ l) (k.behind ∙ none ∙ sym (ap (λ (l : List ℕ). taken_off l rest) none))
        ∙ k.whole in
        let total : count + 0 ≡ changes_by f old (taken_off old e) = rw none at k.counted in
        (all, sym (add-zero count) ∙ total ∙ ap (λ (l : List ℕ). changes_by f old l) (sym all))
