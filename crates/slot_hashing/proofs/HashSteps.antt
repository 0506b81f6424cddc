-- What the code of the hashes asks: a push in the machine's operations, and a turn of the loops over semi-octets.
-- Assumes nothing.
use mathlib.Core.Path.{◌≡◌, refl, sym, ap, subst, ◌∙◌}
use Rattle.std.specs.List.{concat}
use Rattle.std.specs.Simd.{first_chunks}
use Rattle.std.proofs.lemmas.List.{append-nil, append_assoc, drop-drop, take-append-drop}
use Rattle.std.proofs.lemmas.List.Folds.{concat-append}
use mathlib.Core.Bool.{Bool, cond}
use mathlib.Core.List.{List, [], ◌∷◌, ◌++◌}
use Prim.Native.Nat.{ℕ, zero, suc, ◌+◌, ◌*◌, ◌-◌, ◌/◌, ◌%◌, ◌^◌, ◌≤◌, ◌<◌}
use native.Mathlib.Omega.{arith}
use native.Mathlib.Nat.{two-pow-succ, div-lt_iff_lt-mul}
use lib.Bits.{bit_xor}
use lib.ListN.{length, take, drop, length-drop}
use lib.Pow.{pow_pos, pow_mono, shl_exact}
use lib.Seq.{take_all}
use borrow.Author.Tests.{eq-eqb, ne_eqb}
use Rattle.gf16.specs.Field.{sum}
use Rattle.slot_laws.specs.Hash.{Degree, pushed, hash, bits_of, powers, poly14, poly16, poly22}
use Rattle.slot_hashing.specs.Inner.{semi_pushed, four_pushed}
use Rattle.slot_laws.specs.Sizes.{frame_size, conceal, hash1}
use Rattle.slot_laws.specs.Order.{part_n, part_p, first_hash, second_hash}
use Rattle.slot_laws.proofs.Hash.{pushed-lt, sum_below, bit-lt}
use Rattle.slot_hashing.proofs.HashRaised.{hash-lowered}

-- a polynomial of such a degree, and a remainder by it, fit
pub degree-fits : (p n : ℕ) → Degree p n → n ≤ 22 → p < 8388608
degree-fits p n d h = let m : 2 ^ suc n ≤ 2 ^ 23 = pow_mono {j = 23} (omega arith) in let t = d.to in omega arith

-- the bit at power n
pub shifted-bit : (b n : ℕ) → b < 2 → n ≤ 22 → b * 2 ^ n % 4294967296 ≡ b * 2 ^ n
shifted-bit b n h l = let k : 1 + n ≤ 32 = omega arith in shl_exact 1 n 32 h k

-- the remainder pushed up has at most one bit at power n
pub top_bit : (n b r : ℕ) → n ≤ 22 → b < 2 → r < 2 ^ n → bit_xor (2 * r) (b * 2 ^ n % 4294967296) / 2 ^ n < 2
unfolding sum
top_bit n b r h k l =
    let w : sum (2 * r) (b * 2 ^ n) < 2 ^ suc n = sum_below (suc n) (2 * r) (b * 2 ^ n) (omega (arith, two-pow-succ n)) (bit-lt b n k) in
    let t : sum (2 * r) (b * 2 ^ n) < 2 * 2 ^ n = omega (arith, two-pow-succ n) in
    rw (shifted-bit b n k h) ((div-lt_iff_lt-mul (pow_pos n)).1 t)

pushed-as : (p n b r : ℕ) → bit_xor (bit_xor (2 * r) (b * 2 ^ n)) (bit_xor (2 * r) (b * 2 ^ n) / 2 ^ n * p) ≡ pushed p n b r
unfolding pushed sum
pushed-as p n b r = refl

pub push-is : (p n b r v w : ℕ) → Degree p n → n ≤ 22 → b < 2 → r < 2 ^ n → v ≡ bit_xor (2 * r) (b * 2 ^ n % 4294967296)
    → w ≡ bit_xor v (v / 2 ^ n * p)
    → (w ≡ pushed p n b r) × (w < 2 ^ n)
push-is p n b r v w d h k l e f =
    let x : w ≡ pushed p n b r = f ∙ ap (λ (y : ℕ). bit_xor y (y / 2 ^ n * p)) (e ∙ ap (bit_xor (2 * r)) (shifted-bit b n k h))
    ∙ pushed-as p n b r in
    let y = pushed-lt p n b r d k l in
    (x, omega arith)

-- ---- the loops over semi-octets

-- the row s gone through from its end as far as its front, and the hash r of what is behind that
pub record Hashed (p n : ℕ) (s front : List ℕ) (r : ℕ) : Type 0 where
  pub behind : List ℕ
  pub parts : front ++ behind ≡ s
  pub is : r ≡ hash p n (bits_of behind)

pub hashed-first : {p n : ℕ} {s front : List ℕ} → front ≡ s → Hashed p n s front 0
unfolding hash bits_of
hashed-first {p} {n} {s} {front} e = record { behind = []; parts = append-nil front ∙ e; is = refl }

-- a semi-octet more
pub hashed-next : {p n : ℕ} {s front : List ℕ} {r : ℕ} (c v : ℕ) (last : List ℕ) → Hashed p n s front r → front ≡ last ++ (c ∷ [])
    → v ≡ semi_pushed p n c r → Hashed p n s last v
unfolding hash bits_of
hashed-next {p} {n} c v last h e f = record {
  behind = c ∷ h.behind;
  parts = sym (append_assoc last (c ∷ []) h.behind) ∙ ap (λ (x : List ℕ). x ++ h.behind) (sym e) ∙ h.parts;
  is = f ∙ ap (semi_pushed p n c) h.is;
}

-- fours: those of a row, and what makes no four
pub fours-parts : (k : ℕ) (s : List ℕ) → concat (first_chunks 4 k s) ++ drop (k * 4) s ≡ s
fours-parts zero s = refl
fours-parts (suc k) s =
    let e : suc k * 4 ≡ 4 + k * 4 = omega arith in
    append_assoc (take 4 s) (concat (first_chunks 4 k (drop 4 s))) (drop (suc k * 4) s)
    ∙ ap (λ (n : ℕ). take 4 s ++ (concat (first_chunks 4 k (drop 4 s)) ++ drop n s)) e
    ∙ ap (λ (t : List ℕ). take 4 s ++ (concat (first_chunks 4 k (drop 4 s)) ++ t)) (sym (drop-drop (k * 4) 4 s))
    ∙ ap (λ (t : List ℕ). take 4 s ++ t) (fours-parts k (drop 4 s))
    ∙ take-append-drop 4 s

concat-last : (l : List (List ℕ)) (four : List ℕ) → concat (l ++ (four ∷ [])) ≡ concat l ++ four
concat-last l four = concat-append l (four ∷ []) ∙ ap (λ (x : List ℕ). concat l ++ x) (append-nil four)

-- what makes no four gone through
pub hashed-fours : {p n : ℕ} {s : List ℕ} {fours : List (List ℕ)} {rest : List ℕ} {r : ℕ} (k : ℕ) → fours ≡ first_chunks 4 k s
    → rest ≡ drop (k * 4) s → r ≡ hash p n (bits_of rest) → Hashed p n s (concat fours) r
hashed-fours {p} {n} {s} {fours} {rest} k e f g = record {
  behind = rest;
  parts = rw (e, f) (fours-parts k s);
  is = g;
}

-- four semi-octets more
four-hash : (p n : ℕ) (four t : List ℕ) (r : ℕ) → length four ≡ 4 → r ≡ hash p n (bits_of t)
    → four_pushed p n four r ≡ hash p n (bits_of (four ++ t))
unfolding hash bits_of
four-hash p n [] t r h e = absurd (omega arith)
four-hash p n (a ∷ []) t r h e = absurd (omega arith)
four-hash p n (a ∷ b ∷ []) t r h e = absurd (omega arith)
four-hash p n (a ∷ b ∷ c ∷ []) t r h e = absurd (omega arith)
four-hash p n (a ∷ b ∷ c ∷ d ∷ []) t r h e =
    ap (λ (x : ℕ). semi_pushed p n a (semi_pushed p n b (semi_pushed p n c (semi_pushed p n d x)))) e
four-hash p n (a ∷ b ∷ c ∷ d ∷ f ∷ l) t r h e = absurd (omega arith)

pub hashed-next-four : {p n : ℕ} {s : List ℕ} {front : List (List ℕ)} {r : ℕ} (four : List ℕ) (v : ℕ) (last : List (List ℕ))
    → length four ≡ 4 → Hashed p n s (concat front) r → front ≡ last ++ (four ∷ []) → v ≡ four_pushed p n four r
    → Hashed p n s (concat last) v
hashed-next-four {p} {n} {s} {front} {r} four v last l h e f = record {
  behind = four ++ h.behind;
  parts = sym (append_assoc (concat last) four h.behind) ∙ ap (λ (x : List ℕ). x ++ h.behind) (sym (ap concat e ∙ concat-last last four))
      ∙ h.parts;
  is = f ∙ four-hash p n four h.behind r l h.is;
}

-- the rest of a row, as a part of it
pub hash-rest : (p n : ℕ) (s : List ℕ) (i v : ℕ) → v ≡ hash p n (bits_of (take (length s - i) (drop i s)))
    → v ≡ hash p n (bits_of (drop i s))
hash-rest p n s i v f =
    let d = length-drop i s in
    let l : length (drop i s) ≤ length s - i = omega arith in
    f ∙ ap (λ (t : List ℕ). hash p n (bits_of t)) (take_all (length s - i) (drop i s) l)

-- ---- the two hashes

-- 71956 is 4 * 17989: x^2 times `poly14`
pub first-forty : (size mode q e : ℕ) (a : List ℕ) (r v : ℕ) → size ≡ 40 → e ≡ 2 * frame_size size mode - conceal size mode
    → r ≡ hash 71956 16 (bits_of (take e a)) → v ≡ pushed 17989 14 (q % 2) (pushed 17989 14 (q / 2 % 2) (r / 4))
    → v ≡ first_hash size mode q a
unfolding first_hash part_n hash1 hash poly14 powers
first-forty size mode q e a r v h k g f =
    let y : r / 4 ≡ hash 17989 14 (bits_of (take e a)) = ap (λ (x : ℕ). x / 4) g ∙ hash-lowered 17989 14 2 (bits_of (take e a)) in
    let w : v ≡ pushed 17989 14 (q % 2) (pushed 17989 14 (q / 2 % 2) (hash 17989 14 (bits_of (take e a)))) =
    f ∙ ap (λ (x : ℕ). pushed 17989 14 (q % 2) (pushed 17989 14 (q / 2 % 2) x)) y in
    subst
    (λ (b : Bool). v ≡ hash (cond b poly14 poly22) (8 * cond b 2 3 - 2) (q % 2 ∷ q / 2 % 2 ∷ bits_of (part_n size mode a)))
    (sym (eq-eqb size 40 h)) (rw k at w)

pub first-other : (size mode q e : ℕ) (a : List ℕ) (r v : ℕ) → (size ≡ 40 → ⊥) → e ≡ 2 * frame_size size mode - conceal size mode
    → r ≡ hash 4788009 22 (bits_of (take e a)) → v ≡ pushed 4788009 22 (q % 2) (pushed 4788009 22 (q / 2 % 2) r)
    → v ≡ first_hash size mode q a
unfolding first_hash part_n hash1 hash poly22 powers
first-other size mode q e a r v h k g f =
    let w : v ≡ pushed 4788009 22 (q % 2) (pushed 4788009 22 (q / 2 % 2) (hash 4788009 22 (bits_of (take e a)))) =
    f ∙ ap (λ (x : ℕ). pushed 4788009 22 (q % 2) (pushed 4788009 22 (q / 2 % 2) x)) g in
    subst
    (λ (b : Bool). v ≡ hash (cond b poly14 poly22) (8 * cond b 2 3 - 2) (q % 2 ∷ q / 2 % 2 ∷ bits_of (part_n size mode a)))
    (sym (ne_eqb size 40 h)) (rw k at w)

pub second_is : (size mode e : ℕ) (a : List ℕ) (v : ℕ) → e ≡ 2 * frame_size size mode - conceal size mode
    → v ≡ hash 107243 16 (bits_of (take (length a - e) (drop e a))) → v ≡ second_hash size mode a
unfolding second_hash part_p poly16 powers
second_is size mode e a v k f = hash-rest 107243 16 a e v f ∙ ap (λ (x : ℕ). hash 107243 16 (bits_of (drop x a))) k
