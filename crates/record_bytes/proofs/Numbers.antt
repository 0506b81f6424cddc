-- A big-endian number reads back as it was written, and is written back as it was read, at any width. Assumes nothing.
use mathlib.Core.Path.{◌≡◌, refl, sym, ap, ◌∙◌}
use mathlib.Core.List.{List, [], ◌∷◌, ◌++◌, append_assoc}
use Prim.Native.Nat.{ℕ, zero, suc, ◌+◌, ◌*◌, ◌/◌, ◌%◌, ◌^◌, ◌≤◌, ◌<◌}
use native.Mathlib.Nat.{add-zero, pow-suc, div-add-mod', div-lt_iff_lt-mul}
use native.Mathlib.Numerals.{add-one}
use native.Mathlib.Omega.{arith}
use lib.ListN.{length, get_or, take, drop, length-append, length-drop}
use lib.Seq.{get_or_at, take-suc, get_or-drop}
use Rattle.record_bytes.specs.Layout.{big}
use Rattle.record_bytes.specs.Reading.{number}

-- the elements of a list of bytes
abbrev pub Bytes : List ℕ → Type 0
Bytes s = (i : ℕ) → get_or s i 0 < 256

pub number_two : (s : List ℕ) (at : ℕ) → number s at 2 ≡ get_or s at 0 * 256 + get_or s (at + 1) 0
unfolding number
number_two s at = let e : at + 0 ≡ at = add-zero at in rw e (omega arith)

pub number_four : (s : List ℕ) (at : ℕ)
    → number s at 4 ≡ get_or s at 0 * 16777216 + get_or s (at + 1) 0 * 65536 + get_or s (at + 2) 0 * 256 + get_or s (at + 3) 0
unfolding number
number_four s at = let e : at + 0 ≡ at = add-zero at in rw e (omega arith)

pub length-big : (k n : ℕ) → length (big k n) ≡ k
unfolding big
length-big zero n = refl
length-big (suc k) n = length-append (big k (n / 256)) (n % 256 ∷ []) ∙ ap (λ (m : ℕ). m + 1) (length-big k (n / 256)) ∙ add-one k

-- what was written is what is read
pub number-big : (k n : ℕ) (p q : List ℕ) → n < 256 ^ k → number (p ++ (big k n ++ q)) (length p) k ≡ n
unfolding big number
number-big zero n p q h = let e : n < 1 = h in omega arith
number-big (suc k) n p q h =
    let m : n < 256 ^ k * 256 = rw (pow-suc 256 k) at h in
    let d : n / 256 < 256 ^ k = (div-lt_iff_lt-mul {k = 256} (omega arith)).1 m in
    let a : p ++ (big k (n / 256) ++ (n % 256 ∷ []) ++ q) ≡ p ++ (big k (n / 256) ++ (n % 256 ∷ q)) =
    ap (λ (l : List ℕ). p ++ l) (append_assoc (big k (n / 256)) (n % 256 ∷ []) q) in
    let ih : number (p ++ (big k (n / 256) ++ (n % 256 ∷ q))) (length p) k ≡ n / 256 = number-big k (n / 256) p (n % 256 ∷ q) d in
    let l : length (p ++ big k (n / 256)) ≡ length p + k =
    length-append p (big k (n / 256)) ∙ ap (λ (j : ℕ). length p + j) (length-big k (n / 256)) in
    let b : get_or (p ++ (big k (n / 256) ++ (n % 256 ∷ q))) (length p + k) 0 ≡ n % 256 =
    ap (λ (t : List ℕ). get_or t (length p + k) 0) (sym (append_assoc p (big k (n / 256)) (n % 256 ∷ q)))
    ∙ get_or_at (p ++ big k (n / 256)) (n % 256) q 0 (length p + k) l in
    let o : number (p ++ (big (suc k) n ++ q)) (length p) k ≡ n / 256 = ap (λ (t : List ℕ). number t (length p) k) a ∙ ih in
    let g : get_or (p ++ (big (suc k) n ++ q)) (length p + k) 0 ≡ n % 256 = ap (λ (t : List ℕ). get_or t (length p + k) 0) a ∙ b in
    ap (λ (x : ℕ). x * 256 + get_or (p ++ (big (suc k) n ++ q)) (length p + k) 0) o
    ∙ ap (λ (y : ℕ). n / 256 * 256 + y) g ∙ div-add-mod' n 256

-- what was read is what stands there
pub big-number : (k : ℕ) (s : List ℕ) (at : ℕ) → Bytes s → at + k ≤ length s → take k (drop at s) ≡ big k (number s at k)
unfolding big number
big-number zero s at b h = refl
big-number (suc k) s at b h =
    let d : k < length (drop at s) = rw length-drop (omega arith) in
    let x : get_or s (at + k) 0 < 256 = b (at + k) in
    let q : (number s at k * 256 + get_or s (at + k) 0) / 256 ≡ number s at k = omega arith in
    let r : (number s at k * 256 + get_or s (at + k) 0) % 256 ≡ get_or s (at + k) 0 = omega arith in
    let ih : take k (drop at s) ≡ big k (number s at k) = big-number k s at b (omega arith) in
    take-suc (drop at s) k 0 d ∙ rw (get_or-drop, ih, q, r) refl
