-- Bytes as one number: what a byte counts in it, and one more in the first n of them, byte after byte from the last. Assumes nothing.
use mathlib.Core.Path.{◌≡◌, refl, sym, ap, ◌∙◌}
use mathlib.Core.Bool.{Bool, true, false}
use mathlib.Core.List.{List}
use Prim.Native.Nat.{ℕ, zero, suc, ◌+◌, ◌-◌, ◌*◌, ◌^◌, ◌≤◌, ◌<◌}
use native.Mathlib.Omega.{arith}
use native.Mathlib.Nat.{add-mul, mul_assoc, mul-one}
use lib.Dec.{eqb}
use lib.ListN.{length, get_or, set, length-set}
use lib.Pow.{pow-add}
use lib.Seq.{get_or-set_same, get_or-set_other}
use borrow.Author.Tests.{eqb-true, eqb-false}
use Rattle.writer_laws.specs.Stream.{front_of}
use Rattle.writer_laws.proofs.Digits.{front_same}
use Rattle.writer_steps.specs.Flow.{Carried}

-- a byte behind the first n does not count
pub front-set-past : (l : List ℕ) (j v n : ℕ) → n ≤ j → front_of (set l j v) n ≡ front_of l n
front-set-past l j v n h = front_same (set l j v) l n (λ i p. get_or-set_other l j i v 0 (λ (e : i ≡ j). omega arith))

-- what a byte counts, one byte further from the end
pub weight-more : (k : ℕ) → 2 ^ (8 * (k + 1)) ≡ 2 ^ (8 * k) * 256
weight-more k = let e : 8 * (k + 1) ≡ 8 * k + 8 = omega arith in ap (λ (x : ℕ). 2 ^ x) e ∙ pow-add 2 (8 * k) 8

-- byte j of n counts 2 ^ (8 (n - 1 - j))
pub front-set : (l : List ℕ) (j v n : ℕ) → j < n → n ≤ length l
    → front_of (set l j v) n + get_or l j 0 * 2 ^ (8 * (n - 1 - j)) ≡ front_of l n + v * 2 ^ (8 * (n - 1 - j))
unfolding front_of
front-set l j v zero h k = absurd (omega arith)
front-set l j v (suc n) h k = go (eqb j n) refl (λ p. front-set l j v n p (omega arith))
  where
    go : (b : Bool) → eqb j n ≡ b
        → (j < n → front_of (set l j v) n + get_or l j 0 * 2 ^ (8 * (n - 1 - j)) ≡ front_of l n + v * 2 ^ (8 * (n - 1 - j)))
        → front_of (set l j v) n * 256 + get_or (set l j v) n 0 + get_or l j 0 * 2 ^ (8 * (suc n - 1 - j))
        ≡ front_of l n * 256 + get_or l n 0 + v * 2 ^ (8 * (suc n - 1 - j))
    go true t r =
        let q : j ≡ n = eqb-true j n t in
        let a : front_of (set l j v) n ≡ front_of l n = front-set-past l j v n (omega arith) in
        let b : get_or (set l j v) n 0 ≡ v = rw (← q) (get_or-set_same l j v 0 (omega arith)) in
        let g : get_or l j 0 ≡ get_or l n 0 = ap (λ (x : ℕ). get_or l x 0) q in
        let z : suc n - 1 - j ≡ 0 = omega arith in
        let w : 2 ^ (8 * (suc n - 1 - j)) ≡ 1 = ap (λ (x : ℕ). 2 ^ (8 * x)) z in
        let x = mul-one (get_or l j 0) in
        let y = mul-one v in
        rw w (omega arith)
    go false t r =
        let q : (j ≡ n → ⊥) = eqb-false j n t in
        let s = r (omega arith) in
        let b : get_or (set l j v) n 0 ≡ get_or l n 0 = get_or-set_other l j n v 0 (λ (e : n ≡ j). q (sym e)) in
        let z : suc n - 1 - j ≡ n - 1 - j + 1 = omega arith in
        let w : 2 ^ (8 * (suc n - 1 - j)) ≡ 2 ^ (8 * (n - 1 - j)) * 256 = ap (λ (x : ℕ). 2 ^ (8 * x)) z ∙ weight-more (n - 1 - j) in
        let x = mul_assoc (get_or l j 0) (2 ^ (8 * (n - 1 - j))) 256 in
        let y = mul_assoc v (2 ^ (8 * (n - 1 - j))) 256 in
        rw w (omega arith)

-- one more in the first n bytes, of which byte j is still to grow
pub record Pending (n : ℕ) (l m : List ℕ) (j : ℕ) : Type 0 where
  pub number : front_of m n + 2 ^ (8 * (n - 1 - j)) ≡ front_of l n + 1
  pub inside : j < n
  pub room : length m ≡ length l
  pub rest : (i : ℕ) → n ≤ i → get_or m i 0 ≡ get_or l i 0

-- no byte has no room for one more
pub some_bytes : (l : List ℕ) (n : ℕ) → front_of l n + 1 < 2 ^ (8 * n) → 0 < n
some_bytes l zero h = absurd (omega arith)
some_bytes l (suc n) h = omega arith

pub pending-first : (n : ℕ) (l : List ℕ) → front_of l n + 1 < 2 ^ (8 * n) → Pending n l l (n - 1)
pending-first n l h =
    let p = some_bytes l n h in
    let z : n - 1 - (n - 1) ≡ 0 = omega arith in
    let w : 2 ^ (8 * (n - 1 - (n - 1))) ≡ 1 = ap (λ (x : ℕ). 2 ^ (8 * x)) z in
    record { number = rw w refl; inside = omega arith; room = refl; rest = λ i q. refl }

-- a byte of 255 is not the first: all bytes would be
pub pending-more : (n : ℕ) (l m : List ℕ) (j : ℕ) → n ≤ length l → front_of l n + 1 < 2 ^ (8 * n) → Pending n l m j → get_or m j 0 ≡ 255
    → 0 < j
pending-more n l m zero h f p e =
    let k = p.inside in
    let r = p.room in
    let a = p.number in
    let b = front-set m 0 0 n k (omega arith) in
    let z : n - 1 - 0 + 1 ≡ n = omega arith in
    let w : 2 ^ (8 * n) ≡ 2 ^ (8 * (n - 1 - 0)) * 256 = ap (λ (x : ℕ). 2 ^ (8 * x)) (sym z) ∙ weight-more (n - 1 - 0) in
    let c : get_or m 0 0 * 2 ^ (8 * (n - 1 - 0)) ≡ 255 * 2 ^ (8 * (n - 1 - 0)) = ap (λ (x : ℕ). x * 2 ^ (8 * (n - 1 - 0))) e in
    absurd (omega arith)
pending-more n l m (suc j) h f p e = omega arith

pub pending_next : (n : ℕ) (l m : List ℕ) (j : ℕ) → n ≤ length l → 0 < j → Pending n l m j → get_or m j 0 ≡ 255
    → Pending n l (set m j 0) (j - 1)
pending_next n l m j h o p e =
    let k = p.inside in
    let r = p.room in
    let a = p.number in
    let b = front-set m j 0 n k (omega arith) in
    let z : n - 1 - (j - 1) ≡ n - 1 - j + 1 = omega arith in
    let w : 2 ^ (8 * (n - 1 - (j - 1))) ≡ 2 ^ (8 * (n - 1 - j)) * 256 = ap (λ (x : ℕ). 2 ^ (8 * x)) z ∙ weight-more (n - 1 - j) in
    let c : get_or m j 0 * 2 ^ (8 * (n - 1 - j)) ≡ 255 * 2 ^ (8 * (n - 1 - j)) = ap (λ (x : ℕ). x * 2 ^ (8 * (n - 1 - j))) e in
    record {
      number = omega arith;
      inside = omega arith;
      room = length-set m j 0 ∙ r;
      rest = λ i q. get_or-set_other m j i 0 0 (λ (x : i ≡ j). omega arith) ∙ p.rest i q;
    }

pub pending-last : (n : ℕ) (l m : List ℕ) (j : ℕ) → n ≤ length l → Pending n l m j → Carried n l (set m j (get_or m j 0 + 1))
pending-last n l m j h p =
    let k = p.inside in
    let r = p.room in
    let a = p.number in
    let b = front-set m j (get_or m j 0 + 1) n k (omega arith) in
    let c = add-mul (get_or m j 0) 1 (2 ^ (8 * (n - 1 - j))) in
    record {
      number = omega arith;
      room = length-set m j (get_or m j 0 + 1) ∙ r;
      rest = λ i q. get_or-set_other m j i (get_or m j 0 + 1) 0 (λ (x : i ≡ j). omega arith) ∙ p.rest i q;
    }
