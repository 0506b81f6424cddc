-- The remainder by x^k p is x^k times the remainder by p, so a hash is found by a polynomial of k degrees more. Over p, n and k.
-- Assumes nothing.
use mathlib.Core.Path.{◌≡◌, sym, ap, ap₂, ◌∙◌}
use mathlib.Core.List.{List, [], ◌∷◌}
use Prim.Native.Nat.{ℕ, ◌+◌, ◌*◌, ◌/◌, ◌^◌}
use native.Mathlib.Nat.{zero-mul, mul_assoc, mul-div_cancel, mul-div-mul_right}
use lib.Pow.{pow_pos, pow-add}
use Rattle.gf16.specs.Field.{sum}
use Rattle.slot_laws.specs.Hash.{pushed, hash}
use Rattle.slot_laws.proofs.Hash.{sum-scale}
use Rattle.slot_hashing.proofs.HashTable.{higher}

pushed-raised : (p n k b r : ℕ) → pushed (p * 2 ^ k) (n + k) b (r * 2 ^ k) ≡ pushed p n b r * 2 ^ k
unfolding pushed
pushed-raised p n k b r =
    let v : ℕ = sum (2 * r) (b * 2 ^ n) in
    let u : sum (2 * (r * 2 ^ k)) (b * 2 ^ (n + k)) ≡ v * 2 ^ k =
    ap₂ sum (sym (mul_assoc 2 r (2 ^ k))) (higher b n k) ∙ sum-scale (2 * r) (b * 2 ^ n) k in
    let q : v * 2 ^ k / 2 ^ (n + k) ≡ v / 2 ^ n = ap (λ (x : ℕ). v * 2 ^ k / x) (pow-add 2 n k) ∙ mul-div-mul_right v (2 ^ n) (pow_pos k) in
    ap (λ (x : ℕ). sum x (x / 2 ^ (n + k) * (p * 2 ^ k))) u
    ∙ ap (λ (x : ℕ). sum (v * 2 ^ k) (x * (p * 2 ^ k))) q
    ∙ ap (sum (v * 2 ^ k)) (sym (mul_assoc (v / 2 ^ n) p (2 ^ k)))
    ∙ sum-scale v (v / 2 ^ n * p) k

hash-raised : (p n k : ℕ) (bs : List ℕ) → hash (p * 2 ^ k) (n + k) bs ≡ hash p n bs * 2 ^ k
unfolding hash
hash-raised p n k [] = sym (zero-mul (2 ^ k))
hash-raised p n k (b ∷ bs) = ap (pushed (p * 2 ^ k) (n + k) b) (hash-raised p n k bs) ∙ pushed-raised p n k b (hash p n bs)

pub hash-lowered : (p n k : ℕ) (bs : List ℕ) → hash (p * 2 ^ k) (n + k) bs / 2 ^ k ≡ hash p n bs
hash-lowered p n k bs = ap (λ (x : ℕ). x / 2 ^ k) (hash-raised p n k bs) ∙ mul-div_cancel (hash p n bs) (pow_pos k)
