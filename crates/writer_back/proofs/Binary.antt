-- The side bits written are 0 or 1, and bytes that have them one after the other carry them. Assumes nothing.
use mathlib.Core.Path.{◌≡◌, sym, ap, ◌∙◌}
use mathlib.Core.List.{List, [], ◌∷◌, ◌++◌}
use Prim.Native.Nat.{ℕ, zero, suc, ◌+◌, ◌*◌, ◌/◌, ◌%◌, ◌^◌, ◌<◌}
use native.Mathlib.Nat.{add-zero, mod-lt}
use native.Mathlib.Omega.{arith}
use lib.ListN.{length, get_or}
use lib.IntN.{ℤ, pos, negsuc, nat_abs}
use Rattle.laws.specs.Tab.{Below}
use Rattle.laws.proofs.Tab.{below-append}
use Rattle.frame_bits.specs.Bits.{bit_of}
use Rattle.frame_bits.specs.Fields.{FieldList, ends, field, value_bits, list_bits}
use Rattle.frame_settings.specs.declared.Setting.{Setting}
use Rattle.frame_side.specs.Side.{side_fields}
use Rattle.writer_laws.specs.SideBits.{side_values}
use Rattle.writer_laws.specs.Pair.{level_of, walk_bits, sign_bits, pair_bits}
use Rattle.writer_laws.specs.Pairs.{line_at, pairs_bits}
use Rattle.writer_laws.specs.Writing.{Given, bits_before}
use Rattle.writer_back.proofs.PairsBack.{Carries}

below_none : Below 2 []
below_none i = omega arith

below_more : (b : ℕ) (l : List ℕ) → b < 2 → Below 2 l → Below 2 (b ∷ l)
below_more b l h r zero = h
below_more b l h r (suc i) = r i

below-value : (x n : ℕ) → Below 2 (value_bits x n)
unfolding value_bits
below-value x zero = below_none
below-value x (suc n) = below_more (x % 2) (value_bits (x / 2) n) (mod-lt x (omega arith)) (below-value (x / 2) n)

pub below-list : {A : Type 0} (l : FieldList A) (xs : List ℕ) → Below 2 (list_bits l xs)
unfolding list_bits
below-list (ends a) xs = below_none
below-list (field w rule rest) [] = below_none
below-list (field w rule rest) (x ∷ xs) = below-append 2 (value_bits x w) (list_bits (rest x) xs) (below-value x w) (below-list (rest x) xs)

below-walk : (x y m level : ℕ) → Below 2 (walk_bits x y m level)
unfolding walk_bits
below-walk x y zero level = below_none
below-walk x y (suc m) level =
    let a : ℕ = x / 2 ^ level in
    let b : ℕ = y / 2 ^ level in
    below_more (a % 2) (b % 2 ∷ walk_bits x y m (suc level)) (mod-lt a (omega arith))
    (below_more (b % 2) (walk_bits x y m (suc level)) (mod-lt b (omega arith)) (below-walk x y m (suc level)))

below-sign : (u : ℤ) → Below 2 (sign_bits u)
below-sign (pos zero) = below_none
below-sign (pos (suc n)) = below_more 0 [] (omega arith) below_none
below-sign (negsuc n) = below_more 1 [] (omega arith) below_none

below-pair : (u v : ℤ) → Below 2 (pair_bits u v)
unfolding pair_bits
below-pair u v =
    let x : ℕ = nat_abs u in
    let y : ℕ = nat_abs v in
    below-append 2 (walk_bits x y (level_of x y) 0) (sign_bits u ++ sign_bits v) (below-walk x y (level_of x y) 0)
    (below-append 2 (sign_bits u) (sign_bits v) (below-sign u) (below-sign v))

pub below-pairs : (xs : List ℤ) (n k : ℕ) → Below 2 (pairs_bits xs n k)
unfolding pairs_bits
below-pairs xs zero k = below_none
below-pairs xs (suc n) k =
    below-append 2 (pair_bits (line_at xs (2 * k)) (line_at xs (2 * k + 1))) (pairs_bits xs n (suc k))
    (below-pair (line_at xs (2 * k)) (line_at xs (2 * k + 1))) (below-pairs xs n (suc k))

pub below-before : (r : Setting) (g : Given) → Below 2 (bits_before r g)
unfolding bits_before
below-before r g =
    let v = g.fields.side in
    let n : ℕ = v.head.last_line / 2 in
    below-append 2 (list_bits (side_fields r) (side_values v)) (pairs_bits g.lines n 0) (below-list (side_fields r) (side_values v))
    (below-pairs g.lines n 0)

-- bytes whose bits from p on are the list's
pub carries-of : (s : List ℕ) (p : ℕ) (l : List ℕ) → ((i : ℕ) → i < length l → bit_of s (p + i) ≡ get_or l i 0) → Carries s p l
carries-of s p [] h = tt
carries-of s p (b ∷ l) h =
    let z : p + 0 ≡ p = add-zero p in
    (ap (λ (k : ℕ). bit_of s k) (sym z) ∙ h 0 (omega arith), carries-of s (p + 1) l (λ i u. next i (omega arith)))
  where
    next : (i : ℕ) → suc i < length (b ∷ l) → bit_of s (p + 1 + i) ≡ get_or l i 0
    next i u = let e : p + 1 + i ≡ p + suc i = omega arith in ap (λ (k : ℕ). bit_of s k) e ∙ h (suc i) u
