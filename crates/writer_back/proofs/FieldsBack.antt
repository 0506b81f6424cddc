-- The fields read back: a field, a list of fields, and the side information, from side bits that are those of the values. Assumes nothing.
use mathlib.Core.Path.{◌≡◌, refl, sym, ap, ◌∙◌}
use mathlib.Core.Bool.{true, ◌&&◌, false≢true}
use mathlib.Core.List.{List, [], ◌∷◌, ◌++◌}
use Prim.Native.Nat.{ℕ, zero, suc, ◌+◌, ◌*◌, ◌/◌, ◌%◌, ◌^◌, ◌≤◌, ◌<◌}
use native.Mathlib.Nat.{add-zero, zero-add, mod-eq_of_lt, div-one}
use native.Mathlib.Omega.{arith}
use lib.Dec.{ltb}
use lib.ListN.{length, length-append}
use borrow.Author.Tests.{le-leb, lt-leb, ltb-true}
use Rattle.frame_bits.specs.Read.{Read, value}
use Rattle.frame_bits.specs.Bits.{bit_of, bits_of, read_bits}
use Rattle.frame_bits.specs.Fields.{FieldList, ends, field, Rule, any, below, ruled, obeys, read_list, value_bits, list_bits, list_fits}
use Rattle.frame_settings.specs.declared.Setting.{Setting}
use Rattle.frame_side.specs.Side.{last_pair, side_fields, side_of}
use Rattle.frame_side.specs.declared.Side.{Side}
use Rattle.writer_laws.specs.SideBits.{side_values}
use Rattle.writer_laws.specs.Fits.{side_fits}
use Rattle.writer_laws.proofs.Given.{both_hold, length-value, last_fits}
use Rattle.writer_laws.proofs.Levels.{half-more}
use Rattle.writer_back.proofs.PairsBack.{Carries, carries-append, low-more}

-- bit i of a field
pub field-bit : (s : List ℕ) (p x n i : ℕ) → Carries s p (value_bits x n) → i < n → bit_of s (p + i) ≡ x / 2 ^ i % 2
unfolding value_bits
field-bit s p x zero i c h = absurd (omega arith)
field-bit s p x (suc n) zero c h = rw (add-zero, div-one) c.0
field-bit s p x (suc n) (suc i) c h =
    let r = field-bit s (p + 1) (x / 2) n i c.1 (omega arith) in
    let e : p + 1 + i ≡ p + suc i = omega arith in
    ap (λ (k : ℕ). bit_of s k) (sym e) ∙ (r ∙ ap (λ (k : ℕ). k % 2) (half-more x i))

-- its first k bits
pub bits_are : (s : List ℕ) (p x n k : ℕ) → Carries s p (value_bits x n) → k ≤ n → bits_of s p k ≡ x % 2 ^ k
unfolding bits_of
bits_are s p x n zero c h = omega arith
bits_are s p x n (suc k) c h =
    let r = bits_are s p x n k c (omega arith) in
    let b = field-bit s p x n k c (omega arith) in
    rw (r, b) (low-more x k)

pub field_back :
    (s : List ℕ) (p x n : ℕ) → Carries s p (value_bits x n) → x < 2 ^ n → p + n ≤ 8 * length s → read_bits s p n ≡ value x (p + n)
unfolding read_bits
field_back s p x n c h k =
    let e : bits_of s p n ≡ x = bits_are s p x n n c (omega arith) ∙ mod-eq_of_lt h in
    rw (le-leb (p + n) (8 * length s) k, e)

-- what a list ends with for such values; `none` where they are too few
abbrev pub made_by : {A : Type 0} → FieldList A → List ℕ → A → A
made_by (ends a) xs none = a
made_by (field w rule rest) [] none = none
made_by (field w rule rest) (x ∷ xs) none = made_by (rest x) xs none

rule-back : {C A : Type 0} (rule : Rule) (x : ℕ) (k : Read C A) → obeys rule x ≡ true → ruled rule x k ≡ k
rule-back any x k e = refl
rule-back (below end why) x k e = rw (lt-leb end x (ltb-true x end e))

-- a list of fields that can be written reads as what it ends with
pub list_back :
    {A : Type 0} (s : List ℕ) (p : ℕ) (l : FieldList A) (xs : List ℕ) (none : A) → list_fits l xs ≡ true → Carries s p (list_bits l xs)
    → p + length (list_bits l xs) ≤ 8 * length s → read_list s p l ≡ value (made_by l xs none) (p + length (list_bits l xs))
unfolding read_list list_bits list_fits
list_back s p (ends a) xs none f c h = rw add-zero
list_back s p (field w rule rest) [] none f c h = absurd (false≢true f)
list_back s p (field w rule rest) (x ∷ xs) none f c h =
    let f1 = both_hold (ltb x (2 ^ w)) (obeys rule x && list_fits (rest x) xs) f in
    let f2 = both_hold (obeys rule x) (list_fits (rest x) xs) f1.1 in
    let lt : x < 2 ^ w = ltb-true x (2 ^ w) f1.0 in
    let long = length-append (value_bits x w) (list_bits (rest x) xs) in
    let wide = length-value x w in
    let c1 = carries-append s p (value_bits x w) (list_bits (rest x) xs) c in
    let c2 = rw wide at c1.1 in
    let r = list_back s (p + w) (rest x) xs none f2.1 c2 (omega arith) in
    let e : p + w + length (list_bits (rest x) xs) ≡ p + length (value_bits x w ++ list_bits (rest x) xs) = omega arith in
    rw (field_back s p x w c1.0 lt (omega arith)) (rule-back rule x _ f2.0 ∙ (r ∙ ap (value (made_by (rest x) xs none)) e))

-- the side information that can be written reads back
pub side-back :
    (s : List ℕ) (r : Setting) (v : Side) → side_fits r v ≡ true → Carries s 0 (list_bits (side_fields r) (side_values v))
    → length (list_bits (side_fields r) (side_values v)) ≤ 8 * length s
    → side_of s r ≡ value v (length (list_bits (side_fields r) (side_values v)))
unfolding side_of
side-back s r v f c h =
    let fit = both_hold (list_fits (side_fields r) (side_values v)) _ f in
    let last = v.head.last_line in
    let even = (last_fits r v f).even in
    let n = length (list_bits (side_fields r) (side_values v)) in
    let z : 0 + n ≡ n = zero-add n in
    let e = list_back s 0 (side_fields r) (side_values v) v fit.0 c (rw z h) in
    let with-last : ℕ → Side = λ l. record {
      head = record { bandwidth = v.head.bandwidth; last_line = l; lsb_mode = v.head.lsb_mode; gain = v.head.gain };
      flags = v.flags;
      shape = v.shape;
      tail = v.tail;
    } in
    let d : value (with-last (2 * (last_pair last + 1))) (0 + n) ≡ value (with-last last) n =
    ap (λ (l : ℕ). value (with-last l) (0 + n)) (sym even) ∙ ap (λ (m : ℕ). value (with-last last) m) z in
    e ∙ d
