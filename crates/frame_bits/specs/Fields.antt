-- A list of fields of the side stream (5.4.2.3): each has a width and a rule for its value, and both may depend on the values before it.
-- Reading and writing are folds over the list, and so is the test whether values can be written. Assumes nothing.
use Rattle.std.specs.Prelude.{Bool, true, false, cond, ◌&&◌, List, [], ◌∷◌, ◌++◌, ℕ, zero, suc, ◌/◌, ◌%◌, ◌^◌, ltb, leb}
use Rattle.frame_bits.specs.Read.{Read, value, cause, and_then}
use Rattle.frame_bits.specs.Bits.{read_bits}

-- every value of the width; or only those below an end, and any other is the cause of a bit error
pub data Rule : Type 0 where
  any : Rule
  below : ℕ → ℕ → Rule

-- what the values make at the end; or a field's width and rule, and the fields that follow its value
pub data FieldList (A : Type 0) : Type 0 where
  ends : A → FieldList A
  field : ℕ → Rule → (ℕ → FieldList A) → FieldList A

-- one list, and the one that follows what it made
abbrev pub followed : {A B : Type 0} → FieldList A → (A → FieldList B) → FieldList B
followed (ends a) k = k a
followed (field w rule rest) k = field w rule (λ x. followed (rest x) k)

abbrev pub ruled : {C A : Type 0} → Rule → ℕ → Read C A → Read C A
ruled any x k = k
ruled (below end why) x k = cond (leb end x) (cause why) k

-- read: field after field from p on
unfoldable pub read_list : {A : Type 0} → List ℕ → ℕ → FieldList A → Read ℕ A
read_list s p (ends a) = value a p
read_list s p (field w rule rest) = and_then (read_bits s p w) (λ x q. ruled rule x (read_list s q (rest x)))

-- the n lowest bits of a value, lowest first
unfoldable pub value_bits : ℕ → ℕ → List ℕ
value_bits x zero = []
value_bits x (suc n) = x % 2 ∷ value_bits (x / 2) n

-- written: the bits of the values, field after field
unfoldable pub list_bits : {A : Type 0} → FieldList A → List ℕ → List ℕ
list_bits (ends a) xs = []
list_bits (field w rule rest) [] = []
list_bits (field w rule rest) (x ∷ xs) = value_bits x w ++ list_bits (rest x) xs

abbrev pub obeys : Rule → ℕ → Bool
obeys any x = true
obeys (below end why) x = ltb x end

-- the values can be written: each within its width and rule; a field of no bits is 0
unfoldable pub list_fits : {A : Type 0} → FieldList A → List ℕ → Bool
list_fits (ends a) xs = true
list_fits (field w rule rest) [] = false
list_fits (field w rule rest) (x ∷ xs) = ltb x (2 ^ w) && (obeys rule x && list_fits (rest x) xs)
