-- The check semi-octets as a sum of what each data semi-octet adds to them, from a table for each mode. A number
-- holds the d - 1 check semi-octets as digits to the base 16, the highest power in the lowest digit. proofs/Checks.antt shows that the
-- digits of the sum over the data, in front of them, are the code word.
-- Assumes nothing.
use Rattle.std.specs.Prelude.{cond, ◌≡◌, List, [], ◌∷◌, ℕ, zero, suc, ◌+◌, ◌-◌, ◌*◌, ◌/◌, ◌%◌, ◌≤◌, ltb, get_or, take, replicate}
use Rattle.std.specs.Int.Bits.{bit_xor}
use Rattle.laws.specs.Tab.{tab}
use Rattle.code_word_laws.specs.Word.{distance}
use Rattle.code_word_laws.specs.Make.{coded}
use Rattle.code_word_laws.specs.Register.{gathered}

-- the data with c at place k, and 0 before it
unfoldable pub alone : ℕ → ℕ → List ℕ
alone zero c = c ∷ []
alone (suc k) c = 0 ∷ alone k c

-- the n check semi-octets of the code word over the data, packed
unfoldable pub check_of : ℕ → List ℕ → ℕ
check_of n message = gathered 0 (take n (coded (suc n) message))

-- entry 16 k + c: the n check semi-octets over c alone at data place k, for the 13 places that a word can have
unfoldable pub check_rows : ℕ → List ℕ
check_rows n = tab (λ i. check_of n (alone (i / 16) (i % 16))) 208

-- the table of a mode; one of zeros, with which no data add anything, where the mode is none of 2, 3 and 4
pub record IsCheckRows (mode : ℕ) (rows : List ℕ) : Type 0 where
  pub inside : 2 ≤ mode → mode ≤ 4 → rows ≡ check_rows (distance mode - 1)
  pub outside : (2 ≤ mode → mode ≤ 4 → ⊥) → rows ≡ replicate 208 0

-- the sum r with what the low four bits of c at data place k add; a place that no word has adds nothing
unfoldable pub with_data : List ℕ → ℕ → ℕ → ℕ → ℕ
with_data rows k c r = cond (ltb k 13) (bit_xor r (get_or rows (16 * k + c % 16) 0)) r

-- the sum over the first n data semi-octets f 0, f 1, ..
unfoldable pub summed : List ℕ → (ℕ → ℕ) → ℕ → ℕ
summed rows f zero = 0
summed rows f (suc n) = with_data rows n (f n) (summed rows f n)
