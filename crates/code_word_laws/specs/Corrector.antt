-- What the private steps of correcting a word promise each other; no public promise rests on these names. The steps go from the word's
-- values at 2^0 .. 2^14, among them its syndromes, to the error locator, by which the sums of its errors go on, and back from the sums to
-- the errors.
-- Assumes nothing.
use Rattle.std.specs.Prelude.{◌≡◌, ◌≢◌, List, [], ◌∷◌, ℕ, zero, suc, ◌+◌, ◌-◌, ◌*◌, ◌/◌, ◌%◌, ◌^◌, ◌≤◌, ◌<◌, eqb, length, get_or}
use Rattle.gf16.specs.Field.{sum, product, power}
use Rattle.code_word_laws.specs.Polynomial.{value}
use Rattle.code_word_laws.specs.Word.{SemiOctets, Roots, unequal, semi_octet_changed, bits_changed, ones, apart, bits_apart}
use Rattle.code_word_laws.specs.Correct.{WordCorrected, length_at}
use Rattle.code_word_laws.specs.Packed.{nibble}

-- both counts of a semi-octet in one number: its bits 16 times
abbrev pub both_changed : ℕ → ℕ → ℕ
both_changed x y = semi_octet_changed x y + 16 * bits_changed x y

-- those of an error of this value
unfoldable pub both_of : ℕ → ℕ
both_of v = unequal (eqb v 0) + 16 * ones v

-- the table that the steps read: number 16 a + b has the digits b times 2^(a j) for j below 15, and a times b as digit 15, its highest;
-- the low half of number 240 + b has both counts of an error of value b
pub record Table (t : List ℕ) : Type 0 where
  pub spread : (a b j : ℕ) → a < 15 → b < 16 → j < 15 → nibble j (get_or t (16 * a + b) 0) ≡ product b (power (power 2 a) j)
  pub times : (a b : ℕ) → a < 16 → b < 16 → get_or t (16 * a + b) 0 / 2 ^ 60 ≡ product a b
  pub counts : (v : ℕ) → v < 16 → get_or t (240 + v) 0 % 4294967296 ≡ both_of v

-- the digits of r are x times 2^(a j)
abbrev pub Row : ℕ → ℕ → ℕ → Type 0
Row a x r = (j : ℕ) → j < 15 → nibble j r ≡ product x (power (power 2 a) j)

-- what the steps ask: 1 to 3 errors to look for
pub record Sought (most : ℕ) : Type 0 where
  pub most_from : 1 ≤ most
  pub most_to : most ≤ 3

-- .. in this word
pub record WordFor (word : List ℕ) (most : ℕ) : Type 0 where
  pub most_from : 1 ≤ most
  pub most_to : most ≤ 3
  pub short : length word ≤ 15
  pub semi_octets : SemiOctets word

-- the digits of s are the word's values at 2^j
abbrev pub Syndromes : List ℕ → ℕ → Type 0
Syndromes w s = (j : ℕ) → j < 15 → nibble j s ≡ value w (power 2 j)

-- the digits 1 .. n of s are 0
abbrev pub Clear : ℕ → ℕ → Type 0
Clear n s = (j : ℕ) → 0 < j → j ≤ n → nibble j s ≡ 0

-- the number of semi-octets that are not 0
abbrev pub weight : List ℕ → ℕ
weight [] = 0
weight (zero ∷ cs) = weight cs
weight (suc c ∷ cs) = suc (weight cs)

-- es are at most t errors, whose values at 2^1 .. 2^(2 t) are the digits of s
pub record Explains (t s : ℕ) (es : List ℕ) : Type 0 where
  pub short : length es ≤ 15
  pub semi_octets : SemiOctets es
  pub few : weight es ≤ t
  pub sums : (j : ℕ) → 0 < j → j ≤ t + t → value es (power 2 j) ≡ nibble j s

-- a 2 by 2 minor, and a 3 by 3 one along its last row
abbrev pub minor_two : ℕ → ℕ → ℕ → ℕ → ℕ
minor_two a b c d = sum (product a d) (product b c)

abbrev pub triple : ℕ → ℕ → ℕ → ℕ → ℕ → ℕ → ℕ
triple a x b y c z = sum (sum (product a x) (product b y)) (product c z)

-- the leading minor of three rows of the sums
abbrev pub minor : ℕ → ℕ → ℕ → ℕ → ℕ → ℕ
minor s1 s2 s3 s4 s5 = triple (minor_two s2 s3 s3 s4) s3 (minor_two s1 s3 s2 s4) s4 (minor_two s1 s2 s2 s3) s5

-- the leading minor of three rows is 0, where three errors are looked for
abbrev pub ThirdMinorZero : ℕ → ℕ → Type 0
ThirdMinorZero t s = 3 ≤ t → minor (nibble 1 s) (nibble 2 s) (nibble 3 s) (nibble 4 s) (nibble 5 s) ≡ 0

-- the leading minor of two rows is 0, where two errors are looked for
abbrev pub SecondMinorZero : ℕ → ℕ → Type 0
SecondMinorZero t s = 2 ≤ t → minor_two (nibble 1 s) (nibble 2 s) (nibble 2 s) (nibble 3 s) ≡ 0

pub record MinorsZero (t s : ℕ) : Type 0 where
  pub third : ThirdMinorZero t s
  pub second : SecondMinorZero t s

-- d is the leading minor of three rows, and not 0
pub record ThirdMinor (s d : ℕ) : Type 0 where
  pub below : d < 16
  pub not_zero : d ≢ 0
  pub is : d ≡ minor (nibble 1 s) (nibble 2 s) (nibble 3 s) (nibble 4 s) (nibble 5 s)

-- c is the leading minor of two rows, and not 0, and that of three is
pub record SecondMinor (t s c : ℕ) : Type 0 where
  pub most_from : 2 ≤ t
  pub most_to : t ≤ 3
  pub below : c < 16
  pub not_zero : c ≢ 0
  pub is : c ≡ minor_two (nibble 1 s) (nibble 2 s) (nibble 2 s) (nibble 3 s)
  pub third : ThirdMinorZero t s

-- each value from the three before it
abbrev pub Recurs : ℕ → ℕ → ℕ → (ℕ → ℕ) → Type 0
Recurs r1 r2 r3 s = (n : ℕ) → s (suc (suc (suc n))) ≡ sum (sum (product r2 (s (suc n))) (product r3 (s n))) (product r1 (s (suc (suc n))))

-- the values of any such errors go on by r1, r2, r3, and the third is u
abbrev pub Continues : ℕ → ℕ → ℕ → ℕ → ℕ → ℕ → Type 0
Continues t s r1 r2 r3 u = (es : List ℕ) → Explains t s es → Recurs r1 r2 r3 (λ n. value es (power 2 n)) × (value es (power 2 3) ≡ u)

-- the error locator: the same, of elements of the field
pub record IsLocator (t s r1 r2 r3 u : ℕ) : Type 0 where
  pub first : r1 < 16
  pub second : r2 < 16
  pub third : r3 < 16
  pub start : u < 16
  pub locator : Continues t s r1 r2 r3 u

-- a locator, and the first three values
pub record Started (r1 r2 r3 s1 s2 u : ℕ) : Type 0 where
  pub locator : SemiOctets (r1 ∷ r2 ∷ r3 ∷ [])
  pub first : s1 < 16
  pub second : s2 < 16
  pub third : u < 16

-- the sum over n = 1 .. m of s n times 2^((15 - n) k)
abbrev pub back : (ℕ → ℕ) → ℕ → ℕ → ℕ
back s k zero = 0
back s k (suc m) = sum (back s k m) (product (s (suc m)) (power (power 2 (15 - suc m)) k))

-- the digits of e are the transform back of any values that start with s1, s2, u and go on by the locator
abbrev pub Transformed : ℕ → ℕ → ℕ → ℕ → ℕ → ℕ → ℕ → Type 0
Transformed r1 r2 r3 s1 s2 u e =
    (s : ℕ → ℕ) → Recurs r1 r2 r3 s → s 1 ≡ s1 → s 2 ≡ s2 → s 3 ≡ u → (k : ℕ) → k < 15 → nibble k e ≡ back s k 15

-- the digits of e are any such errors
abbrev pub ErrorWord : ℕ → ℕ → ℕ → Type 0
ErrorWord t s e = (es : List ℕ) → Explains t s es → (k : ℕ) → k < 15 → nibble k e ≡ get_or es k 0

-- a word with n changes is valid and near enough
pub record Acceptable (t n : ℕ) (w : List ℕ) : Type 0 where
  pub few : n ≤ t
  pub roots : Roots (t + t + 1) w

-- long and over deal out so many semi-octets to n words of at most 15
pub record Dealt (many n long over : ℕ) : Type 0 where
  pub some : 1 ≤ n
  pub quotient : long ≡ many / n
  pub rest : over ≡ many % n
  pub short : (i : ℕ) → i < n → length_at many n i ≤ 15

-- a word with the errors in the digits of e taken off
abbrev pub taken_off : List ℕ → ℕ → List ℕ
taken_off [] e = []
taken_off (c ∷ cs) e = sum c (e % 16) ∷ taken_off cs (e / 16)

-- the errors in the digits of e are taken off, and both counts of them are in one number
pub record IsTakenOff (old : List ℕ) (e : ℕ) (new : List ℕ) (both : ℕ) : Type 0 where
  pub word_is : new ≡ taken_off old e
  pub counted : both % 16 ≡ apart old new
  pub bits_counted : both / 16 ≡ bits_apart old new
  pub few : both ≤ 975

-- a word is corrected by taking off one error of the value v, or it is as it was, with v 0
pub record Tried (mode : ℕ) (old new : List ℕ) (v : ℕ) : Type 0 where
  pub below : v < 16
  pub one : v ≢ 0 → WordCorrected mode old new 1 (ones v)
  pub kept : v ≡ 0 → new ≡ old
