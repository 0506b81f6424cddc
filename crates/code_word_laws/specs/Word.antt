-- One code word (document 01, "Code words"): a list of semi-octets, semi-octet k at power k (A.43 to A.45).
-- Assumes nothing.
use Rattle.std.specs.Prelude.{◌≡◌, Bool, true, false, List, [], ◌∷◌, ℕ, ◌+◌, ◌-◌, ◌*◌, ◌/◌, ◌%◌, ◌≤◌, ◌<◌, eqb}
use Rattle.gf16.specs.Field.{sum, power}
use Rattle.code_word_laws.specs.Polynomial.{value, Divides, generator}

-- every element is a semi-octet
abbrev pub SemiOctets : List ℕ → Type 0
SemiOctets [] = Unit {0}
SemiOctets (c ∷ cs) = (c < 16) × SemiOctets cs

-- a word is valid for the distance d when the generating polynomial divides it
abbrev pub Valid : ℕ → List ℕ → Type 0
Valid d w = Divides (generator d) w

-- the same by the roots; proofs/Division.antt has `valid-roots` and `roots-valid`
abbrev pub Roots : ℕ → List ℕ → Type 0
Roots d w = (j : ℕ) → 0 < j → j < d → value w (power 2 j) ≡ 0

abbrev pub unequal : Bool → ℕ
unequal true = 0
unequal false = 1

-- a changed semi-octet: 1 where the two differ, else 0
abbrev pub semi_octet_changed : ℕ → ℕ → ℕ
semi_octet_changed x y = unequal (eqb x y)

-- the ones of a semi-octet
unfoldable pub ones : ℕ → ℕ
ones c = c % 2 + c / 2 % 2 + c / 4 % 2 + c / 8 % 2

-- its changed bits: the ones in the difference of the two (document 02 §1)
abbrev pub bits_changed : ℕ → ℕ → ℕ
bits_changed x y = ones (sum x y)

-- the changes between two words of one length, where f counts those of a semi-octet
abbrev pub changes_by : (ℕ → ℕ → ℕ) → List ℕ → List ℕ → ℕ
changes_by f [] ys = 0
changes_by f (x ∷ xs) [] = 0
changes_by f (x ∷ xs) (y ∷ ys) = f x y + changes_by f xs ys

-- the number of places in which they differ, and of bits
abbrev pub apart : List ℕ → List ℕ → ℕ
apart xs ys = changes_by semi_octet_changed xs ys

abbrev pub bits_apart : List ℕ → List ℕ → ℕ
bits_apart xs ys = changes_by bits_changed xs ys

-- the distance in mode m (A.10)
abbrev pub distance : ℕ → ℕ
distance mode = 2 * mode - 1

-- the same as a caller learns it, with its bounds
pub record IsDistance (mode d : ℕ) : Type 0 where
  pub is : d ≡ distance mode
  pub from : 3 ≤ d
  pub to : d ≤ 7

-- the settings and lengths that a word is taken with: mode 2, 3 or 4, at least the check semi-octets, and at most 15 in all
pub record Fits (mode long : ℕ) : Type 0 where
  pub mode_from : 2 ≤ mode
  pub mode_to : mode ≤ 4
  pub checks : distance mode - 1 ≤ long
  pub most : long ≤ 15
