-- The listing of a record of either form (document 01, "The program reads a record on standard input"), in ASCII. Assumes nothing.
use Rattle.std.specs.Prelude.{cond, List, [], ◌∷◌, ◌++◌, ℕ, zero, suc, ◌+◌, ◌-◌, ◌/◌, ◌%◌, length, take, leb, eqb, Some, None}
use Rattle.std.specs.Prelude as std
use Rattle.std.proofs.Math.Option.{Option, none, some}
use Rattle.record_forms.specs.declared.Form.{Form}
use Rattle.record_forms.specs.declared.Form.TheVariants as form
use Rattle.record_bytes.specs.Layout.{RecordEntry, most}
use Rattle.record_bytes.specs.Reading.{read_record}
use Rattle.record_bytes.specs.Answers.{Answer, accepted, refused}
use Rattle.record_listing.specs.declared.Known.{Known}

-- the decimal digits of n, at most k of them, and none for 0
unfoldable pub leading : ℕ → ℕ → List ℕ
leading zero n = []
leading (suc k) n = cond (eqb n 0) [] (leading k (n / 10) ++ ((48 + n % 10) ∷ []))

-- n in decimal
unfoldable pub decimal : ℕ → List ℕ
decimal n = leading (n / 10) (n / 10) ++ ((48 + n % 10) ∷ [])

-- n in decimal, and what stands after it
unfoldable pub field : ℕ → ℕ → List ℕ
field n after = decimal n ++ (after ∷ [])

abbrev pub space : ℕ
space = 32

abbrev pub newline : ℕ
newline = 10

-- "place, length, request, count"
unfoldable pub line : ℕ → ℕ → ℕ → ℕ → List ℕ
line place size request count = field place space ++ (field size space ++ (field request space ++ field count newline))

-- "oldest first", from `place` on
unfoldable pub lines : ℕ → List RecordEntry → List ℕ
lines place [] = []
lines place (e ∷ es) = line place (length e.frame) e.request e.count ++ lines (suc place) es

-- `records `, which stands in front of the number of entries
abbrev pub records : List ℕ
records = 114 ∷ 101 ∷ 99 ∷ 111 ∷ 114 ∷ 100 ∷ 115 ∷ 32 ∷ []

-- `damaged`, with its newline
abbrev pub damaged : List ℕ
damaged = 100 ∷ 97 ∷ 109 ∷ 97 ∷ 103 ∷ 101 ∷ 100 ∷ 10 ∷ []

-- `too long`, with its newline
abbrev pub too_long : List ℕ
too_long = 116 ∷ 111 ∷ 111 ∷ 32 ∷ 108 ∷ 111 ∷ 110 ∷ 103 ∷ 10 ∷ []

-- the first that was read
abbrev pub either : Option (List RecordEntry) → Option (List RecordEntry) → Option (List RecordEntry)
either none o = o
either (some es) o = some es

-- the lines of what was read
abbrev pub lines_of : Option (List RecordEntry) → List ℕ
lines_of none = []
lines_of (some es) = lines 0 es

-- the lines of the record of a form in these bytes
abbrev pub lines_in : Form → List ℕ → List ℕ
lines_in f s = lines_of (read_record f s)

-- a record of a form, of so many entries
abbrev pub known : Form → ℕ → std.Option Known
known f n = Some (record { form = f; entries = n })

-- what the bytes are, from what both forms read
abbrev pub known_from : Option (List RecordEntry) → Option (List RecordEntry) → std.Option Known
known_from (some es) one = known form.Two (length es)
known_from none (some es) = known form.One (length es)
known_from none none = None

unfoldable pub known_in : List ℕ → std.Option Known
known_in s = known_from (read_record form.Two s) (read_record form.One s)

-- "as form 2 if it is one, else as form 1"
abbrev pub read_either : List ℕ → Option (List RecordEntry)
read_either s = either (read_record form.Two s) (read_record form.One s)

abbrev pub listing_of : Option (List RecordEntry) → List ℕ
listing_of none = damaged
listing_of (some es) = records ++ (field (length es) newline ++ lines 0 es)

-- "above 65,536 bytes `too long`"
unfoldable pub listing : List ℕ → List ℕ
listing s = cond (leb (length s) most) (listing_of (read_either s)) too_long

-- where the listing starts in a buffer of at least 65,536 bytes, at the end of which it is put; 6 in a shorter one
abbrev pub listed_answer : std.Option ℕ → Answer
listed_answer (Some n) = accepted n
listed_answer None = refused 6

unfoldable pub list_answer : List ℕ → List ℕ → Answer
list_answer s out = cond (leb most (length out)) (accepted (length out - length (listing s))) (refused 6)

unfoldable pub list_buffer : List ℕ → List ℕ → List ℕ
list_buffer s out = cond (leb most (length out)) (take (length out - length (listing s)) out ++ listing s) out
