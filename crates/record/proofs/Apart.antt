-- No bytes are records of both forms (document 02 §2): the order in which a reader tries them decides nothing. Assumes nothing.
use mathlib.Core.Path.{◌≡◌, refl, sym, ap, ◌∙◌}
use mathlib.Core.Bool.{true, cond}
use mathlib.Core.Option.{Option, none, some}
use mathlib.Core.List.{List, [], ◌∷◌, ◌++◌, append_assoc}
use Prim.Native.Nat.{ℕ, ◌+◌, ◌*◌, ◌/◌, ◌%◌, ◌≤◌, ◌<◌}
use native.Mathlib.Omega.{arith}
use lib.ListN.{length, get_or, take, length-append}
use lib.Seq.{get_or_at}
use Rattle.record_forms.specs.declared.Form.TheVariants as form
use Rattle.record_bytes.specs.Layout.{RecordEntry, big, entries_bytes, end_bytes, record_bytes, IsRecord}
use Rattle.record_bytes.specs.Reading.{number, read_record}
use Rattle.record_bytes.specs.Answers.{refused}
use Rattle.record.specs.Answers.{may_add, add_of, add_answer}
use Rattle.record_bytes.proofs.Numbers.{Bytes, length-big, number-big}
use Rattle.record_bytes.proofs.Inverse.{length-record, count_most, entries-bounds, end_read, is_read}

-- the four bytes of a small number, the first of them apart
first-apart : (n : ℕ) → big 4 n ≡ (n / 256 / 256 / 256 % 256 ∷ []) ++ big 3 n
unfolding big
first-apart n = refl

-- form 2's mark is the byte 2
mark-byte : big 1 2 ≡ 2 ∷ []
unfolding big
mark-byte = refl

number-four : (s : List ℕ) (at : ℕ) → number s at 4 ≡ number s at 3 * 256 + get_or s (at + 3) 0
unfolding number
number-four s at = refl

-- what form 1 reads as the number of entries where form 2 has n of them
end-of-two : (b : List ℕ) (n : ℕ) → n < 16777216 → number (b ++ end_bytes form.Two n) (length b + 1) 4 ≡ n * 256 + 2
unfolding end_bytes
end-of-two b n h =
    let x : ℕ = n / 256 / 256 / 256 % 256 in
    let p : List ℕ = b ++ (x ∷ []) in
    let s : List ℕ = p ++ (big 3 n ++ (2 ∷ [])) in
    let l : length p ≡ length b + 1 = length-append b (x ∷ []) in
    let z : b ++ (big 4 n ++ big 1 2) ≡ s = ap (λ (t : List ℕ). b ++ (big 4 n ++ t)) mark-byte
    ∙ ap (λ (t : List ℕ). b ++ (t ++ (2 ∷ []))) (first-apart n)
    ∙ ap (λ (t : List ℕ). b ++ t) (append_assoc (x ∷ []) (big 3 n) (2 ∷ [])) ∙ sym (append_assoc b (x ∷ []) (big 3 n ++ (2 ∷ []))) in
    let t : number s (length p) 3 ≡ n = number-big 3 n p (2 ∷ []) (omega arith) in
    let k : length (p ++ big 3 n) ≡ length p + 3 = length-append p (big 3 n) ∙ ap (λ (i : ℕ). length p + i) (length-big 3 n) in
    let g : get_or s (length p + 3) 0 ≡ 2 = ap (λ (y : List ℕ). get_or y (length p + 3) 0) (sym (append_assoc p (big 3 n) (2 ∷ [])))
    ∙ get_or_at (p ++ big 3 n) 2 [] 0 (length p + 3) k in
    ap (λ (y : List ℕ). number y (length b + 1) 4) z ∙ ap (λ (i : ℕ). number s i 4) (sym l) ∙ number-four s (length p)
    ∙ ap (λ (i : ℕ). i * 256 + get_or s (length p + 3) 0) t ∙ ap (λ (i : ℕ). n * 256 + i) g

pub apart : (s : List ℕ) (one two : List RecordEntry) → IsRecord form.One s one → IsRecord form.Two s two → ⊥
unfolding record_bytes
apart s one two i j =
    let n : ℕ = length two in
    let m : ℕ = length one in
    let lo : length s ≡ length (entries_bytes form.One one) + 4 = ap length i.bytes ∙ length-record form.One one in
    let lt : length s ≡ length (entries_bytes form.Two two) + 5 = ap length j.bytes ∙ length-record form.Two two in
    let co : m ≤ length (entries_bytes form.One one) = count_most form.One one in
    let ct : n ≤ length (entries_bytes form.Two two) = count_most form.Two two in
    let bo = (entries-bounds form.One one i.ranges).0 in
    let bt = (entries-bounds form.Two two j.ranges).1 in
    let small = i.size in
    let at : length (entries_bytes form.One one) ≡ length (entries_bytes form.Two two) + 1 = omega arith in
    let reads-one : number s (length (entries_bytes form.One one)) 4 ≡ m =
    ap (λ (x : List ℕ). number x (length (entries_bytes form.One one)) 4) i.bytes
    ∙ (end_read form.One (entries_bytes form.One one) m (omega arith)).0 in
    let reads_two : number s (length (entries_bytes form.One one)) 4 ≡ n * 256 + 2 = ap (λ (k : ℕ). number s k 4) at
    ∙ ap (λ (x : List ℕ). number x (length (entries_bytes form.Two two) + 1) 4) j.bytes
    ∙ end-of-two (entries_bytes form.Two two) n (omega arith) in
    let same : m ≡ n * 256 + 2 = sym reads-one ∙ reads_two in
    omega (arith, bo, bt)

-- "adding to an old record is 7"
pub one-takes-none : (d : List ℕ) (used : ℕ) (e : RecordEntry) (size : ℕ) (es : List RecordEntry) → Bytes (take used d)
    → may_add d used e size ≡ true → IsRecord form.One (take used d) es → add_answer form.Two d used e size ≡ refused 7
unfolding add_answer
one-takes-none d used e size es b m i = go (read_record form.Two (take used d)) refl
  where
    go : (o : Option (List RecordEntry)) → read_record form.Two (take used d) ≡ o
        → cond (may_add d used e size) (add_of form.Two (read_record form.Two (take used d)) d used e) (refused 1) ≡ refused 7
    go none q = simp (m, q)
    go (some two) q = absurd (apart (take used d) es two i (is_read form.Two (take used d) two b q).is)
