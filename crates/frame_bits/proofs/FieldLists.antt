-- A list of fields that follows another is read behind it. Assumes nothing.
use mathlib.Core.Path.{◌≡◌, refl, ◌∙◌}
use mathlib.Core.Bool.{Bool, true, false, cond}
use mathlib.Core.List.{List}
use Prim.Native.Nat.{ℕ}
use lib.Dec.{leb}
use Rattle.frame_bits.specs.Read.{Read, value, cause, and_then}
use Rattle.frame_bits.specs.Bits.{read_bits}
use Rattle.frame_bits.specs.Fields.{Rule, any, below, FieldList, ends, field, followed, ruled, read_list}

ruled-then : {A B C D : Type 0} (rule : Rule) (x : ℕ) (k : Read C A) (f : A → C → Read D B)
    → ruled rule x (and_then k f) ≡ and_then (ruled rule x k) f
ruled-then any x k f = refl
ruled-then (below end why) x k f = go (leb end x)
  where
    go : (b : Bool) → cond b (cause why) (and_then k f) ≡ and_then (cond b (cause why) k) f
    go true = refl
    go false = refl

list-followed : {A B : Type 0} (s : List ℕ) (p : ℕ) (l : FieldList A) (k : A → FieldList B)
    → read_list s p (followed l k) ≡ and_then (read_list s p l) (λ a q. read_list s q (k a))
unfolding read_list
list-followed s p (ends a) k = refl
list-followed s p (field w rule rest) k = go (read_bits s p w) (λ x q. list-followed s q (rest x) k)
  where
    go : (r : Read ℕ ℕ)
        → ((x q : ℕ) → read_list s q (followed (rest x) k) ≡ and_then (read_list s q (rest x)) (λ a q. read_list s q (k a)))
        → and_then r (λ x q. ruled rule x (read_list s q (followed (rest x) k)))
        ≡ and_then (and_then r (λ x q. ruled rule x (read_list s q (rest x)))) (λ a q. read_list s q (k a))
    go (value x q) h = rw (h x q) (ruled-then rule x _ _)
    go (cause n) h = refl

-- behind what the first list made; or the first list stops
pub list-behind : {A B : Type 0} (s : List ℕ) (p : ℕ) (l : FieldList A) (k : A → FieldList B) (a : A) (q : ℕ) → read_list s p l ≡ value a q
    → read_list s p (followed l k) ≡ read_list s q (k a)
list-behind s p l k a q e = list-followed s p l k ∙ rw e refl

pub list-stops : {A B : Type 0} (s : List ℕ) (p : ℕ) (l : FieldList A) (k : A → FieldList B) (n : ℕ) → read_list s p l ≡ cause n
    → read_list s p (followed l k) ≡ cause n
list-stops s p l k n e = list-followed s p l k ∙ rw e refl
