-- Bytes put into a buffer. Assumes nothing.
use mathlib.Core.Path.{◌≡◌, refl, sym, ap, ◌∙◌}
use mathlib.Core.List.{List, [], ◌∷◌, ◌++◌, append_assoc}
use Prim.Native.Nat.{ℕ, ◌+◌, ◌≤◌, ◌<◌}
use native.Mathlib.Nat.{add-zero, add_assoc}
use native.Mathlib.Numerals.{add-one}
use native.Mathlib.Omega.{arith}
use lib.ListN.{length, take, drop, set, length-append, length-drop, take-append-drop}
use lib.Seq.{paste, set_split, take-take, take-append-le, take-length, take_at, drop_at, drop-drop, length-take-le}
use Rattle.record_bytes.specs.Steps.{put, Placed}

-- the whole of s copied
pub put_all : (d : List ℕ) (at : ℕ) (s : List ℕ) → paste d at s (length s) ≡ put d at s
unfolding put
put_all d at s = append_assoc (take at d) (take (length s) s) (drop (at + length s) d) ∙ rw take-length refl

pub length-put : (d : List ℕ) (at : ℕ) (s : List ℕ) → at + length s ≤ length d → length (put d at s) ≡ length d
unfolding put
length-put d at s h =
    let e : length (take at d) ≡ at = length-take-le at d (omega arith) in
    simp (length-append, length-drop, e) (omega arith)

-- t put behind s is both put as one
pub put-put : (d : List ℕ) (at : ℕ) (s t : List ℕ) → at + length s ≤ length d → put (put d at s) (at + length s) t ≡ put d at (s ++ t)
unfolding put
put-put d at s t h =
    let e : length (take at d) ≡ at = length-take-le at d (omega arith) in
    let m : length (take at d ++ s) ≡ at + length s = length-append (take at d) s ∙ ap (λ (n : ℕ). n + length s) e in
    let b : take at d ++ (s ++ drop (at + length s) d) ≡ (take at d ++ s) ++ drop (at + length s) d =
    sym (append_assoc (take at d) s (drop (at + length s) d)) in
    let tk : take (at + length s) (take at d ++ (s ++ drop (at + length s) d)) ≡ take at d ++ s =
    ap (take (at + length s)) b ∙ take_at (take at d ++ s) (drop (at + length s) d) (at + length s) m in
    let dr : drop (at + length s) (take at d ++ (s ++ drop (at + length s) d)) ≡ drop (at + length s) d =
    ap (drop (at + length s)) b ∙ drop_at (take at d ++ s) (drop (at + length s) d) (at + length s) m in
    let dd : drop (at + length s + length t) (take at d ++ (s ++ drop (at + length s) d)) ≡ drop (at + (length s + length t)) d =
    sym (drop-drop (length t) (at + length s) (take at d ++ (s ++ drop (at + length s) d)))
    ∙ ap (drop (length t)) dr ∙ drop-drop (length t) (at + length s) d ∙ ap (λ (n : ℕ). drop n d) (add_assoc at (length s) (length t)) in
    rw (tk, dd, length-append) (simp append_assoc)

-- no bytes put change nothing
pub put-none : (d : List ℕ) (at : ℕ) → d ≡ put d at []
unfolding put
put-none d at = sym (ap (λ (k : ℕ). take at d ++ drop k d) (add-zero at) ∙ take-append-drop at d)

-- a byte that is stored is put
pub set-put : (d : List ℕ) (at x : ℕ) → at < length d → set d at x ≡ put d at (x ∷ [])
unfolding put
set-put d at x h = set_split d at x h ∙ ap (λ (k : ℕ). take at d ++ (x ∷ drop k d)) (sym (add-one at))

-- y put in front of x is both put as one
pub put-before : (d : List ℕ) (q r : ℕ) (y x : List ℕ) → q + length y ≡ r → r + length x ≤ length d → put (put d r x) q y ≡ put d q (y ++ x)
unfolding put
put-before d q r y x h k =
    let rest : List ℕ = x ++ drop (r + length x) d in
    let l : length (take r d) ≡ r = length-take-le r d (omega arith) in
    let t : take q (take r d ++ rest) ≡ take q d = take-append-le q (take r d) rest (omega arith) ∙ take-take q r d (omega arith) in
    let p : drop (q + length y) (take r d ++ rest) ≡ rest = ap (λ (n : ℕ). drop n (take r d ++ rest)) h ∙ drop_at (take r d) rest r l in
    let e : r + length x ≡ q + length (y ++ x) = sym (ap (λ (n : ℕ). q + n) (length-append y x) ∙ (omega arith)) in
    ap (λ (a : List ℕ). a ++ (y ++ drop (q + length y) (take r d ++ rest))) t
    ∙ ap (λ (a : List ℕ). take q d ++ (y ++ a)) p
    ∙ ap (λ (n : ℕ). take q d ++ (y ++ (x ++ drop n d))) e
    ∙ ap (λ (a : List ℕ). take q d ++ a) (sym (append_assoc y x (drop (q + length (y ++ x)) d)))

pub placed-none : (d : List ℕ) (end : ℕ) → Placed d d end end []
placed-none d end = record { sized = add-zero end; placed = put-none d end }

pub placed-length : (d after : List ℕ) (r end : ℕ) (x : List ℕ) → end ≤ length d → Placed d after r end x → length after ≡ length d
placed-length d after r end x h p =
    let s = p.sized in
    ap length p.placed ∙ length-put d r x (omega arith)

pub placed-before : (d e f : List ℕ) (q r end : ℕ) (y x : List ℕ) → end ≤ length d → Placed d e r end x → Placed e f q r y
    → Placed d f q end (y ++ x)
placed-before d e f q r end y x h a b =
    let s = a.sized in
    let t = b.sized in
    record {
      sized = ap (λ (n : ℕ). q + n) (length-append y x) ∙ (omega arith);
      placed = b.placed ∙ ap (λ (l : List ℕ). put l q y) a.placed ∙ put-before d q r y x t (omega arith);
    }
