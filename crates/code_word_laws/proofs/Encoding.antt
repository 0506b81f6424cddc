-- The turns of the encoder's loops and its answers, over plain lists and numbers. The proofs of `code_word_encoder` cite them.
-- Assumes nothing.
use mathlib.Core.Path.{◌≡◌, refl, sym, ap, ap₂, ◌∙◌, subst}
use mathlib.Core.List.{List, ◌∷◌}
use Prim.Native.Nat.{ℕ, zero, suc, ◌+◌, ◌-◌, ◌/◌, ◌%◌, ◌≤◌, ◌<◌}
use native.Mathlib.Omega.{arith}
use lib.ListN.{length, get_or, drop, set, length-drop, length-set}
use lib.Seq.{drop-cons, drop-length, get_or-drop, get_or-set_same, drop-set-lt}
use Rattle.code_word_laws.specs.Word.{SemiOctets, distance}
use Rattle.code_word_laws.specs.Make.{CodeWord, IsMade, NotMade}
use Rattle.code_word_laws.specs.Register.{feedback, fed, register, with_checks}
use Rattle.code_word_laws.proofs.Division.{semi-octet-at}
use Rattle.laws.proofs.Tab.{drop-back}
use Rattle.code_word_laws.proofs.Coded.{code-word-only}
use Rattle.code_word_laws.proofs.Register.{register-codes}

-- ---- the division

pub register-first : (rows w : List ℕ) → 0 ≡ register rows (drop (length w) w)
unfolding register
register-first rows w = sym (ap (λ (l : List ℕ). register rows l) (drop-length w))

pub register-next : (rows w : List ℕ) (i : ℕ) {r q : ℕ} → 0 < i → i ≤ length w → r ≡ register rows (drop i w)
    → q ≡ fed rows r (get_or w (i - 1) 0) → q ≡ register rows (drop (i - 1) w)
unfolding register
register-next rows w i p h e d =
    d ∙ ap (λ (v : ℕ). fed rows v (get_or w (i - 1) 0)) e ∙ sym (ap (λ (l : List ℕ). register rows l) (drop-back w i p h))

-- a semi-octet among the data
pub among : (w : List ℕ) (n i : ℕ) → n ≤ i → SemiOctets (drop n w) → get_or w i 0 < 16
among w n i h s =
    let e : n + (i - n) ≡ i = omega arith in
    subst (λ (v : ℕ). v < 16) (get_or-drop n w (i - n) 0 ∙ ap (λ (k : ℕ). get_or w k 0) e) (semi-octet-at (drop n w) (i - n) s)

-- ---- the digits

pub put-checks-next : (k r : ℕ) (w l : List ℕ) → 0 < k → k ≤ length w → with_checks k r (drop k w) ≡ l
    → with_checks (k - 1) (r / 16) (drop (k - 1) (set w (k - 1) (r % 16))) ≡ l
unfolding with_checks
put-checks-next zero r w l p h e = absurd (omega arith)
put-checks-next (suc k) r w l p h e =
    let same : suc k - 1 ≡ k = omega arith in
    rw same
    (ap (λ (t : List ℕ). with_checks k (r / 16) t)
    (drop-cons (set w k (r % 16)) k 0 (omega (arith, length-set w k (r % 16)))
    ∙ ap₂ (λ (v : ℕ) (t : List ℕ). v ∷ t) (get_or-set_same w k (r % 16) 0 (omega arith)) (drop-set-lt (suc k) w k (r % 16) (omega arith)))
    ∙ e)

pub put-checks-last : (k r : ℕ) (w l : List ℕ) → k ≡ 0 → with_checks k r (drop k w) ≡ l → w ≡ l
unfolding with_checks
put-checks-last zero r w l e d = d
put-checks-last (suc k) r w l e d = absurd (omega arith)

-- ---- the answers

pub made : (mode n r : ℕ) (rows old new : List ℕ) → 2 ≤ mode → mode ≤ 4 → n ≡ distance mode - 1 → n ≤ length old → length old ≤ 15
    → rows ≡ feedback (distance mode - 1) → SemiOctets (drop n old) → r ≡ register rows (drop n old) → new ≡ with_checks n r (drop n old)
    → IsMade mode old new
made mode n r rows old new a b e h l t s d p =
    let k = distance mode - 1 in
    let message = drop k old in
    let semi : SemiOctets message = subst (λ (i : ℕ). SemiOctets (drop i old)) e s in
    let is : new ≡ with_checks k (register (feedback k) message) message =
    p ∙ ap (λ (v : ℕ). with_checks n v (drop n old)) (d ∙ ap (λ (u : List ℕ). register u (drop n old)) t)
    ∙ ap (λ (i : ℕ). with_checks i (register (feedback k) (drop i old)) (drop i old)) e in
    let word : CodeWord (distance mode) message new =
    subst (λ (w : List ℕ). CodeWord (distance mode) message w) (sym is)
    (register-codes (distance mode) message (omega arith) (omega arith) semi) in
    record {
      makeable = record { fits = record { mode_from = a; mode_to = b; checks = omega arith; most = l }; semi_octets = semi };
      made = word;
      only = λ w q. code-word-only (distance mode) message w new (omega arith) (omega (arith, length-drop k old)) q word;
    }

pub not_made : (mode n : ℕ) (old : List ℕ) → n ≡ distance mode - 1 → (SemiOctets (drop n old) → ⊥) → NotMade mode old old
not_made mode n old e u =
    record { unfit = λ m. u (subst (λ (k : ℕ). SemiOctets (drop k old)) (sym e) m.semi_octets); kept = refl }
