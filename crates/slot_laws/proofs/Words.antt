-- Data words and their joining are inverse to each other (A.38). Assumes nothing.
use mathlib.Core.Path.{◌≡◌, refl, sym, ap, ap₂, ◌∙◌}
use mathlib.Core.Bool.{Bool, true, false}
use mathlib.Core.List.{List, [], ◌++◌}
use Prim.Native.Nat.{ℕ, zero, suc, ◌+◌, ◌≤◌, ◌<◌}
use native.Mathlib.Omega.{arith}
use lib.Dec.{eqb}
use lib.ListN.{length, take, drop, length-append, length-drop}
use lib.Seq.{take-add, take_all, length-take-le, drop-append-le, drop_at, take-append-le}
use borrow.Author.Tests.{eqb-true, eqb-false}
use Rattle.laws.specs.Tab.{total, Below}
use Rattle.laws.proofs.Tab.{total-next, total-up, below-append, below-drop, below-take}
use Rattle.slot_laws.specs.Words.{piece}

-- the first n words one after the other
unfoldable pub joined : (ℕ → List ℕ) → ℕ → List ℕ
joined w zero = []
joined w (suc n) = joined w n ++ w n

pub joined_same : (v w : ℕ → List ℕ) (n : ℕ) → ((i : ℕ) → i < n → v i ≡ w i) → joined v n ≡ joined w n
unfolding joined
joined_same v w zero h = refl
joined_same v w (suc n) h = ap₂ (λ (s t : List ℕ). s ++ t) (joined_same v w n (λ i l. h i (omega arith))) (h n (omega arith))

pub length-joined : (w : ℕ → List ℕ) (f : ℕ → ℕ) (n : ℕ) → ((i : ℕ) → i < n → length (w i) ≡ f i) → length (joined w n) ≡ total f n
unfolding joined total
length-joined w f zero h = refl
length-joined w f (suc n) h =
    length-append (joined w n) (w n) ∙ ap₂ (λ (x y : ℕ). x + y) (length-joined w f n (λ i l. h i (omega arith))) (h n (omega arith))

pub below-joined : (b : ℕ) (w : ℕ → List ℕ) (n : ℕ) → 0 < b → ((i : ℕ) → i < n → Below b (w i)) → Below b (joined w n)
unfolding joined
below-joined b w zero z h i = z
below-joined b w (suc n) z h i = below-append b (joined w n) (w n) (below-joined b w n z (λ j l. h j (omega arith))) (h n (omega arith)) i

pub length-piece : (f : ℕ → ℕ) (s : List ℕ) (i : ℕ) → total f (suc i) ≤ length s → length (piece f s i) ≡ f i
unfolding piece
length-piece f s i h =
    let t = total-next f i in
    let d = length-drop (total f i) s in
    length-take-le (f i) (drop (total f i) s) (omega arith)

pub below-piece : (b : ℕ) (f : ℕ → ℕ) (s : List ℕ) (i : ℕ) → 0 < b → Below b s → Below b (piece f s i)
unfolding piece
below-piece b f s i z h = below-take b (f i) (drop (total f i) s) z (below-drop b (total f i) s h)

-- the pieces joined are the list
pub joined-piece : (f : ℕ → ℕ) (s : List ℕ) (n : ℕ) → joined (piece f s) n ≡ take (total f n) s
unfolding joined piece total
joined-piece f s zero = refl
joined-piece f s (suc n) = ap (λ (l : List ℕ). l ++ piece f s n) (joined-piece f s n) ∙ sym (take-add (total f n) (f n) s)

-- a word behind the pieces changes none of them
pub piece-front : (f : ℕ → ℕ) (s t : List ℕ) (i : ℕ) → total f (suc i) ≤ length s → piece f (s ++ t) i ≡ piece f s i
unfolding piece
piece-front f s t i h =
    let a = total-next f i in
    let d = length-drop (total f i) s in
    ap (take (f i)) (drop-append-le (total f i) s t (omega arith)) ∙ take-append-le (f i) (drop (total f i) s) t (omega arith)

piece-last : (f : ℕ → ℕ) (s t : List ℕ) (n : ℕ) → length s ≡ total f n → length t ≡ f n → piece f (s ++ t) n ≡ t
unfolding piece
piece-last f s t n h e = ap (take (f n)) (drop_at s t (total f n) h) ∙ take_all (f n) t (omega arith)

-- the pieces of words joined are the words
pub piece-joined : (w : ℕ → List ℕ) (f : ℕ → ℕ) (n i : ℕ) → i < n → ((i : ℕ) → i < n → length (w i) ≡ f i) → piece f (joined w n) i ≡ w i
unfolding joined
piece-joined w f zero i l h = absurd (omega arith)
piece-joined w f (suc n) i l h = go (eqb i n) refl (λ k. piece-joined w f n i k (λ j m. h j (omega arith)))
  where
    long : length (joined w n) ≡ total f n
    long = length-joined w f n (λ j m. h j (omega arith))

    go : (b : Bool) → eqb i n ≡ b → (i < n → piece f (joined w n) i ≡ w i) → piece f (joined w n ++ w n) i ≡ w i
    go true e r = rw (eqb-true i n e) (piece-last f (joined w n) (w n) n long (h n (omega arith)))
    go false e r =
        let x : (i ≡ n → ⊥) = eqb-false i n e in
        let k : i < n = omega arith in
        let u = total-up f (suc i) n k in
        piece-front f (joined w n) (w n) i (omega (arith, long)) ∙ r k
