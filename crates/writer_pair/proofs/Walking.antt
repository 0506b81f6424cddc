-- What the code of one pair asks: a line's sign, streams written one behind the other, and the loop over the escapes.
-- Assumes nothing.
use mathlib.Core.Path.{◌≡◌, refl, sym, ap, ap₂, ◌∙◌, subst}
use mathlib.Core.Logic.{◌⊎◌, inl, inr}
use mathlib.Core.Bool.{Bool, true, false, not}
use mathlib.Core.List.{List, [], ◌++◌, append_assoc, append-nil}
use Prim.Native.Nat.{ℕ, zero, suc, ◌+◌, ◌-◌, ◌*◌, ◌/◌, ◌%◌, ◌^◌, ◌≤◌, ◌<◌}
use native.Mathlib.Omega.{arith}
use native.Mathlib.Nat.{div-one, sub-zero}
use lib.Dec.{eqb, ltb}
use borrow.Author.Tests.{eqb-true, eqb-false, le-ltb, ltb-true, ltb-false}
use lib.ListN.{length}
use lib.IntN.{ℤ, pos, negsuc, nat_abs}
use lib.Signed.{lt_z}
use mir.Syntax.{w32}
use mir.Val.{SFits, of_z, to_z, bool_byte}
use mir.ValLaws.{to_z-of_z}
use Rattle.coder_tables.specs.Rows.{SpectrumTables}
use Rattle.frame_bits.specs.Fields.{value_bits}
use Rattle.frame_coder.specs.declared.Coder.{Coder}
use Rattle.frame_pair.specs.Pair.{row_of, context_of}
use Rattle.frame_pair.proofs.Escaping.{row_at}
use Rattle.writer_laws.specs.Stream.{coded, coded_all, whole_of}
use Rattle.writer_laws.specs.Pair.{level_from, level_of, walk_items, walk_bits, sign_bits, symbol_at, pair_items, pair_bits}
use Rattle.writer_laws.specs.Pairs.{context_behind}
use Rattle.writer_laws.proofs.Levels.{half-next, level_in, level-none, Escapes, level-more, symbol-parts}
use Rattle.writer_laws.proofs.Levels.{walk_more, walk_end, walk-length, walk-next, bits-length}
use Rattle.writer_stream.proofs.Placing.{part_of}
use Rattle.writer_steps.specs.Flow.{Part, Flows, OneMore}
use Rattle.writer_steps.specs.Cursors.{Open, Kept, Puts}
use Rattle.writer_steps.specs.Sends.{Sends, Sent}
use Rattle.writer_steps.specs.declared.Cursor.{Cursor}

-- ---- a line

fits-of : (u : ℤ) → nat_abs u ≤ 32767 → SFits w32 u
fits-of (pos n) h = let b : n < 2147483648 = omega arith in record { sfits = b }
fits-of (negsuc n) h = let b : n < 2147483648 = omega arith in record { sfits = b }

module _ (u : ℤ) (small : nat_abs u ≤ 32767) where
  pub bits_are : to_z w32 (of_z w32 u) ≡ u
  bits_are = to_z-of_z w32 u (fits-of u small)

-- a line's sign bit and how many it has, as the code counts them
abbrev pub Signed : ℤ → ℕ → Type 0
Signed u b = (value_bits b (length (sign_bits u)) ≡ sign_bits u) × (b < 2 ^ length (sign_bits u))

abbrev pub Counted : ℤ → ℕ → Type 0
Counted u n = (n ≡ length (sign_bits u)) × (n ≤ 1)

module _ (u : ℤ) (f : SFits w32 u) where
  pub sign-bit : {b : ℕ} → b ≡ bool_byte (lt_z (to_z w32 (of_z w32 u)) (pos 0)) → Signed u b
  unfolding value_bits
  sign-bit e = subst (λ (b : ℕ). Signed u b) (sym (rw (to_z-of_z w32 u f) at e)) (go u)
    where
      go : (v : ℤ) → Signed v (bool_byte (lt_z v (pos 0)))
      go (pos zero) = (refl, omega arith)
      go (pos (suc n)) = rw (le-ltb (suc n) 0 (omega arith)) (refl, omega arith)
      go (negsuc n) = (refl, omega arith)

  pub sign-count : {n : ℕ} → n ≡ bool_byte (not (eqb (of_z w32 u) 0)) → Counted u n
  sign-count e = subst (λ (n : ℕ). Counted u n) (sym e) (go (eqb (of_z w32 u) 0) refl)
    where
      some : (v : ℤ) → (of_z w32 v ≡ 0 → ⊥) → Counted v 1
      some (pos zero) n = absurd (n refl)
      some (pos (suc m)) n = (refl, omega arith)
      some (negsuc m) n = (refl, omega arith)

      go : (t : Bool) → eqb (of_z w32 u) 0 ≡ t → Counted u (bool_byte (not t))
      go true e =
          let z = eqb-true (of_z w32 u) 0 e in
          subst (λ (z : ℤ). Counted z 0) (ap (to_z w32) (sym z) ∙ to_z-of_z w32 u f) (refl, omega arith)
      go false e = some u (eqb-false (of_z w32 u) 0 e)

-- ---- both streams

-- a symbol of the row of a context and a level
pub part_at : (look cum : List ℕ) (base level row v : ℕ) → SpectrumTables look cum → base < 1024 → row ≡ row_of look base level → v ≤ 16
    → Part cum row v
part_at look cum base level row v t h e k = part_of v (row_at look cum base level row t h e) k

pub puts_none : (side : List ℕ) (p : Cursor) → Puts [] side side p p
puts_none side p l k = subst (λ (m : List ℕ). Kept m side p) (sym (append-nil l)) k

pub puts-as : {bits more side side' : List ℕ} {p q : Cursor} → bits ≡ more → Puts bits side side' p q → Puts more side side' p q
puts-as {side' = side'} {q = q} e h l k = subst (λ (m : List ℕ). Kept (l ++ m) side' q) e (h l k)

-- bits behind bits
pub puts-append : {side side' side'' : List ℕ} {p q r : Cursor} (bits more : List ℕ) → Puts bits side side' p q → Puts more side' side'' q r
    → Puts (bits ++ more) side side'' p r
puts-append {side'' = side''} {r = r} bits more h k l w =
    subst (λ (m : List ℕ). Kept m side'' r) (append_assoc l bits more) (k (l ++ bits) (h l w))

-- ---- the escapes

-- the loop goes on by one test or the other
pub escapes-of : {A B : Type 0} (a b : ℕ) → A ⊎ B → (A → 4 ≤ a) → (B → 4 ≤ b) → Escapes a b
escapes-of a b (inl t) f g h k = let u = f t in omega arith
escapes-of a b (inr t) f g h k = let u = g t in omega arith

-- both streams behind so many escapes of a pair x, y: what is left to write makes the whole, and a, b is what is left of the pair
pub record Walks (look cum : List ℕ) (base x y : ℕ) (front₀ side₀ : List ℕ) (c₀ : Coder) (p₀ : Cursor) (front side : List ℕ) (a b level : ℕ)
    (c : Coder) (p : Cursor) : Type 0 where
  pub first : a ≡ x / 2 ^ level
  pub second : b ≡ y / 2 ^ level
  pub few : level + level_from (13 - level) a b ≡ level_of x y
  pub rest : coded_all (walk_items look cum base (symbol_at x y (level_of x y)) (level_of x y - level) level) (whole_of front c)
      ≡ coded_all (walk_items look cum base (symbol_at x y (level_of x y)) (level_of x y) 0) (whole_of front₀ c₀)
  pub kept : Puts (walk_bits x y level 0) side₀ side p₀ p
  pub written : p.at ≡ p₀.at + 2 * level
  pub at : c.at ≤ c₀.at + 2 * level
  pub taken : c.taken ≡ c₀.taken + level
  pub flows : Flows front c
  pub sides : Open side p

-- at most 13 escapes are written, and there is room for what comes
pub record Room (level : ℕ) (c : Coder) (p : Cursor) : Type 0 where
  pub few : level ≤ 13
  pub at : c.at ≤ 512
  pub taken : c.taken < 65536
  pub written : p.at ≤ 4000

pub walks-first : (look cum : List ℕ) (base x y : ℕ) (front₀ side₀ : List ℕ) (c₀ : Coder) (p₀ : Cursor) → Flows front₀ c₀ → Open side₀ p₀
    → Walks look cum base x y front₀ side₀ c₀ p₀ front₀ side₀ x y 0 c₀ p₀
unfolding walk_bits
walks-first look cum base x y front₀ side₀ c₀ p₀ f o =
    let z : level_of x y - 0 ≡ level_of x y = sub-zero (level_of x y) in
    record {
      first = sym (div-one x);
      second = sym (div-one y);
      few = omega arith;
      rest = rw z;
      kept = puts_none side₀ p₀;
      written = omega arith;
      at = omega arith;
      taken = omega arith;
      flows = f;
      sides = o;
    }

module _ {look cum : List ℕ} {base x y : ℕ} {front₀ side₀ : List ℕ} {c₀ : Coder} {p₀ : Cursor} {front side : List ℕ} {a b level : ℕ}
    {c : Coder} {p : Cursor} (small : x ≤ 32767) (small' : y ≤ 32767)
    (w : Walks look cum base x y front₀ side₀ c₀ p₀ front side a b level c p) where
  -- no more than 13
  walks-few : level ≤ 13
  walks-few = let h = (level_in x y small small').2 in let e = w.few in omega arith

  pub walks-room : c₀.at ≤ 480 → c₀.taken ≤ 32768 → p₀.at ≤ 3500 → Room level c p
  walks-room h k m =
      let few = walks-few in
      let at1 = w.at in
      let taken1 = w.taken in
      let written1 = w.written in
      record { few = few; at = omega arith; taken = omega arith; written = omega arith }

  -- an escape more: its level is not the last
  walks_less : Escapes a b → level < level_of x y
  walks_less g = go (ltb level (level_of x y)) refl
    where
      go : (t : Bool) → ltb level (level_of x y) ≡ t → level < level_of x y
      go true e = ltb-true level (level_of x y) e
      go false e =
          let n = ltb-false level (level_of x y) e in
          let few = w.few in
          let same : level_of x y ≡ level = omega arith in
          let h = level_in x y small small' in
          let i : x / 2 ^ level < 4 = subst (λ (z : ℕ). x / 2 ^ z < 4) same h.0 in
          let j : y / 2 ^ level < 4 = subst (λ (z : ℕ). y / 2 ^ z < 4) same h.1 in
          absurd (g (rw w.first i) (rw w.second j))

  pub walks-below : Escapes a b → level < 13
  walks-below g =
      let h = walks_less g in
      let t = (level_in x y small small').2 in
      omega arith

  pub walks_more : (front' side' : List ℕ) (row : ℕ) (d : Coder) (q : Cursor) → Escapes a b → row ≡ row_of look base level
      → whole_of front' d ≡ coded cum row 16 (whole_of front c) → Flows front' d → OneMore c d
      → Puts (value_bits (a % 2 + 2 * (b % 2)) 2) side side' p q → Open side' q → q.at ≡ p.at + 2
      → Walks look cum base x y front₀ side₀ c₀ p₀ front' side' (a / 2) (b / 2) (level + 1) d q
  walks_more front' side' row d q g e f h m k o i =
      let less = walks_less g in
      let top = (level_in x y small small').2 in
      let l : ℕ = level_of x y in
      let v : ℕ = symbol_at x y l in
      let t = level-more 13 a b level (omega arith) g in
      let few = w.few in
      let written = w.written in
      let at = w.at in
      let taken = w.taken in
      let at1 = m.at in
      let taken1 = m.taken in
      record {
        first = ap (λ (z : ℕ). z / 2) w.first ∙ half-next x level;
        second = ap (λ (z : ℕ). z / 2) w.second ∙ half-next y level;
        few = omega arith;
        rest = rw (f, e) (walk_more look cum base v l level (whole_of front c) less ∙ w.rest);
        kept = puts-as (walk-next x y level a b w.first w.second)
            (puts-append (walk_bits x y level 0) (value_bits (a % 2 + 2 * (b % 2)) 2) w.kept k);
        written = omega arith;
        at = omega arith;
        taken = omega arith;
        flows = h;
        sides = o;
      }

  -- the last symbol
  module _ (front' : List ℕ) (row : ℕ) (d : Coder) (low : a < 4) (low' : b < 4) (place : row ≡ row_of look base level)
      (send : whole_of front' d ≡ coded cum row (a + 4 * b) (whole_of front c)) (flow : Flows front' d) (one : OneMore c d) where
    walks-level : level ≡ level_of x y
    walks-level = let e = level-none (13 - level) a b low low' in let few = w.few in omega arith

    walks-symbol : a + 4 * b ≡ symbol_at x y (level_of x y)
    walks-symbol = ap₂ (λ (i j : ℕ). i + 4 * j) w.first w.second ∙ ap (λ (l : ℕ). symbol_at x y l) walks-level

    walks-sent : Sent (walk_items look cum base (symbol_at x y (level_of x y)) (level_of x y) 0) (walk_bits x y (level_of x y) 0)
        front₀ front' side₀ side c₀ d p₀ p
    walks-sent =
        let l : ℕ = level_of x y in
        let v : ℕ = symbol_at x y l in
        let e = walks-level in
        let n = walk-length x y l 0 in
        let written = w.written in
        record {
          coder = rw (send, place, walks-symbol) (walk_end look cum base v l level (whole_of front c) e ∙ w.rest);
          kept = puts-as (ap (λ (m : ℕ). walk_bits x y m 0) e) w.kept;
          length = omega arith;
        }

    walks-sends : Sends (c₀.at + 28) (c₀.taken + 14) (p₀.at + 26) front' side d p
    walks-sends =
        let few = walks-few in
        let written = w.written in
        let at = w.at in
        let taken = w.taken in
        let at1 = one.at in
        let taken1 = one.taken in
        record { flows = flow; sides = w.sides; at = omega arith; taken = omega arith; written = omega arith }

    pub walks-last : (level ≡ level_of x y)
        × ((a + 4 * b ≡ symbol_at x y (level_of x y))
        × ((a + 4 * b < 16)
        × (Sent (walk_items look cum base (symbol_at x y (level_of x y)) (level_of x y) 0) (walk_bits x y (level_of x y) 0) front₀ front'
        side₀ side c₀ d p₀ p
        × Sends (c₀.at + 28) (c₀.taken + 14) (p₀.at + 26) front' side d p)))
    walks-last = (walks-level, (walks-symbol, ((symbol-parts a b low low').2, (walks-sent, walks-sends))))

-- ---- a pair

sign-length : (u : ℤ) → length (sign_bits u) ≤ 1
sign-length (pos zero) = omega arith
sign-length (pos (suc n)) = omega arith
sign-length (negsuc n) = omega arith

-- the context that a pair leaves, from its last symbol
pub pair-context : (x y : ℕ) (u v : ℤ) (context symbol level r : ℕ) → x ≡ nat_abs u → y ≡ nat_abs v → nat_abs u ≤ 32767 → nat_abs v ≤ 32767
    → level ≡ level_of x y → symbol ≡ symbol_at x y (level_of x y) → r ≡ context_of context (symbol % 4) (symbol / 4) level
    → r ≡ context_behind context u v
pair-context x y u v context symbol level r isx isy h k e f g =
    let t = level_in (nat_abs u) (nat_abs v) h k in
    let l : ℕ = level_of (nat_abs u) (nat_abs v) in
    let parts = symbol-parts (nat_abs u / 2 ^ l) (nat_abs v / 2 ^ l) t.0 t.1 in
    let e1 = rw (isx, isy) at e in
    let f1 = rw (isx, isy) at f in
    g ∙ rw (e1, f1, parts.0, parts.1) refl

-- a sign put as so many bits
module _ (u : ℤ) {b n : ℕ} (s : Signed u b) (k : Counted u n) where
  pub sign_below : b < 2 ^ n
  sign_below = subst (λ (m : ℕ). b < 2 ^ m) (sym k.0) s.1

  pub sign-put : {side side' : List ℕ} {c d : Cursor} → Puts (value_bits b n) side side' c d → Puts (sign_bits u) side side' c d
  sign-put h = puts-as (ap (λ (m : ℕ). value_bits b m) k.0 ∙ s.0) h

-- what a call is told of a line is told of its bits
module _ (u : ℤ) (small : nat_abs u ≤ 32767) where
  pub size_is : {x : ℕ} → x ≡ nat_abs (to_z w32 (of_z w32 u)) → x ≡ nat_abs u
  size_is e = e ∙ ap nat_abs (bits_are u small)

  pub size_small : {x : ℕ} → x ≡ nat_abs (to_z w32 (of_z w32 u)) → x ≤ 32767
  size_small e = let i = size_is e in omega arith

  pub sign-puts : {side side' : List ℕ} {p q : Cursor} → Puts (sign_bits (to_z w32 (of_z w32 u))) side side' p q
      → Puts (sign_bits u) side side' p q
  sign-puts h = puts-as (ap sign_bits (bits_are u small)) h

  pub sign_at : (p : ℕ) {q : ℕ} → q ≡ p + length (sign_bits (to_z w32 (of_z w32 u))) → q ≡ p + length (sign_bits u)
  sign_at p e = e ∙ ap (λ (z : ℤ). p + length (sign_bits z)) (bits_are u small)

-- there is room for the second sign
pub sign-room : (u : ℤ) {p p1 p2 : ℕ} → p ≤ 3500 → p1 ≤ p + 26 → p2 ≡ p1 + length (sign_bits u) → p2 ≤ 4000
sign-room u h k e = let l = sign-length u in omega arith

-- the escapes and the last symbol, and then both signs behind them
module _ (look cum : List ℕ) (base x y : ℕ) (u v : ℤ) (isx : x ≡ nat_abs u) (isy : y ≡ nat_abs v)
    (front front' side side1 side2 side3 : List ℕ) (c d : Coder) (p p1 p2 p3 : Cursor) where
  pub pair-sent : Sent (walk_items look cum base (symbol_at x y (level_of x y)) (level_of x y) 0) (walk_bits x y (level_of x y) 0)
      front front' side side1 c d p p1
      → Puts (sign_bits u) side1 side2 p1 p2 → p2.at ≡ p1.at + length (sign_bits u)
      → Puts (sign_bits v) side2 side3 p2 p3 → p3.at ≡ p2.at + length (sign_bits v)
      → Sent (pair_items look cum base u v) (pair_bits u v) front front' side side3 c d p p3
  unfolding pair_items pair_bits
  pair-sent w f i g j =
      let m = rw (isx, isy) at w in
      let n = bits-length u v in
      let k = m.length in
      let o = walk-length (nat_abs u) (nat_abs v) (level_of (nat_abs u) (nat_abs v)) 0 in
      record {
        coder = m.coder;
        kept = puts-append (walk_bits (nat_abs u) (nat_abs v) (level_of (nat_abs u) (nat_abs v)) 0) (sign_bits u ++ sign_bits v) m.kept
            (puts-append (sign_bits u) (sign_bits v) f g);
        length = omega arith;
      }

pub pair-sends : (u v : ℤ) (bits at2 : ℕ) {bytes symbols : ℕ} {front side1 side3 : List ℕ} {d : Coder} {p1 p3 : Cursor}
    → Sends bytes symbols (bits + 26) front side1 d p1 → Open side3 p3 → at2 ≡ p1.at + length (sign_bits u)
    → p3.at ≡ at2 + length (sign_bits v) → Sends bytes symbols (bits + 28) front side3 d p3
pair-sends u v bits at2 w o i j =
    let m = w.written in
    let a = sign-length u in
    let b = sign-length v in
    record { flows = w.flows; sides = o; at = w.at; taken = w.taken; written = omega arith }
