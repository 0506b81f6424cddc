-- A value written behind the bits that are there: byte after byte from the one that is not full. Assumes nothing.
use mathlib.Core.Path.{◌≡◌, refl, sym, ap, ◌∙◌}
use mathlib.Core.Bool.{Bool, true, false}
use mathlib.Core.List.{List, [], ◌∷◌, ◌++◌, append_assoc, append-nil}
use Prim.Native.Nat.{ℕ, zero, suc, ◌+◌, ◌-◌, ◌*◌, ◌/◌, ◌%◌, ◌^◌, ◌≤◌, ◌<◌}
use native.Mathlib.Numerals.{add-one}
use native.Mathlib.Nat.{div-eq_of_lt}
use native.Mathlib.Omega.{arith}
use lib.Dec.{ltb, eqb}
use lib.ListN.{length, get_or, set, take, drop, replicate, length-append, length-replicate}
use lib.Seq.{get_or-set_same, get_or-set_other, take-suc}
use lib.Pow.{shr-shr, pow_mono}
use borrow.Author.Tests.{ltb-true, ltb-false, eqb-true, eqb-false}
use borrow.Rule.Slice.PartMut.{put_mid}
use Rattle.std.proofs.lemmas.List.{length-drop, length-take-le, get_or-take, get_or_append_left, get_or-append_right, get_or-drop}
use Rattle.frame_bits.specs.Fields.{value_bits}
use Rattle.writer_laws.specs.SideBits.{number_of}
use Rattle.writer_steps.specs.Cursors.{Open, Kept, Puts, Closes}
use Rattle.writer_steps.specs.declared.Cursor.{Cursor}
use Rattle.writer_laws.proofs.Given.{length-value}
use Rattle.writer_bits.proofs.Numbers.{values-number, number_behind, behind-below, byte-before, byte-from}

-- the bytes of h from byte b up to byte j, and all others as they were
pub record Filled (old : List ℕ) (b h : ℕ) (s : List ℕ) (j : ℕ) : Type 0 where
  pub room : length s ≡ length old
  pub before : (i : ℕ) → i < b → get_or s i 0 ≡ get_or old i 0
  pub full : (i : ℕ) → b ≤ i → i < j → get_or s i 0 ≡ h / 2 ^ (8 * (i - b)) % 256
  pub behind : (i : ℕ) → j ≤ i → get_or s i 0 ≡ get_or old i 0

-- the bytes put from byte b on
pub filled-mid : (old items : List ℕ) (b n h : ℕ) → b + n ≤ length old → length items ≡ n
    → ((i : ℕ) → i < n → get_or items i 0 ≡ h / 2 ^ (8 * i) % 256) → Filled old b h (put_mid b n old items) (b + n)
filled-mid old items b n h room long full =
    let rest : List ℕ = drop n (drop b old) in
    let t = length-take-le b old (omega arith) in
    let u = length-append (take b old) (items ++ rest) in
    let v = length-append items rest in
    let w = length-drop n (drop b old) in
    let z = length-drop b old in
    record {
      room = omega arith;
      before = λ i k. get_or_append_left (take b old) (items ++ rest) 0 i (omega arith) ∙ get_or-take b old i 0 k;
      full = λ i k l. get_or-append_right (take b old) (items ++ rest) b i 0 t k
          ∙ get_or_append_left items rest 0 (i - b) (omega arith) ∙ full (i - b) (omega arith);
      behind = λ i k. get_or-append_right (take b old) (items ++ rest) b i 0 t (omega arith)
          ∙ get_or-append_right items rest n (i - b) 0 long (omega arith) ∙ get_or-drop n (drop b old) (i - b - n) 0
          ∙ get_or-drop b old (n + (i - b - n)) 0
          ∙ (let e : b + (n + (i - b - n)) ≡ i = omega arith in ap (λ (x : ℕ). get_or old x 0) e);
    }

-- what is held is the rest of h
pub held_next : (h k x : ℕ) → x ≡ h / 2 ^ (8 * k) → x / 256 ≡ h / 2 ^ (8 * (k + 1))
held_next h k x e =
    let t : 8 * k + 8 ≡ 8 * (k + 1) = omega arith in
    ap (λ (y : ℕ). y / 256) e ∙ shr-shr h (8 * k) 8 ∙ ap (λ (y : ℕ). h / 2 ^ y) t

-- so that the value's bits stand behind those that were there
pub put-done :
    (v w : ℕ) (old s : List ℕ) (c : Cursor) (h j n x : ℕ) → v < 2 ^ w → h ≡ c.held + v * 2 ^ (c.at % 8)
    → Filled old (c.at / 8) h s j → c.at / 8 ≤ j → 8 * j + n ≡ c.at + w → n < 8 → x ≡ h / 2 ^ (8 * (j - c.at / 8))
    → Puts (value_bits v w) old s c (record { at = c.at + w; held = x })
put-done v w old s c h j n x u g f k d m e l kept =
    let p : c.at ≡ length l = kept.at in
    let a : ℕ = number_of l in
    let whole : number_of (l ++ value_bits v w) ≡ a + 2 ^ c.at * v =
    number_behind l (value_bits v w) ∙ ap (λ (y : ℕ). a + 2 ^ length l * y) (values-number v w u)
    ∙ ap (λ (y : ℕ). a + 2 ^ y * v) (sym p) in
    let long : length (l ++ value_bits v w) ≡ c.at + w =
    length-append l (value_bits v w) ∙ ap (λ (y : ℕ). length l + y) (length-value v w) ∙ ap (λ (y : ℕ). y + w) (sym p) in
    let held : h ≡ a / 2 ^ (8 * (c.at / 8)) + v * 2 ^ (c.at % 8) = g ∙ ap (λ (y : ℕ). y + v * 2 ^ (c.at % 8)) kept.held in
    let z : (c.at + w) / 8 ≡ j = omega arith in
    let under : a < 2 ^ c.at = rw p kept.bits in
    record {
      at = sym long;
      bits = rw (whole, long) (behind-below a v c.at w under u);
      held = rw (whole, z) (e ∙ sym (byte-from a v c.at j h k held));
      full = λ i o. rw whole (full_at i (rw z at o) held (ltb i (c.at / 8)) refl);
      fresh = λ i o. f.behind i (rw z at o) ∙ kept.fresh i (let o2 = rw z at o in omega arith);
    }
  where
    full_at : (i : ℕ) → i < j → h ≡ number_of l / 2 ^ (8 * (c.at / 8)) + v * 2 ^ (c.at % 8)
        → (t : Bool) → ltb i (c.at / 8) ≡ t
        → get_or s i 0 ≡ (number_of l + 2 ^ c.at * v) / 2 ^ (8 * i) % 256
    full_at i o held true t =
        let q = ltb-true i (c.at / 8) t in
        f.before i q ∙ kept.full i q ∙ sym (byte-before (number_of l) v c.at i q)
    full_at i o held false t =
        let q = ltb-false i (c.at / 8) t in
        f.full i q o ∙ ap (λ (y : ℕ). y % 256) (sym (byte-from (number_of l) v c.at i h q held))

-- ---- the end of the stream, its start, and puts in a row

-- past the last bit a number has none
beyond : (a p i : ℕ) → a < 2 ^ p → p ≤ 8 * i → a / 2 ^ (8 * i) % 256 ≡ 0
beyond a p i h k =
    let t : 2 ^ p ≤ 2 ^ (8 * i) = pow_mono k in
    let l : a < 2 ^ (8 * i) = omega arith in
    ap (λ (x : ℕ). x % 256) (div-eq_of_lt l)

-- the byte that is not full, filled with zeros
pub close-done : (old : List ℕ) (c : Cursor) → length old ≡ 512 → c.at ≤ 4000 → Closes old (set old (c.at / 8) (c.held % 256)) c
close-done old c r h l kept j = go (eqb j (c.at / 8)) refl (ltb j (c.at / 8)) refl
  where
    go : (t : Bool) → eqb j (c.at / 8) ≡ t → (u : Bool) → ltb j (c.at / 8) ≡ u
        → get_or (set old (c.at / 8) (c.held % 256)) j 0 ≡ number_of l / 2 ^ (8 * j) % 256
    go true t u e =
        let d = eqb-true j (c.at / 8) t in
        rw d (get_or-set_same old (c.at / 8) (c.held % 256) 0 (omega arith) ∙ ap (λ (x : ℕ). x % 256) kept.held)
    go false t true e =
        get_or-set_other old (c.at / 8) j (c.held % 256) 0 (eqb-false j (c.at / 8) t) ∙ kept.full j (ltb-true j (c.at / 8) e)
    go false t false e =
        let n = eqb-false j (c.at / 8) t in
        let m = ltb-false j (c.at / 8) e in
        let p : c.at ≡ length l = kept.at in
        get_or-set_other old (c.at / 8) j (c.held % 256) 0 n ∙ kept.fresh j m
        ∙ sym (beyond (number_of l) (length l) j kept.bits (omega arith))

-- nothing is written yet
pub blank : (n j : ℕ) → get_or (replicate {A = ℕ} n 0) j 0 ≡ 0
blank zero j = refl
blank (suc n) zero = refl
blank (suc n) (suc j) = blank n j

pub none_kept : (s : List ℕ) → s ≡ replicate 512 0 → Kept [] s (record { at = 0; held = 0 })
unfolding number_of
none_kept s e = record {
  at = refl;
  bits = omega arith;
  held = refl;
  full = λ j h. absurd (omega arith);
  fresh = λ j h. ap (λ (l : List ℕ). get_or l j 0) e ∙ blank 512 j;
}

pub none_open : (s : List ℕ) → s ≡ replicate 512 0 → Open s (record { at = 0; held = 0 })
none_open s e = record { room = ap (λ (l : List ℕ). length l) e ∙ length-replicate {A = ℕ} 512 0; held = omega arith }

-- some bits, and others behind them
pub puts-both : (a b s₀ s₁ s₂ : List ℕ) (c₀ c₁ c₂ : Cursor) → Puts a s₀ s₁ c₀ c₁ → Puts b s₁ s₂ c₁ c₂ → Puts (a ++ b) s₀ s₂ c₀ c₂
puts-both a b s₀ s₁ s₂ c₀ c₁ c₂ p q l kept = rw (← append_assoc l a b) (q (l ++ a) (p l kept))

-- no bits
pub puts_none : (s : List ℕ) (c : Cursor) → Puts [] s s c c
puts_none s c l kept = rw (append-nil l) kept

-- a bit is a value of one bit
pub one_bit : (x : ℕ) → x < 2 → value_bits x 1 ≡ x ∷ []
unfolding value_bits
one_bit x h = let e : x % 2 ≡ x = omega arith in ap (λ (y : ℕ). y ∷ []) e

-- the first i bits, and one more
pub puts-more : (bits s₀ s₁ s₂ : List ℕ) (c₀ c₁ c₂ : Cursor) (i x : ℕ) → i < length bits → x ≡ get_or bits i 0 → x < 2
    → Puts (take i bits) s₀ s₁ c₀ c₁ → Puts (value_bits x 1) s₁ s₂ c₁ c₂ → Puts (take (i + 1) bits) s₀ s₂ c₀ c₂
puts-more bits s₀ s₁ s₂ c₀ c₁ c₂ i x h e k p q =
    let d : value_bits x 1 ≡ get_or bits i 0 ∷ [] = one_bit x k ∙ ap (λ (y : ℕ). y ∷ []) e in
    let t : take (i + 1) bits ≡ take i bits ++ value_bits x 1 =
    ap (λ (n : ℕ). take n bits) (add-one i) ∙ take-suc bits i 0 h ∙ ap (λ (m : List ℕ). take i bits ++ m) (sym d) in
    rw t (puts-both (take i bits) (value_bits x 1) s₀ s₁ s₂ c₀ c₁ c₂ p q)
