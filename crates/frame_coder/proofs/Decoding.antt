-- The arithmetic stream: which symbol of a row is the largest, how far a symbol narrows the stream, and each way through the refill.
-- Over the rows of crate `coder_tables`. Assumes nothing.
use mathlib.Core.Path.{◌≡◌, refl, sym, ap, subst, ◌∙◌}
use mathlib.Core.Bool.{Bool, true, false}
use mathlib.Core.List.{List}
use Prim.Native.Nat.{ℕ, zero, suc, ◌+◌, ◌-◌, ◌*◌, ◌/◌, ◌≤◌, ◌<◌}
use native.Mathlib.Omega.{arith}
use native.Mathlib.Nat.{le_of_eq, le_trans, mul-le-mul, mul-le-mul_left, mul-sub}
use lib.Dec.{eqb}
use lib.ListN.{length, get_or}
use borrow.Author.Tests.{lt-ltb, le-ltb, le-leb, lt-leb, eqb-true, eqb-false}
use Rattle.coder_tables.specs.Rows.{Row}
use Rattle.coder_tables.proofs.Rules.{row_below}
use Rattle.frame_bits.specs.Read.{value, cause}
use Rattle.frame_coder.specs.Symbol.{largest, refill_of, fed_of, taken_of, symbol_of}
use Rattle.frame_coder.specs.Sound.{Sound, Scaled, Narrow, Refilled, GoodSymbol}
use Rattle.frame_coder.specs.declared.Coder.{Coder}
use Rattle.frame_coder.specs.declared.Found.{Found}
use Rattle.frame_bits.specs.declared.Step.{Step}
use Rattle.refusals.specs.declared.Cause.{Cause}
use Rattle.std.specs.Prelude.{Result, Ok, Err}

-- ---- the symbol found

rises-on : {cum : List ℕ} {row last : ℕ} → Row cum row last → (v n w : ℕ) → v + n ≡ w → w ≤ last + 1
    → get_or cum (row + v) 0 ≤ get_or cum (row + w) 0
rises-on {cum} {row} r v zero w e h = let p : v ≡ w = omega arith in le_of_eq (ap (λ (k : ℕ). get_or cum (row + k) 0) p)
rises-on r v (suc n) w e h = let a = r.rises v (omega arith) in let b = rises-on r (v + 1) n w (omega arith) h in omega arith

-- the last symbol is the largest, or the largest of those before it is
largest-next : {cum : List ℕ} {row last : ℕ} (t low v n : ℕ) → Row cum row last → t * get_or cum (row + v) 0 ≤ low → v ≤ suc n
    → suc n ≤ last
    → (v < suc n → low < t * get_or cum (row + (v + 1)) 0) → (v ≤ n → largest cum row t low n ≡ v) → (b : Bool) → eqb v (suc n) ≡ b
    → largest cum row t low (suc n) ≡ v
unfolding largest
largest-next {cum} {row} {last} t low v n r h p q up rest true e =
    let s : v ≡ suc n = eqb-true v (suc n) e in
    let z : t * get_or cum (row + suc n) 0 ≤ low = subst (λ (k : ℕ). t * get_or cum (row + k) 0 ≤ low) s h in
    rw (le-leb (t * get_or cum (row + suc n) 0) low z) (sym s)
largest-next {cum} {row} {last} t low v n r h p q up rest false e =
    let d : (v ≡ suc n → ⊥) = eqb-false v (suc n) e in
    let u : low < t * get_or cum (row + (v + 1)) 0 = up (omega arith) in
    let m : t * get_or cum (row + (v + 1)) 0 ≤ t * get_or cum (row + suc n) 0 =
    mul-le-mul_left t (rises-on r (v + 1) (n - v) (suc n) (omega arith) (omega arith)) in
    rw (lt-leb (t * get_or cum (row + suc n) 0) low (omega arith)) (rest (omega arith))

-- a symbol not above low, with the next one above it, is the largest: the row rises
pub largest-is : {cum : List ℕ} {row last : ℕ} (t low v n : ℕ) → Row cum row last → t * get_or cum (row + v) 0 ≤ low → v ≤ n → n ≤ last
    → (v < n → low < t * get_or cum (row + (v + 1)) 0) → largest cum row t low n ≡ v
unfolding largest
largest-is t low v zero r h p q up = omega arith
largest-is t low v (suc n) r h p q up =
    largest-next t low v n r h p q up (λ k. largest-is t low v n r h k (omega arith) (λ m. up (omega arith))) (eqb v (suc n)) refl

-- ---- the stream narrowed

cut-some : (t a b : ℕ) → 64 ≤ t → a < b → 64 ≤ t * (b - a)
cut-some t a b h k = let o : 1 ≤ b - a = omega arith in mul-le-mul h o

cut_most : (t a b r : ℕ) → t * 1024 ≤ r → b ≤ 1024 → t * (b - a) ≤ r
cut_most t a b r h k = let o : b - a ≤ 1024 = omega arith in le_trans (mul-le-mul_left t o) h

pub narrow : {s cum : List ℕ} {row last low : ℕ} {c : Coder} (f : Found) → Row cum row last → Sound s c
    → Scaled cum row (c.range / 1024) low last f
    → Narrow s (record { low = c.low - f.below; range = f.above - f.below; at = c.at; taken = c.taken + 1 })
narrow {s} {cum} {row} {last} {low} {c} f r g k =
    let t : ℕ = c.range / 1024 in
    let a : ℕ = get_or cum (row + f.symbol) 0 in
    let b : ℕ = get_or cum (row + (f.symbol + 1)) 0 in
    let h = k.symbol in
    let w = g.wide in
    let u = g.range in
    let l = g.low in
    let e : f.above - f.below ≡ t * (b - a) = rw (k.below, k.above) (sym (mul-sub t b a)) in
    let some : 64 ≤ t * (b - a) = cut-some t a b (omega arith) (r.rises f.symbol h) in
    let most : t * (b - a) ≤ c.range = cut_most t a b c.range (omega arith) (row_below r (omega arith)) in
    record { low = omega arith; wide = omega arith; range = omega arith; at = g.at; end = g.end }

-- ---- each way through the refill: the range wide again, no byte left, a byte more

pub refill-wide : (s : List ℕ) (n v : ℕ) (c : Coder) → 65536 ≤ c.range → refill_of s n v c ≡ value v c
unfolding refill_of
refill-wide s zero v c h = refl
refill-wide s (suc n) v c h = simp (le-ltb c.range 65536 h)

pub refill-out : (s : List ℕ) (n v : ℕ) (c : Coder) → 0 < n → c.range < 65536 → length s ≤ c.at → refill_of s n v c ≡ cause 6
unfolding refill_of
refill-out s zero v c h e f = absurd (omega arith)
refill-out s (suc n) v c h e f = simp (lt-ltb c.range 65536 e, le-ltb c.at (length s) f)

pub refill-more : (s : List ℕ) (n m v : ℕ) (c : Coder) → n ≡ m + 1 → c.range < 65536 → c.at < length s
    → refill_of s m v (fed_of s c) ≡ refill_of s n v c
unfolding refill_of
refill-more s zero m v c h e f = absurd (omega arith)
refill-more s (suc n) m v c h e f =
    let p : m ≡ n = omega arith in rw (p, lt-ltb c.range 65536 e, lt-ltb c.at (length s) f)

-- ---- a symbol

pub symbol_high : (s cum : List ℕ) (row last : ℕ) (c : Coder) → c.range / 1024 * 1024 ≤ c.low → symbol_of s cum row last c ≡ cause 4
unfolding symbol_of
symbol_high s cum row last c h = simp (le-leb (c.range / 1024 * 1024) c.low h)

pub symbol-taken : (s cum : List ℕ) (row last low : ℕ) (f : Found) (c : Coder) → c.low < c.range / 1024 * 1024
    → f.symbol ≡ largest cum row (c.range / 1024) c.low last → Scaled cum row (c.range / 1024) low last f
    → symbol_of s cum row last c
    ≡ refill_of s 2 f.symbol (record { low = c.low - f.below; range = f.above - f.below; at = c.at; taken = c.taken + 1 })
unfolding symbol_of taken_of
symbol-taken s cum row last low f c h e k =
    let t : ℕ = c.range / 1024 in
    let d = mul-sub t (get_or cum (row + (f.symbol + 1)) 0) (get_or cum (row + f.symbol) 0) in
    rw (lt-leb (t * 1024) c.low h, ← e, d, ← k.below, ← k.above)

-- what the refill promises is what a symbol has to
pub good-symbol : (s : List ℕ) (last v : ℕ) (c d : Coder) (r : Result (Step ℕ Coder) Cause) → v ≤ last → d.taken ≡ c.taken + 1
    → Refilled s v d r → GoodSymbol s last c r
good-symbol s last v c d (Ok symbol) h t g = let p = g.0 in (omega arith, g.1 ∙ t, g.2)
good-symbol s last v c d (Err why) h t g = (omega arith, omega arith)
