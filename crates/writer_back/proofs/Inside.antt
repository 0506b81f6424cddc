-- A symbol reads back: any bytes whose front lies in the interval of the symbols written give these symbols, and no cause.
-- Over the laws of the stream written and of the reader's coder. Assumes nothing.
use mathlib.Core.Path.{◌≡◌, refl, sym, ap, ◌∙◌}
use mathlib.Core.Bool.{Bool, true, false}
use mathlib.Core.List.{List, [], ◌∷◌}
use Prim.Native.Nat.{ℕ, zero, suc, ◌+◌, ◌-◌, ◌*◌, ◌/◌, ◌%◌, ◌≤◌, ◌<◌}
use native.Mathlib.Omega.{arith}
use native.Mathlib.Nat.{le_refl, mul-le-mul_left}
use native.Mathlib.Numerals.{add-one}
use lib.Dec.{ltb}
use lib.ListN.{length, get_or}
use borrow.Author.Tests.{lt-ltb, lt-leb, ltb-true}
use Rattle.coder_tables.specs.Rows.{Row}
use Rattle.coder_tables.proofs.Rules.{row_below}
use Rattle.frame_bits.specs.Read.{value}
use Rattle.frame_coder.specs.Symbol.{largest, fed_of, refill_of, narrowed, taken_of, symbol_of, start_of}
use Rattle.frame_coder.specs.declared.Coder.{Coder}
use Rattle.frame_coder.proofs.Decoding.{largest-is}
use Rattle.writer_laws.specs.Stream.{send_start, shifted, widened, placed, coded, Item, coded_all, front_of}
use Rattle.writer_laws.proofs.Streams.{Fit, part_in, at-widened}

-- bytes
abbrev pub Bytes : List ℕ → Type 0
Bytes s = (i : ℕ) → get_or s i 0 < 256

-- the front of the bytes lies in the interval of what was written
pub record Inside (s : List ℕ) (c : Coder) : Type 0 where
  pub from : c.low ≤ front_of s c.at
  pub to : front_of s c.at < c.low + c.range

-- the reader's coder at the place where the sender's stands
abbrev pub seen : List ℕ → Coder → Coder
seen s c = record { low = front_of s c.at - c.low; range = c.range; at = c.at; taken = c.taken }

pub seen_start : (s : List ℕ) → seen s send_start ≡ start_of s
unfolding front_of
seen_start s =
    let f : ℕ → Coder = λ x. record { low = x; range = 16777215; at = 3; taken = 0 } in
    let e : ((0 * 256 + get_or s 0 0) * 256 + get_or s 1 0) * 256 + get_or s 2 0 - 0
    ≡ (get_or s 0 0 * 256 + get_or s 1 0) * 256 + get_or s 2 0 =
    omega arith in
    ap f e

front-next : (s : List ℕ) (n : ℕ) → front_of s (n + 1) ≡ front_of s n * 256 + get_or s n 0
unfolding front_of
front-next s n = rw (add-one n) refl

-- ---- what is inside at the end was inside before

pub back-shift : (s : List ℕ) (c : Coder) → Bytes s → Inside s (shifted c) → Inside s c
back-shift s c b i =
    let n = front-next s c.at in
    let y = b c.at in
    let f = i.from in
    let t = i.to in
    record { from = omega arith; to = omega arith }

pub back-placed : {cum : List ℕ} {row last : ℕ} (s : List ℕ) (v : ℕ) (c : Coder) → Row cum row last → v ≤ last
    → Inside s (placed cum row (c.range / 1024) v c) → Inside s c
back-placed {cum} {row} s v c w h i =
    let q = part_in v c.range w h in
    let e = q.0 in
    let u = q.1 in
    let f = i.from in
    let t = i.to in
    record { from = omega arith; to = omega arith }

pub back-widened : (s : List ℕ) (n : ℕ) (c : Coder) → Bytes s → Inside s (widened n c) → Inside s c
unfolding widened
back-widened s zero c b i = i
back-widened s (suc n) c b i = go (ltb c.range 65536) refl (back-widened s n (shifted c) b)
  where
    go : (t : Bool) → ltb c.range 65536 ≡ t → (Inside s (widened n (shifted c)) → Inside s (shifted c)) → Inside s c
    go true e r = back-shift s c b (r (rw e at i))
    go false e r = rw e at i

pub back-coded : {cum : List ℕ} {row last : ℕ} (s : List ℕ) (v : ℕ) (c : Coder) → Bytes s → Row cum row last → v ≤ last
    → Inside s (coded cum row v c) → Inside s c
unfolding coded
back-coded {cum} {row} s v c b w h i =
    back-placed s v c w h (back-widened s 2 (placed cum row (c.range / 1024) v c) b i)

pub back-all : (s : List ℕ) (l : List Item) (c : Coder) → Bytes s → Fit l → Inside s (coded_all l c) → Inside s c
unfolding coded_all
back-all s [] c b f i = i
back-all s (j ∷ l) c b f i =
    back-coded s j.symbol c b f.0.0 f.0.1 (back-all s l (coded j.cum j.row j.symbol c) b f.1 i)

-- ---- the reader's steps beside the sender's

fed-low : (F l r y : ℕ) → l ≤ F → F < l + r → r < 65536 → (F - l) * 256 % 16777216 + y ≡ F * 256 + y - l * 256
fed-low F l r y h k m = omega arith

-- a byte taken is a shift
pub fed-seen : (s : List ℕ) (c : Coder) → Inside s c → c.range < 65536 → fed_of s (seen s c) ≡ seen s (shifted c)
fed-seen s c i h =
    let f : ℕ → Coder = λ x. record { low = x; range = c.range * 256; at = c.at + 1; taken = c.taken } in
    let n = front-next s c.at in
    let e = fed-low (front_of s c.at) c.low c.range (get_or s c.at 0) i.from i.to h in
    ap f (e ∙ sym (ap (λ (x : ℕ). x - c.low * 256) n))

-- cause 6 is not reached: the sender's shifts are inside the frame
pub refill-seen : (s : List ℕ) (n v : ℕ) (c : Coder) → Bytes s → Inside s (widened n c) → (widened n c).at ≤ length s
    → refill_of s n v (seen s c) ≡ value v (seen s (widened n c))
unfolding refill_of widened
refill-seen s zero v c b i h = refl
refill-seen s (suc n) v c b i h = go (ltb c.range 65536) refl (refill-seen s n v (shifted c) b)
  where
    go : (t : Bool) → ltb c.range 65536 ≡ t
        → (Inside s (widened n (shifted c)) → (widened n (shifted c)).at ≤ length s
        → refill_of s n v (seen s (shifted c)) ≡ value v (seen s (widened n (shifted c))))
        → refill_of s (suc n) v (seen s c) ≡ value v (seen s (widened (suc n) c))
    go true e r =
        let j : Inside s (widened n (shifted c)) = rw e at i in
        let k : (widened n (shifted c)).at ≤ length s = rw e at h in
        let a = at-widened n (shifted c) in
        let m : c.at < length s = omega arith in
        let p = back-shift s c b (back-widened s n (shifted c) b j) in
        rw (e, lt-ltb c.at (length s) m, fed-seen s c p (ltb-true c.range 65536 e)) (r j k)
    go false e r = rw e refl

narrowed-seen : (s cum : List ℕ) (row t v : ℕ) (c : Coder) → narrowed cum row t v (seen s c) ≡ seen s (placed cum row t v c)
narrowed-seen s cum row t v c =
    let f : ℕ → Coder = λ x.
    record { low = x; range = t * (get_or cum (row + (v + 1)) 0 - get_or cum (row + v) 0); at = c.at; taken = c.taken + 1 } in
    let e : front_of s c.at - c.low - t * get_or cum (row + v) 0 ≡ front_of s c.at - (c.low + t * get_or cum (row + v) 0) =
    omega arith in
    ap f e

-- the symbol written is the symbol read: cause 4 is not reached
pub symbol-seen : {cum : List ℕ} {row last : ℕ} (s : List ℕ) (v : ℕ) (c : Coder) → Bytes s → Row cum row last → v ≤ last
    → Inside s (coded cum row v c) → (coded cum row v c).at ≤ length s
    → symbol_of s cum row last (seen s c) ≡ value v (seen s (coded cum row v c))
unfolding symbol_of taken_of coded
symbol-seen {cum} {row} {last} s v c b w h i k =
    let t : ℕ = c.range / 1024 in
    let d : Coder = placed cum row t v c in
    let p : Inside s d = back-widened s 2 d b i in
    let q = part_in v c.range w h in
    let e = q.0 in
    let f = p.from in
    let g = p.to in
    let m : t * get_or cum (row + (v + 1)) 0 ≤ t * 1024 = mul-le-mul_left t (row_below w (omega arith)) in
    let low : ℕ = front_of s c.at - c.low in
    let n : low < t * 1024 = omega arith in
    let o : t * get_or cum (row + v) 0 ≤ low = omega arith in
    let found : largest cum row t low last ≡ v = largest-is t low v last w o h (le_refl last) (λ z. omega arith) in
    rw (lt-leb (t * 1024) low n, found, narrowed-seen s cum row t v c) (refill-seen s 2 v d b i k)
