-- A symbol placed in the stream: what it takes of the range, the number's bound, and the carry into the bytes put out. Assumes nothing.
use mathlib.Core.Path.{◌≡◌, sym, ap, ap₂, ◌∙◌}
use mathlib.Core.List.{List}
use Prim.Native.Nat.{ℕ, ◌+◌, ◌-◌, ◌*◌, ◌/◌, ◌^◌, ◌≤◌, ◌<◌}
use native.Mathlib.Omega.{arith}
use native.Mathlib.Nat.{le_trans, mul-add, mul-le-mul, mul-le-mul_left, mul-sub}
use lib.ListN.{length, get_or}
use lib.Pow.{pow_pos}
use Rattle.coder_tables.specs.Rows.{Row}
use Rattle.coder_tables.proofs.Rules.{row_below}
use Rattle.frame_coder.specs.declared.Coder.{Coder}
use Rattle.writer_laws.specs.Stream.{placed, front_of, whole_of}
use Rattle.writer_steps.specs.Flow.{Part, Streams, Flows, Carried}

-- each symbol of a row has its part
pub part_of : {cum : List ℕ} {row last : ℕ} (v : ℕ) → Row cum row last → v ≤ last → Part cum row v
part_of v w h =
    let i = w.inside in
    record { inside = omega arith; rises = w.rises v h; most = row_below w (omega arith) }

-- a symbol's part of the range, scaled by t: at least 64, and its upper end is inside
part_in : (t a b r : ℕ) → 64 ≤ t → t * 1024 ≤ r → a < b → b ≤ 1024 → (t * a + 64 ≤ t * b) × (t * b ≤ r)
part_in t a b r h k l m =
    let e : a + (b - a) ≡ b = omega arith in
    let d : t * b ≡ t * a + t * (b - a) = ap (λ (x : ℕ). t * x) (sym e) ∙ mul-add t a (b - a) in
    let o : 1 ≤ b - a = omega arith in
    let s : 64 * 1 ≤ t * (b - a) = mul-le-mul h o in
    (omega arith, le_trans (mul-le-mul_left t m) k)

pub cut : {cum : List ℕ} {row v : ℕ} {l : List ℕ} {c : Coder} (x y : ℕ) → Part cum row v → Flows l c
    → x ≡ get_or cum (row + v) 0 → y ≡ get_or cum (row + (v + 1)) 0
    → (c.range / 1024 * x + 64 ≤ c.range / 1024 * y) × (c.range / 1024 * y ≤ c.range)
cut {cum} {row} {v} {l} {c} x y p f d e =
    let w = f.wide in
    let r = p.rises in
    let m = p.most in
    part_in (c.range / 1024) x y c.range (omega arith) (omega arith) (omega arith) (omega arith)

-- where low reaches 2^24, one more has room in the bytes put out: the number stays below 1
pub carry-room : {l : List ℕ} {c : Coder} (p q : ℕ) → Flows l c → 16777216 ≤ c.low + p → p + 64 ≤ q → q ≤ c.range
    → front_of l (c.at - 3) + 1 < 2 ^ (8 * (c.at - 3))
carry-room {l} {c} p q f h k m =
    let b = f.below in
    let w = pow_pos (8 * (c.at - 3)) in
    omega arith

-- stream d with bytes m, placed from stream c with bytes l
pub record Placing (cum : List ℕ) (row v : ℕ) (l : List ℕ) (c : Coder) (m : List ℕ) (d : Coder) : Type 0 where
  pub streams : Streams 64 m d
  pub whole : whole_of m d ≡ placed cum row (c.range / 1024) v (whole_of l c)

-- the code's low and bytes are the definition's low
placing : {cum : List ℕ} {row v : ℕ} {l : List ℕ} {c : Coder} (m : List ℕ) (low x y : ℕ) → Part cum row v → Flows l c
    → x ≡ get_or cum (row + v) 0 → y ≡ get_or cum (row + (v + 1)) 0 → low < 16777216 → length m ≡ length l
    → front_of m (c.at - 3) * 16777216 + low ≡ front_of l (c.at - 3) * 16777216 + c.low + c.range / 1024 * x
    → ((i : ℕ) → c.at - 3 ≤ i → get_or m i 0 ≡ get_or l i 0)
    → Placing cum row v l c m
    (record { low = low; range = c.range / 1024 * y - c.range / 1024 * x; at = c.at; taken = c.taken + 1 })
placing {cum} {row} {v} {l} {c} m low x y p f d e h n g r =
    let t : ℕ = c.range / 1024 in
    let k : (t * x + 64 ≤ t * y) × (t * y ≤ c.range) = cut x y p f d e in
    let k0 = k.0 in
    let k1 = k.1 in
    let u = f.range in
    let b = f.below in
    let s : t * y - t * x ≡ t * (get_or cum (row + (v + 1)) 0 - get_or cum (row + v) 0) = rw (d, e) (sym (mul-sub t _ _)) in
    let j : ℕ → ℕ → Coder = λ a b. record { low = a; range = b; at = c.at; taken = c.taken + 1 } in
    record {
      streams = record {
        room = n ∙ f.room;
        low = h;
        wide = omega arith;
        range = omega arith;
        at = f.at;
        below = omega arith;
        fresh = λ i q. r i q ∙ f.fresh i q;
      };
      whole = ap₂ j (g ∙ ap (λ (z : ℕ). front_of l (c.at - 3) * 16777216 + c.low + t * z) d) s;
    }

-- without a carry
pub placing-plain : {cum : List ℕ} {row v : ℕ} {l : List ℕ} {c : Coder} (m : List ℕ) (low x y : ℕ) → Part cum row v → Flows l c
    → x ≡ get_or cum (row + v) 0 → y ≡ get_or cum (row + (v + 1)) 0 → c.low + c.range / 1024 * x < 16777216
    → low ≡ c.low + c.range / 1024 * x → m ≡ l
    → Placing cum row v l c m
    (record { low = low; range = c.range / 1024 * y - c.range / 1024 * x; at = c.at; taken = c.taken + 1 })
placing-plain {cum} {row} {v} {l} {c} m low x y p f d e h g q =
    let z : front_of m (c.at - 3) ≡ front_of l (c.at - 3) = ap (λ (s : List ℕ). front_of s (c.at - 3)) q in
    placing m low x y p f d e (omega arith) (ap length q) (omega arith) (λ i r. ap (λ (s : List ℕ). get_or s i 0) q)

-- with a carry
pub placing-carried : {cum : List ℕ} {row v : ℕ} {l : List ℕ} {c : Coder} (m : List ℕ) (low x y : ℕ) → Part cum row v → Flows l c
    → x ≡ get_or cum (row + v) 0 → y ≡ get_or cum (row + (v + 1)) 0 → 16777216 ≤ c.low + c.range / 1024 * x
    → low ≡ c.low + c.range / 1024 * x - 16777216 → Carried (c.at - 3) l m
    → Placing cum row v l c m
    (record { low = low; range = c.range / 1024 * y - c.range / 1024 * x; at = c.at; taken = c.taken + 1 })
placing-carried {cum} {row} {v} {l} {c} m low x y p f d e h g q =
    let t : ℕ = c.range / 1024 in
    let k : (t * x + 64 ≤ t * y) × (t * y ≤ c.range) = cut x y p f d e in
    let k0 = k.0 in
    let k1 = k.1 in
    let u = f.range in
    let w = f.low in
    let z = q.number in
    placing m low x y p f d e (omega arith) q.room (omega arith) q.rest
