-- A shift of the stream: the byte put out, the number kept below 1, and the definition's own shift. Assumes nothing.
use mathlib.Core.Path.{◌≡◌, refl, sym, ap, subst, ◌∙◌}
use mathlib.Core.List.{List}
use Prim.Native.Nat.{ℕ, zero, suc, ◌+◌, ◌-◌, ◌*◌, ◌/◌, ◌%◌, ◌^◌, ◌≤◌, ◌<◌}
use native.Mathlib.Omega.{arith}
use lib.ListN.{length, get_or, set, replicate, length-set, length-replicate}
use lib.Seq.{get_or-set_same, get_or-set_other}
use borrow.Author.Tests.{lt-ltb, le-ltb}
use Rattle.frame_coder.specs.declared.Coder.{Coder}
use Rattle.writer_laws.specs.Stream.{send_start, shifted, widened, front_of, whole_of}
use Rattle.writer_steps.specs.Flow.{Below1, Streams, Flows}
use Rattle.writer_stream.proofs.Carrying.{front-set-past, weight-more}

-- a byte more behind the first k
pub front-more : (l : List ℕ) (k v : ℕ) → k < length l → front_of (set l k v) (suc k) ≡ front_of l k * 256 + v
unfolding front_of
front-more l k v h =
    let a = front-set-past l k v k (omega arith) in
    let b = get_or-set_same l k v 0 h in
    omega arith

-- the code's shift: the highest byte of low is put out
abbrev pub put_out : Coder → Coder
put_out c = record { low = c.low % 65536 * 256; range = c.range * 256; at = c.at + 1; taken = c.taken }

-- it is the definition's
pub put-out-is : (l : List ℕ) (c : Coder) → c.at - 3 < length l → 3 ≤ c.at
    → whole_of (set l (c.at - 3) (c.low / 65536)) (put_out c) ≡ shifted (whole_of l c)
put-out-is l c h k =
    let f : ℕ → Coder = λ x. record { low = x; range = c.range * 256; at = c.at + 1; taken = c.taken } in
    let b : ℕ = c.low / 65536 in
    let z : c.at + 1 - 3 ≡ suc (c.at - 3) = omega arith in
    let e : front_of (set l (c.at - 3) b) (c.at + 1 - 3) ≡ front_of l (c.at - 3) * 256 + b =
    ap (front_of (set l (c.at - 3) b)) z ∙ front-more l (c.at - 3) b h in
    let g : front_of (set l (c.at - 3) b) (c.at + 1 - 3) * 16777216 + c.low % 65536 * 256
    ≡ (front_of l (c.at - 3) * 16777216 + c.low) * 256 = omega arith in
    ap f g

below-shift : (c : Coder) → 3 ≤ c.at → Below1 c → Below1 (shifted c)
below-shift c h b =
    let z : c.at + 1 - 3 ≡ c.at - 3 + 1 = omega arith in
    let w : 2 ^ (8 * (c.at + 1 - 3)) ≡ 2 ^ (8 * (c.at - 3)) * 256 = ap (λ (x : ℕ). 2 ^ (8 * x)) z ∙ weight-more (c.at - 3) in
    rw w (omega arith)

pub streams-shift : (l : List ℕ) (c : Coder) → Streams 64 l c → c.range < 65536 → c.at ≤ 513
    → Streams 64 (set l (c.at - 3) (c.low / 65536)) (put_out c)
streams-shift l c s r e =
    let b : ℕ = c.low / 65536 in
    let m = s.room in
    let k = s.at in
    let w = s.wide in
    let u = s.low in
    let i : c.at - 3 < length l = omega arith in
    record {
      room = length-set l (c.at - 3) b ∙ m;
      low = omega arith;
      wide = omega arith;
      range = omega arith;
      at = omega arith;
      below = subst Below1 (sym (put-out-is l c i k)) (below-shift (whole_of l c) k s.below);
      fresh = λ j q. get_or-set_other l (c.at - 3) j b 0 (λ (x : j ≡ c.at - 3). omega arith) ∙ s.fresh j (omega arith);
    }

-- a shift less is still to make
pub widened_more : (n : ℕ) (c : Coder) → 0 < n → c.range < 65536 → widened (n - 1) (shifted c) ≡ widened n c
unfolding widened
widened_more zero c h r = absurd (omega arith)
widened_more (suc n) c h r = let p : suc n - 1 ≡ n = omega arith in rw (p, lt-ltb c.range 65536 r) refl

-- a wide range stays
pub widened-wide : (n : ℕ) (c : Coder) → 65536 ≤ c.range → widened n c ≡ c
unfolding widened
widened-wide zero c r = refl
widened-wide (suc n) c r = rw (le-ltb c.range 65536 r) refl

-- bytes of 0 alone, and no more behind them
zeros : (n i : ℕ) → get_or {A = ℕ} (replicate n 0) i 0 ≡ 0
zeros zero i = refl
zeros (suc n) zero = refl
zeros (suc n) (suc i) = zeros n i

-- the stream before its first symbol
pub start-flows : (l : List ℕ) → l ≡ replicate 512 0 → Flows l send_start
unfolding front_of
start-flows l e =
    record {
      room = ap length e ∙ length-replicate {A = ℕ} 512 0;
      low = omega arith;
      wide = omega arith;
      range = omega arith;
      at = omega arith;
      below = omega arith;
      fresh = λ i h. ap (λ (m : List ℕ). get_or m i 0) e ∙ zeros 512 i;
    }

-- stream c, of which n shifts at most are still to make, on the way from stream d
pub record Widening (m : List ℕ) (d : Coder) (l : List ℕ) (c : Coder) (n : ℕ) : Type 0 where
  pub streams : Streams 64 l c
  pub room : length l ≡ length m
  pub from : d.at ≤ 512
  pub count : c.at + n ≡ d.at + 2
  pub one : 16384 ≤ c.range + 16384 * (n - 1)
  pub two : 65536 ≤ c.range + 65536 * n
  pub rest : widened n (whole_of l c) ≡ widened 2 (whole_of m d)

pub widening-first : (l : List ℕ) (c : Coder) → Streams 64 l c → c.at ≤ 512 → Widening l c l c 2
widening-first l c s h =
    let w = s.wide in
    record { streams = s; room = refl; from = h; count = omega arith; one = omega arith; two = omega arith; rest = refl }

-- a narrow range has a shift to make
pub widening-more : {m : List ℕ} {d : Coder} {l : List ℕ} {c : Coder} {n : ℕ} → Widening m d l c n → c.range < 65536 → 0 < n
widening-more {n = zero} w h = let t = w.two in absurd (omega arith)
widening-more {n = suc n} w h = omega arith

pub widening-room : {m : List ℕ} {d : Coder} {l : List ℕ} {c : Coder} {n : ℕ} → Widening m d l c n → c.range < 65536 → c.at - 3 < length l
widening-room w h =
    let p = widening-more w h in
    let a = w.count in
    let f = w.from in
    let r = w.streams.room in
    omega arith

pub widening-next : {m : List ℕ} {d : Coder} {l : List ℕ} {c : Coder} {n : ℕ} → Widening m d l c n → c.range < 65536
    → Widening m d (set l (c.at - 3) (c.low / 65536)) (put_out c) (n - 1)
widening-next {m} {d} {l} {c} {n} w h =
    let p = widening-more w h in
    let i = widening-room w h in
    let a = w.count in
    let f = w.from in
    let t = w.two in
    let o = w.one in
    let u = w.streams.wide in
    record {
      streams = streams-shift l c w.streams h (omega arith);
      room = length-set l (c.at - 3) (c.low / 65536) ∙ w.room;
      from = f;
      count = omega arith;
      one = omega arith;
      two = omega arith;
      rest = ap (widened (n - 1)) (put-out-is l c i w.streams.at) ∙ widened_more n (whole_of l c) p h ∙ w.rest;
    }

pub widening-last : {m : List ℕ} {d : Coder} {l : List ℕ} {c : Coder} {n : ℕ} → Widening m d l c n → 65536 ≤ c.range
    → (whole_of l c ≡ widened 2 (whole_of m d)) × Flows l c × (c.at ≤ d.at + 2)
widening-last {m} {d} {l} {c} {n} w h =
    let a = w.count in
    let s = w.streams in (
      sym (widened-wide n (whole_of l c) h) ∙ w.rest,
      record { room = s.room; low = s.low; wide = h; range = s.range; at = s.at; below = s.below; fresh = s.fresh },
      omega arith,
    )
