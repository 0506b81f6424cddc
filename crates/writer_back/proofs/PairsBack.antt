-- Pairs of lines read back: side bits that the frame carries, the escapes of a pair, a pair with its signs, and all pairs in turn.
-- Over LSB mode 0. Assumes nothing.
use mathlib.Core.Path.{◌≡◌, refl, sym, ap, subst, ◌∙◌}
use mathlib.Core.Bool.{Bool, true, false, cond}
use mathlib.Core.List.{List, [], ◌∷◌, ◌++◌}
use Prim.Native.Nat.{ℕ, zero, suc, ◌+◌, ◌-◌, ◌*◌, ◌/◌, ◌%◌, ◌^◌, ◌≤◌, ◌<◌}
use native.Mathlib.Omega.{arith}
use native.Mathlib.Nat.{add-zero, add_comm, le_trans, mod-one, mod-add-div'}
use lib.Dec.{ltb, leb}
use lib.ListN.{length, get_or, set, length-set, length-append}
use lib.Seq.{get_or-set_same, get_or-set_other}
use lib.IntN.{ℤ, pos, negsuc, nat_abs}
use lib.Pow.{mod-pow-add}
use borrow.Author.Tests.{lt-ltb, ltb-true, ltb-false, leb-true}
use Rattle.coder_tables.specs.Rows.{Row, SpectrumTables}
use Rattle.frame_bits.specs.Read.{value}
use Rattle.frame_bits.specs.Bits.{bit_of, read_bit}
use Rattle.frame_bits.proofs.SideBits.{bit-inside}
use Rattle.frame_coder.specs.declared.Coder.{Coder}
use Rattle.frame_pair.specs.Pair.{capped, row_of, plane_of, last_of, sign_of, context_of, pair_of}
use Rattle.frame_pair.specs.declared.Last.{Last}
use Rattle.frame_pair.specs.declared.Pair.{Pair}
use Rattle.frame_pair.proofs.Escaping.{plane-both, row_at, capped_le, weight, sign-none, sign-some, pair-signed, signed-read}
use Rattle.frame_pairs.specs.Pairs.{base_of, line_of, pairs_of}
use Rattle.frame_pairs.specs.Sound.{Small}
use Rattle.frame_pairs.specs.declared.PairSetting.{PairSetting}
use Rattle.writer_laws.specs.Stream.{Item, coded, coded_all}
use Rattle.writer_laws.specs.Pair.{level_of, walk_items, walk_bits, sign_bits, symbol_at, pair_items, pair_bits}
use Rattle.writer_laws.specs.Pairs.{line_at, context_behind, pairs_items, pairs_bits}
use Rattle.writer_laws.proofs.Streams.{Fit, fit_append, coded-append, at_all}
use Rattle.writer_laws.proofs.Levels.{level_in, symbol-parts, walk-length, bits-length}
use Rattle.writer_back.proofs.Inside.{Bytes, Inside, seen, back-all, symbol-seen}

-- ---- side bits

-- the side stream has these bits from p on
abbrev pub Carries : List ℕ → ℕ → List ℕ → Type 0
Carries s p [] = Unit {0}
Carries s p (b ∷ l) = (bit_of s p ≡ b) × Carries s (p + 1) l

pub carries-append : (s : List ℕ) (p : ℕ) (l m : List ℕ) → Carries s p (l ++ m) → Carries s p l × Carries s (p + length l) m
carries-append s p [] m h = (tt, subst (λ (x : ℕ). Carries s x m) (sym (add-zero p)) h)
carries-append s p (b ∷ l) m h =
    let r = carries-append s (p + 1) l m h.1 in
    let e : p + 1 + length l ≡ p + suc (length l) = omega arith in
    ((h.0, r.0), subst (λ (x : ℕ). Carries s x m) e r.1)

bit-read : (s : List ℕ) (p b : ℕ) → p < 8 * length s → bit_of s p ≡ b → read_bit s p ≡ value b (p + 1)
bit-read s p b h e = bit-inside s p h ∙ ap (λ (x : ℕ). value x (p + 1)) e

-- ---- the level

-- a bit more of a number's low bits
pub low-more : (x i : ℕ) → x % 2 ^ i + x / 2 ^ i % 2 * 2 ^ i ≡ x % 2 ^ suc i
low-more x i =
    let e : 1 + i ≡ suc i = omega arith in
    add_comm (x % 2 ^ i) (x / 2 ^ i % 2 * 2 ^ i) ∙ sym (mod-pow-add x 1 i) ∙ ap (λ (k : ℕ). x % 2 ^ k) e

-- ---- the escapes

-- an escape's two bits
pub plane-back : (s l : List ℕ) (p a b level x y : ℕ) → Carries s p (a ∷ b ∷ l) → p + 1 + 1 ≤ 8 * length s
    → plane_of s 0 level x y p ≡ value (record { x = x + a * 2 ^ level; y = y + b * 2 ^ level }) (p + 1 + 1)
plane-back s l p a b level x y h k =
    plane-both s 0 level x y p a (p + 1) b (p + 1 + 1) (x + a * 2 ^ level) (y + b * 2 ^ level) (omega arith)
    (bit-read s p a (omega arith) h.0) (bit-read s (p + 1) b (omega arith) h.1.0) refl refl

module _ (look cum : List ℕ) (tables : SpectrumTables look cum) (base : ℕ) (low : base < 1024) where
  row_here : (level : ℕ) → Row cum (row_of look base level) 16
  row_here level = row_at look cum base level (row_of look base level) tables low refl

  pub walk-fit : (v m level : ℕ) → v ≤ 16 → Fit (walk_items look cum base v m level)
  unfolding walk_items
  walk-fit v zero level h = ((row_here level, h), tt)
  walk-fit v (suc m) level h = ((row_here level, omega arith), walk-fit v m (suc level) h)

  -- m escapes and the symbol v behind them; q and l are where both end
  pub walk-back : (s : List ℕ) → Bytes s → (x y v l q m level n : ℕ) (c : Coder) (p : ℕ) → level + m ≡ l → p + 2 * m ≡ q → m ≤ n → v < 16
      → Carries s p (walk_bits x y m level) → q ≤ 8 * length s
      → Inside s (coded_all (walk_items look cum base v m level) c) → (coded_all (walk_items look cum base v m level) c).at ≤ length s
      → last_of s look cum 0 base (suc n) level (x % 2 ^ level) (y % 2 ^ level) (seen s c) p
      ≡ value (record { symbol = v; x = x % 2 ^ l; y = y % 2 ^ l; level = l })
      (record { coder = seen s (coded_all (walk_items look cum base v m level) c); side = q })
  unfolding walk_items walk_bits coded_all last_of
  walk-back s b x y v l q zero level n c p e f g h w u i k =
      let d : level ≡ l = omega arith in
      let z : p ≡ q = omega arith in
      rw (← d, ← z, symbol-seen s v c b (row_here level) (omega arith) i k, lt-ltb v 16 h) refl
  walk-back s b x y v l q (suc m) level zero c p e f g h w u i k = absurd (omega arith)
  walk-back s b x y v l q (suc m) level (suc n) c p e f g h w u i k =
      let d : Coder = coded cum (row_of look base level) 16 c in
      let rest : List Item = walk_items look cum base v m (suc level) in
      let j : Inside s d = back-all s rest d b (walk-fit v m (suc level) (omega arith)) i in
      let r : d.at ≤ length s = le_trans (at_all rest d) k in
      let plane = plane-back s (walk_bits x y m (suc level)) p (x / 2 ^ level % 2) (y / 2 ^ level % 2) level (x % 2 ^ level)
      (y % 2 ^ level) w (omega arith) in
      let again = walk-back s b x y v l q m (suc level) n d (p + 1 + 1) (omega arith) (omega arith) (omega arith) h w.1.1 u i k in
      rw (symbol-seen s 16 c b (row_here level) (omega arith) j r, plane, low-more x level, low-more y level) again

-- ---- the signs

-- a line's sign bit as it is read: 0 of a line that is 0
abbrev pub sign_of_z : ℤ → ℕ
sign_of_z (pos n) = 0
sign_of_z (negsuc n) = 1

pub sign-back : (s : List ℕ) (u : ℤ) (p : ℕ) → Carries s p (sign_bits u) → p + length (sign_bits u) ≤ 8 * length s
    → sign_of s (nat_abs u) p ≡ value (sign_of_z u) (p + length (sign_bits u))
sign-back s (pos zero) p h k = rw (add-zero p) (sign-none s 0 p refl)
sign-back s (pos (suc n)) p h k = sign-some s (suc n) p (λ e. omega arith) ∙ bit-read s p 0 (omega arith) h.0
sign-back s (negsuc n) p h k = sign-some s (suc n) p (λ e. omega arith) ∙ bit-read s p 1 (omega arith) h.0

pub line-is : (u : ℤ) → line_of (nat_abs u) (sign_of_z u) ≡ u
line-is (pos n) = refl
line-is (negsuc n) = refl

-- ---- one pair

-- a pair's last symbol and its two parts
-- the streams do not cross where both have room: cause 6 is not reached
not-crossed : (n at p : ℕ) → 8 * (at - 3) + 2 + p ≤ 8 * n → at + p / 8 ≤ n + 2
not-crossed n at p h = omega arith

-- what a pair reads as
abbrev pub pair_is : ℕ → ℤ → ℤ → Pair
pair_is context u v = record {
  x = nat_abs u;
  xsign = sign_of_z u;
  y = nat_abs v;
  ysign = sign_of_z v;
  level = level_of (nat_abs u) (nat_abs v);
  context = context_behind context u v;
}

module _ (look cum : List ℕ) (tables : SpectrumTables look cum) (base : ℕ) (low : base < 1024) (u v : ℤ) (hu : nat_abs u ≤ 32767)
    (hv : nat_abs v ≤ 32767) where
  pub pair-fit : Fit (pair_items look cum base u v)
  unfolding pair_items
  pair-fit =
      let x : ℕ = nat_abs u in
      let y : ℕ = nat_abs v in
      let l : ℕ = level_of x y in
      let h = level_in (nat_abs u) (nat_abs v) hu hv in
      let a = h.0 in
      let b = h.1 in
      walk-fit look cum tables base low (symbol_at x y l) l 0 (omega arith)

  pub pair-back : (s : List ℕ) (context : ℕ) (c : Coder) (p : ℕ) → Bytes s → Carries s p (pair_bits u v)
      → Inside s (coded_all (pair_items look cum base u v) c) → (coded_all (pair_items look cum base u v) c).at ≤ length s
      → 8 * ((coded_all (pair_items look cum base u v) c).at - 3) + 2 + (p + length (pair_bits u v)) ≤ 8 * length s
      → pair_of s look cum 0 base context (seen s c) p
      ≡ value (pair_is context u v)
      (record { coder = seen s (coded_all (pair_items look cum base u v) c); side = p + length (pair_bits u v) })
  unfolding pair_items pair_bits
  pair-back s context c p bytes w i k room =
      let x : ℕ = nat_abs u in
      let y : ℕ = nat_abs v in
      let l : ℕ = level_of x y in
      let h = level_in (nat_abs u) (nat_abs v) hu hv in
      let t : ℕ = symbol_at x y l in
      let parts = symbol-parts (x / 2 ^ l) (y / 2 ^ l) h.0 h.1 in
      let n = bits-length u v in
      let q : ℕ = p + 2 * l in
      let m = walk-length x y l 0 in
      let w1 = carries-append s p (walk_bits x y l 0) (sign_bits u ++ sign_bits v) w in
      let f1 : p + length (walk_bits x y l 0) ≡ q = ap (λ (z : ℕ). p + z) m in
      let w2 : Carries s q (sign_bits u ++ sign_bits v) = subst (λ (z : ℕ). Carries s z (sign_bits u ++ sign_bits v)) f1 w1.1 in
      let w3 = carries-append s q (sign_bits u) (sign_bits v) w2 in
      let walk = walk-back look cum tables base low s bytes x y t l q l 0 13 c p (omega arith) refl h.2 parts.2 w1.0 (omega arith)
      i k in
      let walk0 = rw (mod-one x, mod-one y) at walk in
      let e : Coder = coded_all (walk_items look cum base t l 0) c in
      let last : Last = record { symbol = t; x = x % 2 ^ l; y = y % 2 ^ l; level = l } in
      let fx : x ≡ x % 2 ^ l + t % 4 * 2 ^ l = rw parts.0 (sym (mod-add-div' x (2 ^ l))) in
      let fy : y ≡ y % 2 ^ l + t / 4 * 2 ^ l = rw parts.1 (sym (mod-add-div' y (2 ^ l))) in
      let next : context_behind context u v ≡ context_of context (t % 4) (t / 4) l = rw (parts.0, parts.1) refl in
      let su = sign-back s u q w3.0 (omega arith) in
      let sv = sign-back s v (q + length (sign_bits u)) w3.1 (omega arith) in
      let r : ℕ = p + length (pair_bits u v) in
      let g : q + length (sign_bits u) + length (sign_bits v) ≡ r = omega arith in
      let end : sign_of s y (q + length (sign_bits u)) ≡ value (sign_of_z v) r = sv ∙ ap (λ (z : ℕ). value (sign_of_z v) z) g in
      pair-signed s look cum 0 base context (seen s c) p last (seen s e) q x y walk0 fx fy
      ∙ signed-read s context x y last (seen s e) q (sign_of_z u) (q + length (sign_bits u)) (sign_of_z v) r
      (context_behind context u v) su end
      (not-crossed (length s) e.at r room) next

-- ---- all pairs

context-by : (c a b l : ℕ) → a < 4 → b < 4 → l ≤ 3 → (t : Bool) → leb l 1 ≡ t → c % 16 * 16 + cond t (1 + (a + b) * (l + 1)) (12 + l) < 256
context-by c a b l h k m true e =
    let o = leb-true l 1 e in
    let w = weight a b l (omega arith) o in
    omega arith
context-by c a b l h k m false e = omega arith

-- the next context is one of 256
pub context-below : (context : ℕ) (u v : ℤ) → nat_abs u ≤ 32767 → nat_abs v ≤ 32767 → context_behind context u v < 256
context-below context u v h k =
    let x : ℕ = nat_abs u in
    let y : ℕ = nat_abs v in
    let l : ℕ = level_of x y in
    let d = level_in (nat_abs u) (nat_abs v) h k in
    context-by context (x / 2 ^ l) (y / 2 ^ l) (capped l) d.0 d.1 (capped_le l) (leb (capped l) 1) refl

base-by : (context offset : ℕ) (t : Bool) → context < 256 → offset ≤ 512 → context + offset + cond t 256 0 < 1024
base-by context offset true h k = omega arith
base-by context offset false h k = omega arith

base-below : (context : ℕ) (o : PairSetting) (k : ℕ) → context < 256 → o.offset ≤ 512 → base_of context o.offset o.half k < 1024
base-below context o k h m = base-by context o.offset (ltb o.half k) h m

-- the lines as they are stored, pair after pair
unfoldable pub stored_of : List ℤ → ℕ → ℕ → List ℤ → List ℤ
stored_of xs zero k lines = lines
stored_of xs (suc n) k lines =
    stored_of xs n (suc k) (set (set lines (2 * k) (line_at xs (2 * k))) (2 * k + 1) (line_at xs (2 * k + 1)))

-- and the levels
unfoldable pub levels_of : List ℤ → ℕ → ℕ → List ℕ → List ℕ
levels_of xs zero k levels = levels
levels_of xs (suc n) k levels =
    levels_of xs n (suc k) (set levels k (level_of (nat_abs (line_at xs (2 * k))) (nat_abs (line_at xs (2 * k + 1)))))

module _ (look cum : List ℕ) (tables : SpectrumTables look cum) (o : PairSetting) (few : o.offset ≤ 512) (xs : List ℤ)
    (small : Small xs) where
  pub pairs-fit : (n k context : ℕ) → context < 256 → Fit (pairs_items look cum o xs n k context)
  unfolding pairs_items
  pairs-fit zero k context h = tt
  pairs-fit (suc n) k context h =
      let u : ℤ = line_at xs (2 * k) in
      let v : ℤ = line_at xs (2 * k + 1) in
      let base : ℕ = base_of context o.offset o.half (2 * k) in
      let next : ℕ = context_behind context u v in
      let hu : nat_abs u ≤ 32767 = small (2 * k) in
      let hv : nat_abs v ≤ 32767 = small (2 * k + 1) in
      fit_append (pair_items look cum base u v) (pairs_items look cum o xs n (suc k) next)
      (pair-fit look cum tables base (base-below context o (2 * k) h few) u v hu hv)
      (pairs-fit n (suc k) next (context-below context u v hu hv))

  -- the pairs written are the pairs read
  pub pairs-back : (s : List ℕ) → Bytes s → o.lsb ≡ 0 → (n k context : ℕ) (c : Coder) (p : ℕ) (lines : List ℤ) (levels : List ℕ)
      → context < 256 → Carries s p (pairs_bits xs n k) → Inside s (coded_all (pairs_items look cum o xs n k context) c)
      → (coded_all (pairs_items look cum o xs n k context) c).at ≤ length s
      → 8 * ((coded_all (pairs_items look cum o xs n k context) c).at - 3) + 2 + (p + length (pairs_bits xs n k)) ≤ 8 * length s
      → pairs_of s look cum o n k context (seen s c) p lines levels
      ≡ value (record { lines = stored_of xs n k lines; levels = levels_of xs n k levels })
      (record { coder = seen s (coded_all (pairs_items look cum o xs n k context) c); side = p + length (pairs_bits xs n k) })
  unfolding pairs_items pairs_bits pairs_of coded_all stored_of levels_of
  pairs-back s bytes lsb zero k context c p lines levels h w i m room = rw (add-zero p) refl
  pairs-back s bytes lsb (suc n) k context c p lines levels h w i m room =
      let u : ℤ = line_at xs (2 * k) in
      let v : ℤ = line_at xs (2 * k + 1) in
      let base : ℕ = base_of context o.offset o.half (2 * k) in
      let low : base < 1024 = base-below context o (2 * k) h few in
      let next : ℕ = context_behind context u v in
      let hu : nat_abs u ≤ 32767 = small (2 * k) in
      let hv : nat_abs v ≤ 32767 = small (2 * k + 1) in
      let below : next < 256 = context-below context u v hu hv in
      let now : List Item = pair_items look cum base u v in
      let rest : List Item = pairs_items look cum o xs n (suc k) next in
      let d : Coder = coded_all now c in
      let join : coded_all (now ++ rest) c ≡ coded_all rest d = coded-append now rest c in
      let i2 : Inside s (coded_all rest d) = subst (λ (z : Coder). Inside s z) join i in
      let j : (coded_all (now ++ rest) c).at ≡ (coded_all rest d).at = ap (λ (z : Coder). z.at) join in
      let i1 : Inside s d = back-all s rest d bytes (pairs-fit n (suc k) next below) i2 in
      let a = at_all rest d in
      let b : ℕ = length (pair_bits u v) in
      let len : length (pair_bits u v ++ pairs_bits xs n (suc k)) ≡ b + length (pairs_bits xs n (suc k)) =
      length-append (pair_bits u v) (pairs_bits xs n (suc k)) in
      let ws = carries-append s p (pair_bits u v) (pairs_bits xs n (suc k)) w in
      let one = pair-back look cum tables base low u v hu hv s context c p bytes ws.0 i1 (omega arith) (omega arith) in
      let mode = ap (λ (z : ℕ). pair_of s look cum z base context (seen s c) p) lsb in
      let sum : p + b + length (pairs_bits xs n (suc k)) ≡ p + length (pair_bits u v ++ pairs_bits xs n (suc k)) = omega arith in
      let again = pairs-back s bytes lsb n (suc k) next d (p + b)
      (set (set lines (2 * k) u) (2 * k + 1) v) (set levels k (level_of (nat_abs u) (nat_abs v))) below ws.1 i2 (omega arith)
      (omega arith) in
      rw (mode ∙ one, line-is u, line-is v, join, ← sum) again

-- ---- what the stored lines are

pub length-stored : (xs : List ℤ) (n k : ℕ) (lines : List ℤ) → length (stored_of xs n k lines) ≡ length lines
unfolding stored_of
length-stored xs zero k lines = refl
length-stored xs (suc n) k lines =
    let once : List ℤ = set lines (2 * k) (line_at xs (2 * k)) in
    length-stored xs n (suc k) (set once (2 * k + 1) (line_at xs (2 * k + 1)))
    ∙ length-set once (2 * k + 1) (line_at xs (2 * k + 1)) ∙ length-set lines (2 * k) (line_at xs (2 * k))

-- a line of no pair from k on is as before
pub stored_other : (xs : List ℤ) (n k : ℕ) (lines : List ℤ) (i : ℕ) → (2 * k ≤ i → i < 2 * (k + n) → ⊥)
    → get_or (stored_of xs n k lines) i (pos 0) ≡ get_or lines i (pos 0)
unfolding stored_of
stored_other xs zero k lines i h = refl
stored_other xs (suc n) k lines i h =
    let once : List ℤ = set lines (2 * k) (line_at xs (2 * k)) in
    let out : 2 * k ≤ i → i < 2 * k + 2 → ⊥ = λ a b. h a (omega arith) in
    stored_other xs n (suc k) (set once (2 * k + 1) (line_at xs (2 * k + 1))) i (λ a b. h (omega arith) (omega arith))
    ∙ get_or-set_other once (2 * k + 1) i (line_at xs (2 * k + 1)) (pos 0) (λ e. absurd (out (omega arith) (omega arith)))
    ∙ get_or-set_other lines (2 * k) i (line_at xs (2 * k)) (pos 0) (λ e. absurd (out (omega arith) (omega arith)))

-- a line of the n pairs from k on is the line given
pub stored-line : (xs : List ℤ) (n k : ℕ) (lines : List ℤ) (i : ℕ) → 2 * k ≤ i → i < 2 * (k + n) → i < length lines
    → get_or (stored_of xs n k lines) i (pos 0) ≡ line_at xs i
unfolding stored_of
stored-line xs zero k lines i h m l = absurd (omega arith)
stored-line xs (suc n) k lines i h m l = go (ltb i (2 * k + 1)) (ltb i (2 * k + 2)) refl refl
    (stored-line xs n (suc k) twice i)
  where
    once : List ℤ
    once = set lines (2 * k) (line_at xs (2 * k))

    twice : List ℤ
    twice = set once (2 * k + 1) (line_at xs (2 * k + 1))

    size : length twice ≡ length lines
    size = length-set once (2 * k + 1) (line_at xs (2 * k + 1)) ∙ length-set lines (2 * k) (line_at xs (2 * k))

    go : (t u : Bool) → ltb i (2 * k + 1) ≡ t → ltb i (2 * k + 2) ≡ u
        → (2 * suc k ≤ i → i < 2 * (suc k + n) → i < length twice → get_or (stored_of xs n (suc k) twice) i (pos 0) ≡ line_at xs i)
        → get_or (stored_of xs n (suc k) twice) i (pos 0) ≡ line_at xs i
    go true u e f r =
        let a = ltb-true i (2 * k + 1) e in
        let here : i ≡ 2 * k = omega arith in
        let same = get_or-set_same lines (2 * k) (line_at xs (2 * k)) (pos 0) (omega arith) in
        stored_other xs n (suc k) twice i (λ x y. omega arith)
        ∙ get_or-set_other once (2 * k + 1) i (line_at xs (2 * k + 1)) (pos 0) (λ x. omega arith)
        ∙ ap (λ (j : ℕ). get_or once j (pos 0)) here ∙ same ∙ sym (ap (λ (j : ℕ). line_at xs j) here)
    go false true e f r =
        let a = ltb-false i (2 * k + 1) e in
        let b = ltb-true i (2 * k + 2) f in
        let here : i ≡ 2 * k + 1 = omega arith in
        let z = length-set lines (2 * k) (line_at xs (2 * k)) in
        let same = get_or-set_same once (2 * k + 1) (line_at xs (2 * k + 1)) (pos 0) (omega arith) in
        stored_other xs n (suc k) twice i (λ x y. omega arith)
        ∙ ap (λ (j : ℕ). get_or twice j (pos 0)) here ∙ same ∙ sym (ap (λ (j : ℕ). line_at xs j) here)
    go false false e f r =
        let a = ltb-false i (2 * k + 2) f in
        let z = size in
        r (omega arith) (omega arith) (omega arith)
