-- What the loop over the pairs asks: both streams behind so many pairs, and a pair more. Assumes nothing.
use mathlib.Core.Path.{◌≡◌, sym, ap, ◌∙◌}
use mathlib.Core.List.{List, ◌++◌}
use Prim.Native.Nat.{ℕ, ◌+◌, ◌-◌, ◌*◌, ◌≤◌, ◌<◌}
use native.Mathlib.Omega.{arith}
use lib.ListN.{length, length-append}
use lib.IntN.{ℤ}
use Rattle.frame_coder.specs.declared.Coder.{Coder}
use Rattle.frame_pairs.specs.Pairs.{base_of}
use Rattle.frame_pairs.specs.declared.PairSetting.{PairSetting}
use Rattle.writer_laws.specs.Stream.{coded_all, whole_of}
use Rattle.writer_laws.specs.Pair.{pair_items, pair_bits}
use Rattle.writer_laws.specs.Pairs.{line_at, context_behind, pairs_items, pairs_bits}
use Rattle.writer_laws.proofs.Streams.{at_all}
use Rattle.writer_laws.proofs.Levels.{pairs-append, pairs-snoc, pairs-more, pairs-done}
use Rattle.writer_pair.proofs.Walking.{puts_none, puts-as, puts-append}
use Rattle.writer_steps.specs.Cursors.{Puts}
use Rattle.writer_steps.specs.Sends.{Sends, Sent}
use Rattle.writer_steps.specs.declared.Cursor.{Cursor}

-- both streams behind k of n pairs: what is left to write makes the whole, and the frame has room for what is written
pub record Going (look cum : List ℕ) (o : PairSetting) (xs : List ℤ) (n bytes : ℕ) (front₀ side₀ : List ℕ) (c₀ : Coder) (p₀ : Cursor)
    (front side : List ℕ) (c : Coder) (p : Cursor) (context k : ℕ) : Type 0 where
  pub few : k ≤ n
  pub low : context < 256
  pub rest : coded_all (pairs_items look cum o xs (n - k) k context) (whole_of front c)
      ≡ coded_all (pairs_items look cum o xs n 0 0) (whole_of front₀ c₀)
  pub kept : Puts (pairs_bits xs k 0) side₀ side p₀ p
  pub written : p.at ≡ p₀.at + length (pairs_bits xs k 0)
  pub sends : Sends 403 (c₀.taken + 14 * k) 3200 front side c p
  pub room : 0 < k → 8 * (c.at - 3) + 2 + p.at ≤ 8 * bytes

pub going-first : (look cum : List ℕ) (o : PairSetting) (xs : List ℤ) (n bytes : ℕ) (front₀ side₀ : List ℕ) (c₀ : Coder) (p₀ : Cursor)
    → Sends 39 18 74 front₀ side₀ c₀ p₀ → Going look cum o xs n bytes front₀ side₀ c₀ p₀ front₀ side₀ c₀ p₀ 0 0
unfolding pairs_bits
going-first look cum o xs n bytes front₀ side₀ c₀ p₀ s =
    let z : n - 0 ≡ n = omega arith in
    let a = s.at in
    let w = s.written in
    record {
      few = omega arith;
      low = omega arith;
      rest = rw z;
      kept = puts_none side₀ p₀;
      written = omega arith;
      sends = record { flows = s.flows; sides = s.sides; at = omega arith; taken = omega arith; written = omega arith };
      room = λ h. absurd (omega arith);
    }

module _ {look cum : List ℕ} {o : PairSetting} {xs : List ℤ} {n bytes : ℕ} {front₀ side₀ : List ℕ} {c₀ : Coder} {p₀ : Cursor}
    {front side : List ℕ} {c : Coder} {p : Cursor} {context k : ℕ}
    (g : Going look cum o xs n bytes front₀ side₀ c₀ p₀ front side c p context k) where
  -- room for a pair
  pub going-wide : c₀.taken ≤ 18 → n ≤ 200 → Sends 480 32768 3500 front side c p
  going-wide t m =
      let few = g.few in
      let s = g.sends in
      let a = s.at in
      let b = s.taken in
      let w = s.written in
      record { flows = s.flows; sides = s.sides; at = omega arith; taken = omega arith; written = omega arith }

  -- the last pair
  pub going-last : 1 ≤ n → n ≤ k → c₀.taken ≤ 18 → n ≤ 200
      → Sent (pairs_items look cum o xs n 0 0) (pairs_bits xs n 0) front₀ front side₀ side c₀ c p₀ p × Sends 403 2818 3200 front side c p
      × (8 * (c.at - 3) + 2 + p.at ≤ 8 * bytes)
  going-last h e t m =
      let few = g.few in
      let same : k ≡ n = omega arith in
      let s = g.sends in
      let b = s.taken in
      let bits : pairs_bits xs k 0 ≡ pairs_bits xs n 0 = ap (λ (j : ℕ). pairs_bits xs j 0) same in (
        record {
          coder = sym (pairs-done look cum o xs n k context (whole_of front c) e) ∙ g.rest;
          kept = puts-as bits g.kept;
          length = g.written ∙ ap (λ (l : List ℕ). p₀.at + length l) bits;
        },
        record { flows = s.flows; sides = s.sides; at = s.at; taken = omega arith; written = s.written },
        g.room (omega arith),
      )

  -- a pair more
  module _ (base : ℕ) (u v : ℤ) (front' side' : List ℕ) (d : Coder) (q : Cursor) (next : ℕ) (more : k < n)
      (isbase : base ≡ base_of context o.offset o.half (2 * k)) (isu : u ≡ line_at xs (2 * k)) (isv : v ≡ line_at xs (2 * k + 1))
      (isnext : next ≡ context_behind context u v)
      (sent : Sent (pair_items look cum base u v) (pair_bits u v) front front' side side' c d p q) where
    more-rest : coded_all (pairs_items look cum o xs (n - (k + 1)) (k + 1) next) (whole_of front' d)
        ≡ coded_all (pairs_items look cum o xs n 0 0) (whole_of front₀ c₀)
    more-rest = rw (isnext, sent.coder, isbase, isu, isv) (pairs-more look cum o xs n k context (whole_of front c) more ∙ g.rest)

    more-bits : pairs_bits xs k 0 ++ pair_bits u v ≡ pairs_bits xs (k + 1) 0
    more-bits = rw (isu, isv) (pairs-snoc xs k)

    more-written : q.at ≡ p₀.at + length (pairs_bits xs (k + 1) 0)
    more-written =
        let a = sent.length in
        let b = g.written in
        let l = length-append (pairs_bits xs k 0) (pair_bits u v) in
        let m = ap length more-bits in
        omega arith

    pub going_more : bytes ≤ 400 → next < 256 → Sends (c.at + 28) (c.taken + 14) (p.at + 28) front' side' d q
        → 8 * (d.at - 3) + 2 + q.at ≤ 8 * bytes → Going look cum o xs n bytes front₀ side₀ c₀ p₀ front' side' d q next (k + 1)
    going_more h l s r =
        let t = s.taken in
        let i = g.sends.taken in
        record {
          few = omega arith;
          low = l;
          rest = more-rest;
          kept = puts-as more-bits (puts-append (pairs_bits xs k 0) (pair_bits u v) g.kept sent.kept);
          written = more-written;
          sends = record { flows = s.flows; sides = s.sides; at = omega arith; taken = omega arith; written = omega arith };
          room = λ z. r;
        }

    -- what is still to come makes no stream shorter
    pub going-small : 8 * bytes < 8 * (d.at - 3) + 2 + q.at
        → 8 * bytes
        < 8 * ((coded_all (pairs_items look cum o xs n 0 0) (whole_of front₀ c₀)).at - 3) + 2 + (p₀.at + length (pairs_bits xs n 0))
    going-small h =
        let m : ℕ = n - (k + 1) in
        let a = at_all (pairs_items look cum o xs m (k + 1) next) (whole_of front' d) in
        let b = ap (λ (z : Coder). z.at) more-rest in
        let e : k + 1 + m ≡ n = omega arith in
        let whole : pairs_bits xs (k + 1 + m) 0 ≡ pairs_bits xs (k + 1) 0 ++ pairs_bits xs m (0 + (k + 1)) =
        pairs-append xs (k + 1) m 0 in
        let l = length-append (pairs_bits xs (k + 1) 0) (pairs_bits xs m (0 + (k + 1))) in
        let w : length (pairs_bits xs n 0) ≡ length (pairs_bits xs (k + 1) 0 ++ pairs_bits xs m (0 + (k + 1))) =
        ap (λ (j : ℕ). length (pairs_bits xs j 0)) (sym e) ∙ ap length whole in
        let i = more-written in
        omega arith
