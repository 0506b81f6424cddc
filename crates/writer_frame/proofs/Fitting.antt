-- The whole frame: the bits left behind both streams, the residual bits sent, and the bytes. Assumes nothing.
use mathlib.Core.Path.{◌≡◌, refl, sym, ap₂, ◌∙◌}
use mathlib.Core.Bool.{Bool, true, false, cond}
use Rattle.std.specs.Prelude.{Some, None, Result, Ok, Err}
use Rattle.std.specs.Result.{result_ok}
use mathlib.Core.List.{List, ◌++◌}
use Prim.Native.Nat.{ℕ, ◌+◌, ◌-◌, ◌*◌, ◌≤◌, ◌<◌, min}
use native.Mathlib.Omega.{arith}
use lib.Dec.{ltb}
use lib.ListN.{length, take}
use borrow.Author.Tests.{ltb-true, ltb-false}
use Rattle.frame_bits.specs.Read.{Read, value, cause}
use Rattle.frame_coder.specs.declared.Coder.{Coder}
use Rattle.frame_residual.specs.Residual.{used_bits, left_of, left_given}
use Rattle.frame_settings.specs.declared.Setting.{Setting}
use Rattle.refusals.specs.declared.Cause.{Cause}
use Rattle.writer_laws.specs.SideBits.{number_of}
use Rattle.writer_laws.specs.Ending.{frame_number, digits}
use Rattle.writer_laws.specs.Writing.{Given, bits_before, needed_bits, sent_of, bytes_of}
use Rattle.writer_laws.proofs.Parts.{sent-most}
use Rattle.writer_steps.specs.Frames.{Writable, StreamsAre, Rest, RestIs, FrameIs}
use Rattle.writer_steps.specs.declared.PairsSent.{PairsSent}
use Rattle.writer_frame.proofs.Asked.{asked}

-- what an answer says of the bits used
abbrev Says : ℕ → ℕ → Result ℕ Cause → Type 0
Says all used (Ok k) = (used ≤ all) × (k ≡ all - used)
Says all used (Err why) = all < used

-- what it says where it is the definition's
abbrev IsLeft : ℕ → ℕ → Read ℕ ℕ → Type 0
IsLeft all used (value k p) = (used ≤ all) × (k ≡ all - used)
IsLeft all used (cause k) = all < used

left_is : (all used p : ℕ) → IsLeft all used (cond (ltb all used) (cause 7) (value (all - used) p))
left_is all used p = go (ltb all used) refl
  where
    go : (t : Bool) → ltb all used ≡ t → IsLeft all used (cond t (cause 7) (value (all - used) p))
    go true e = ltb-true all used e
    go false e = (ltb-false all used e, refl)

left-says : (n p : ℕ) (c : Coder) (o : Result ℕ Cause) → left_given o p ≡ left_of n p c → Says (8 * n) (used_bits p c) o
unfolding left_of
left-says n p c (Ok k) e = rw (sym e) at (left_is (8 * n) (used_bits p c) p)
left-says n p c (Err why) e = rw (sym e) at (left_is (8 * n) (used_bits p c) p)

least-is : (k count : ℕ) → min k count ≡ cond (ltb k count) k count
least-is k count = go (ltb k count) refl
  where
    go : (t : Bool) → ltb k count ≡ t → min k count ≡ cond t k count
    go true e = let h = ltb-true k count e in omega arith
    go false e = let h = ltb-false k count e in omega arith

-- both streams of a frame of n bytes behind the last pair
module _ {r : Setting} {n : ℕ} {g : Given} {front side : List ℕ} (e : PairsSent) (w : Writable r n g)
    (s : StreamsAre r n g front side (Some e)) where
  used-is : used_bits e.side.at e.coder ≡ needed_bits r n g
  unfolding needed_bits
  used-is = ap₂ (λ (k : ℕ) (d : Coder). used_bits k d) s.1.at s.0

  -- what the count of the bits asks
  pub counted : (e.side.at ≤ 8 * n + 23) × (e.coder.at ≤ n)
  counted =
      let a = (asked w).long in
      let k = s.1.at in
      let m = s.3 in
      let t = s.2.flows.at in
      (omega arith, omega arith)

  -- no bit is left
  pub none_left : (o : Result ℕ Cause) → left_given o e.side.at ≡ left_of n e.side.at e.coder → result_ok o ≡ None
      → 8 * n < needed_bits r n g
  none_left (Ok k) f i = cc
  none_left (Err why) f i = rw used-is at (left-says n e.side.at e.coder (Err why) f)

  -- so many are left
  pub some_left : (o : Result ℕ Cause) (k : ℕ) → left_given o e.side.at ≡ left_of n e.side.at e.coder → result_ok o ≡ Some k
      → (needed_bits r n g ≤ 8 * n) × (k ≡ 8 * n - needed_bits r n g)
  some_left (Ok x) k f i =
      let same : x ≡ k = cc in
      let s = rw used-is at (left-says n e.side.at e.coder (Ok x) f) in
      (s.0, sym same ∙ s.1)
  some_left (Err why) k f i = cc

  -- the residual bits sent: those left, or all
  pub sent_is : (k count sent : ℕ) → k ≡ 8 * n - needed_bits r n g → count ≡ g.fields.residual_bits → sent ≡ min k count
      → sent ≡ sent_of r n g
  unfolding sent_of
  sent_is k count sent i j h = rw (← i, ← j) (h ∙ least-is k count)

  -- what the rest is written from
  pub rest : (sent : ℕ) → needed_bits r n g ≤ 8 * n → sent ≡ sent_of r n g → Rest front side n e.coder e.side sent g.residual
  rest sent h i =
      let a = asked w in
      let b = sent-most r n g in
      let b0 = b.0 in
      let b1 = b.1 in
      let k = a.count in
      let u = used-is in
      record {
        sends = s.2;
        before = bits_before r g;
        kept = s.1;
        most = w.most;
        inside = omega arith;
        binary = λ i l. a.binary i;
        room = omega arith;
      }

  -- and the frame
  pub frame_is : (sent : ℕ) (frame' : List ℕ) → sent ≡ sent_of r n g → RestIs front side n e.coder e.side sent g.residual frame'
      → frame' ≡ bytes_of r n g
  unfolding bytes_of
  frame_is sent frame' i f =
      f (bits_before r g) s.1
      ∙ ap₂ (λ (d : Coder) (k : ℕ). digits n (frame_number n d (number_of (bits_before r g ++ take k g.residual)))) s.0 i

-- the frame was written
pub frame-sent : (r : Setting) (g : Given) (frame frame' : List ℕ) (k : ℕ) → needed_bits r (length frame) g ≤ 8 * length frame
    → k ≡ sent_of r (length frame) g → frame' ≡ bytes_of r (length frame) g → FrameIs r g frame frame' (Some k)
frame-sent r g frame frame' k a b c = (a, b, c)
