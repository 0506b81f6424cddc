-- The frame that is written holds both streams: its front lies in the interval of the symbols, its side bits are those written, and the
-- residual bits sent stand behind them. Assumes nothing.
use mathlib.Core.Path.{◌≡◌, ◌∙◌}
use mathlib.Core.List.{List, ◌++◌}
use Prim.Native.Nat.{ℕ, ◌+◌, ◌-◌, ◌*◌, ◌^◌, ◌≤◌, ◌<◌}
use native.Mathlib.Nat.{zero-add}
use native.Mathlib.Omega.{arith}
use lib.ListN.{length, get_or, take, length-append, get_or-append}
use lib.Pow.{pow_mono}
use lib.Seq.{length-take-le, get_or-append-add, get_or-take}
use Rattle.laws.specs.Tab.{Below}
use Rattle.laws.proofs.Tab.{below-append, below-take}
use Rattle.frame_bits.specs.Bits.{bit_of}
use Rattle.frame_coder.specs.declared.Coder.{Coder}
use Rattle.frame_settings.specs.declared.Setting.{Setting}
use Rattle.writer_laws.specs.Stream.{send_start}
use Rattle.writer_laws.specs.SideBits.{number_of}
use Rattle.writer_laws.specs.Ending.{end_bits, room_of, frame_number, digits}
use Rattle.writer_laws.specs.Writing.{Given, items_of, bits_before, stream_of, needed_bits, sent_of, bytes_of}
use Rattle.writer_laws.proofs.Streams.{Fit, Wide, Bounded, wide-all, below_all}
use Rattle.writer_laws.proofs.Ends.{ends}
use Rattle.writer_laws.proofs.Parts.{room_for, sent-most}
use Rattle.writer_laws.proofs.Digits.{length_digits, below-digits, number_lt, number_bit}
use Rattle.writer_back.proofs.Inside.{Bytes, Inside}
use Rattle.writer_back.proofs.Holds.{inside-frame, side-frame}
use Rattle.writer_back.proofs.PairsBack.{Carries}
use Rattle.writer_back.proofs.Binary.{below-before, carries-of}

-- n bytes that hold what was given: s need not be the frame that is written
pub record Held (s : List ℕ) (r : Setting) (n : ℕ) (g : Given) : Type 0 where
  pub bytes : Bytes s
  pub long : length s ≡ n
  pub inside : Inside s (stream_of r n g)
  pub before : Carries s 0 (bits_before r g)
  pub residual : (i : ℕ) → i < sent_of r n g → bit_of s (length (bits_before r g) + i) ≡ get_or g.residual i 0

-- the streams behind the last symbol
pub stream-bounds : (r : Setting) (n : ℕ) (g : Given) → Fit (items_of r n g) → Wide (stream_of r n g) × Bounded (stream_of r n g)
unfolding stream_of
stream-bounds r n g fit = (
  wide-all (items_of r n g) send_start fit (record { least = omega arith; most = omega arith }),
  below_all (items_of r n g) send_start fit (record { at = omega arith; below = omega arith }),
)

-- a frame of side bits l and m behind them
module _ (n : ℕ) (c : Coder) (l m : List ℕ) (wide : Wide c) (bounded : Bounded c) (at : c.at ≤ n) (bl : Below 2 l) (bm : Below 2 m)
    (room : length l + length m + (8 * (c.at - 3) + end_bits c.low c.range) ≤ 8 * n) where
  side-below : length l + length m ≤ room_of n c
  unfolding room_of
  side-below = omega arith

  side-bit : (i : ℕ) → i < length l + length m → bit_of (digits n (frame_number n c (number_of (l ++ m)))) i ≡ get_or (l ++ m) i 0
  side-bit i h =
      let k = side-below in
      side-frame n c (number_of (l ++ m)) i (omega arith) ∙ number_bit (l ++ m) (below-append 2 l m bl bm) i

  frame-inside : Inside (digits n (frame_number n c (number_of (l ++ m)))) c
  frame-inside =
      let e = length-append l m in
      let k = side-below in
      let p : 2 ^ length (l ++ m) ≤ 2 ^ room_of n c = pow_mono (omega arith) in
      let b = number_lt (l ++ m) (below-append 2 l m bl bm) in
      let i = inside-frame n c (number_of (l ++ m)) wide.least wide.most bounded.at bounded.below at (omega arith)
      (omega arith) in
      record { from = i.0; to = i.1 }

  frame-before : Carries (digits n (frame_number n c (number_of (l ++ m)))) 0 l
  frame-before = carries-of _ 0 l (λ i h. rw (zero-add i) (side-bit i (omega arith) ∙ get_or-append l m 0 i h))

  frame-behind : (i : ℕ) → i < length m → bit_of (digits n (frame_number n c (number_of (l ++ m)))) (length l + i) ≡ get_or m i 0
  frame-behind i h = side-bit (length l + i) (omega arith) ∙ get_or-append-add l m i 0

pub held : (r : Setting) (n : ℕ) (g : Given) → needed_bits r n g ≤ 8 * n → Fit (items_of r n g) → 22 ≤ length (bits_before r g)
    → Below 2 g.residual → g.fields.residual_bits ≤ length g.residual → Held (bytes_of r n g) r n g
unfolding bytes_of needed_bits
held r n g h fit least binary room =
    let c : Coder = stream_of r n g in
    let l : List ℕ = bits_before r g in
    let m : List ℕ = take (sent_of r n g) g.residual in
    let b = stream-bounds r n g fit in
    let wide = b.0 in
    let bounded = b.1 in
    let three = bounded.at in
    let few = (ends c.low c.range wide.least wide.most).few in
    let most = sent-most r n g in
    let most-left = most.0 in
    let most-bits = most.1 in
    let long : length m ≡ sent_of r n g = length-take-le (sent_of r n g) g.residual (omega arith) in
    let free = room_for r n g h in
    let at : c.at ≤ n = omega arith in
    let fits : length l + length m + (8 * (c.at - 3) + end_bits c.low c.range) ≤ 8 * n = omega arith in
    let bl = below-before r g in
    let bm : Below 2 m = below-take 2 (sent_of r n g) g.residual (omega arith) binary in
    record {
      bytes = below-digits n (frame_number n c (number_of (l ++ m)));
      long = length_digits n (frame_number n c (number_of (l ++ m)));
      inside = frame-inside n c l m wide bounded at bl bm fits;
      before = frame-before n c l m wide bounded at bl bm fits;
      residual = λ i k. frame-behind n c l m wide bounded at bl bm fits i (omega arith) ∙ get_or-take (sent_of r n g) g.residual i 0 k;
    }
