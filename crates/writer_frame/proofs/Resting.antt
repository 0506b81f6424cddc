-- What follows the pairs: the residual bits behind the side bits, and both streams' bytes joined. Assumes nothing.
use mathlib.Core.Path.{◌≡◌, ◌∙◌}
use mathlib.Core.List.{List, ◌++◌}
use Prim.Native.Nat.{ℕ, ◌+◌, ◌-◌, ◌*◌, ◌^◌, ◌≤◌, ◌<◌}
use native.Mathlib.Omega.{arith}
use native.Mathlib.Nat.{lt_of_lt_of_le}
use lib.ListN.{length, take}
use lib.Pow.{pow_mono}
use Rattle.laws.specs.Tab.{Below}
use Rattle.frame_coder.specs.declared.Coder.{Coder}
use Rattle.writer_laws.specs.Stream.{front_of, whole_of}
use Rattle.writer_laws.specs.SideBits.{number_of}
use Rattle.writer_laws.specs.Ending.{end_bits, code_of, room_of}
use Rattle.writer_laws.proofs.Ends.{log2-most, ends}
use Rattle.writer_steps.specs.Cursors.{Kept, Puts, Closes}
use Rattle.writer_steps.specs.Joined.{Apart, joined_of}
use Rattle.writer_steps.specs.Frames.{Rest, RestIs}
use Rattle.writer_steps.specs.declared.Cursor.{Cursor}
use Rattle.writer_ending.proofs.Joining.{apart, joined_is}

module _ {front side : List ℕ} {n : ℕ} {c : Coder} {p : Cursor} {sent : ℕ} {bits : List ℕ} (h : Rest front side n c p sent bits) where
  -- the stream's last bits are those that were counted, or one fewer
  code-room : 8 * (c.at - 3) + end_bits (whole_of front c).low c.range + (p.at + sent) ≤ 8 * n
  code-room =
      let f = h.sends.flows in
      let few = (ends (whole_of front c).low c.range f.wide f.range).few in
      let m = log2-most c.range 23 in
      let r = h.room in
      omega arith

  pub bits_most : p.at + sent ≤ 3200
  bits_most = let k = code-room in let m = h.most in omega arith

  -- all side bits stand behind the code
  side-below : (l : List ℕ) → number_of l < 2 ^ length l → length l ≡ p.at + sent → number_of l < 2 ^ room_of n (whole_of front c)
  unfolding room_of
  side-below l b e = let k = code-room in lt_of_lt_of_le b (pow_mono (omega arith))

  -- side bits behind l, a stream that has ended, and side bytes that are closed
  module _ (front' side₁ side' : List ℕ) (q : Cursor) (puts : Puts (take sent bits) side side₁ p q) (at : q.at ≡ p.at + sent)
      (closes : Closes side₁ side' q) (code : front_of front' 512 ≡ code_of (whole_of front c) * 2 ^ room_of 512 (whole_of front c))
      (bytes : Below 256 front') where
    below : (l : List ℕ) → Kept l side p → number_of (l ++ take sent bits) < 2 ^ room_of n (whole_of front c)
    below l k =
        let d = puts l k in
        let e = d.at in
        side-below (l ++ take sent bits) d.bits (omega arith)

    fits : 8 * (c.at - 3) + end_bits (whole_of front c).low c.range ≤ 8 * n
    fits = let k = code-room in omega arith

    long : n ≤ 512
    long = let m = h.most in omega arith

    pub rest-apart : Apart front' side' n
    rest-apart =
        let l = h.before in
        let k = h.kept in
        apart front' side' (l ++ take sent bits) (whole_of front c) n bytes code (closes (l ++ take sent bits) (puts l k)) (below l k)
        fits long

    pub rest-is : (frame' : List ℕ) → frame' ≡ joined_of front' side' n → RestIs front side n c p sent bits frame'
    rest-is frame' e l k =
        e
        ∙ joined_is front' side' (l ++ take sent bits) (whole_of front c) n bytes code (closes (l ++ take sent bits) (puts l k)) (below l k)
        fits long
