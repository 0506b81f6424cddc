-- The late low bits of LSB mode 1 (5.4.2.8), line after line: the turns of the loop over the lines, and the room that they leave.
-- Assumes nothing.
use mathlib.Core.Path.{◌≡◌, refl}
use mathlib.Core.Bool.{Bool, true, false}
use mathlib.Core.List.{List}
use Prim.Native.Nat.{ℕ, suc, ◌+◌, ◌-◌, ◌/◌, ◌≤◌, ◌<◌}
use native.Mathlib.Omega.{arith}
use lib.Dec.{eqb}
use lib.ListN.{length, get_or, set}
use lib.Seq.{get_or-set_same, get_or-set_other}
use lib.IntN.{ℤ, pos, negsuc, nat_abs}
use mir.Syntax.{w32}
use mir.Val.{SFits}
use borrow.Author.Tests.{eq-eqb, ne_eqb, eqb-true, eqb-false}
use Rattle.frame_residual.specs.Residual.{line, stop, late_of}
use Rattle.frame_finish.specs.Finish.{lates_of}

-- ---- a line that fits in 32 bits

pub same-small : (v w : ℤ) → w ≡ v → nat_abs v ≤ 32767 → nat_abs w ≤ 32767
same-small v w e h = rw e h

pub small-fits : (v x : ℤ) → nat_abs v ≤ nat_abs x + 1 → nat_abs x ≤ 32767 → SFits w32 v
small-fits (pos n) x h l = let b : n < 2147483648 = omega arith in record { sfits = b }
small-fits (negsuc n) x h l = let b : n < 2147483648 = omega arith in record { sfits = b }

-- ---- the lines k .. n - 1 are to come

pub lates-done : (s levels : List ℕ) (n k : ℕ) (lines : List ℤ) (p left : ℕ) → n ≤ k → lates_of s levels (n - k) k lines p left ≡ lines
unfolding lates_of
lates-done s levels n k lines p left h = let e : n - k ≡ 0 = omega arith in rw e

pub lates-skip : (s levels : List ℕ) (n k : ℕ) (lines : List ℤ) (p left : ℕ) → k < n → get_or levels (k / 2) 0 ≡ 0
    → lates_of s levels (n - (k + 1)) (k + 1) lines p left ≡ lates_of s levels (n - k) k lines p left
unfolding lates_of
lates-skip s levels n k lines p left h z = go (n - k) (n - (k + 1)) (k + 1) (omega arith) (omega arith)
  where
    go : (a b j : ℕ) → a ≡ suc b → j ≡ suc k → lates_of s levels b j lines p left ≡ lates_of s levels a k lines p left
    go a b j e f = rw (e, f, eq-eqb (get_or levels (k / 2) 0) 0 z)

-- x is line k as it was read, w what is stored for the line v that it becomes
pub lates-stop : (s levels : List ℕ) (n k : ℕ) (lines : List ℤ) (p left : ℕ) (x : ℤ) → k < n → (get_or levels (k / 2) 0 ≡ 0 → ⊥)
    → x ≡ get_or lines k (pos 0) → late_of s x p left ≡ stop → lates_of s levels (n - k) k lines p left ≡ lines
unfolding lates_of
lates-stop s levels n k lines p left x h z i t =
    let e : n - k ≡ suc (n - (k + 1)) = omega arith in
    let u : late_of s (get_or lines k (pos 0)) p left ≡ stop = rw i at t in
    rw (e, ne_eqb (get_or levels (k / 2) 0) 0 z, u)

pub lates-more : (s levels : List ℕ) (n k : ℕ) (lines : List ℤ) (p left : ℕ) (x v w : ℤ) (q m : ℕ) → k < n
    → (get_or levels (k / 2) 0 ≡ 0 → ⊥)
    → x ≡ get_or lines k (pos 0) → w ≡ v → late_of s x p left ≡ line v q m
    → lates_of s levels (n - (k + 1)) (k + 1) (set lines k w) q m ≡ lates_of s levels (n - k) k lines p left
unfolding lates_of
lates-more s levels n k lines p left x v w q m h z i o t = go (n - k) (n - (k + 1)) (k + 1) (omega arith) (omega arith)
  where
    u : late_of s (get_or lines k (pos 0)) p left ≡ line v q m
    u = rw i at t

    go : (a b j : ℕ) → a ≡ suc b → j ≡ suc k → lates_of s levels b j (set lines k w) q m ≡ lates_of s levels a k lines p left
    go a b j e f = rw (e, f, o, ne_eqb (get_or levels (k / 2) 0) 0 z, u)

-- ---- the room: every line is in range, and from line k on a late low bit may still come

pub record RoomFrom (k : ℕ) (levels : List ℕ) (lines : List ℤ) : Type 0 where
  pub small : (i : ℕ) → nat_abs (get_or lines i (pos 0)) ≤ 32767
  pub room : (i : ℕ) → k ≤ i → (get_or levels (i / 2) 0 ≡ 0 → ⊥) → nat_abs (get_or lines i (pos 0)) + 1 ≤ 32767

pub room-skip : (k : ℕ) (levels : List ℕ) (lines : List ℤ) → RoomFrom k levels lines → RoomFrom (k + 1) levels lines
room-skip k levels lines r = record { small = r.small; room = λ i h z. r.room i (omega arith) z }

step : (k : ℕ) (levels : List ℕ) (lines : List ℤ) (v : ℤ) → k < length lines → (get_or levels (k / 2) 0 ≡ 0 → ⊥)
    → nat_abs v ≤ nat_abs (get_or lines k (pos 0)) + 1 → RoomFrom k levels lines → RoomFrom (k + 1) levels (set lines k v)
step k levels lines v h z b r = record { small = λ i. small_at i (eqb i k) refl; room = λ i. room_at i (eqb i k) refl }
  where
    small_at : (i : ℕ) (t : Bool) → eqb i k ≡ t → nat_abs (get_or (set lines k v) i (pos 0)) ≤ 32767
    small_at i true t =
        let e : i ≡ k = eqb-true i k t in
        let m = r.room k (omega arith) z in
        rw (e, get_or-set_same lines k v (pos 0) h) (omega arith)
    small_at i false t = rw (get_or-set_other lines k i v (pos 0) (eqb-false i k t)) (r.small i)

    room_at : (i : ℕ) (t : Bool) → eqb i k ≡ t → k + 1 ≤ i → (get_or levels (i / 2) 0 ≡ 0 → ⊥)
        → nat_abs (get_or (set lines k v) i (pos 0)) + 1 ≤ 32767
    room_at i true t l y = let e : i ≡ k = eqb-true i k t in absurd (omega arith)
    room_at i false t l y = rw (get_or-set_other lines k i v (pos 0) (eqb-false i k t)) (r.room i (omega arith) y)

pub room_next : (k : ℕ) (levels : List ℕ) (lines : List ℤ) (x v w : ℤ) → k < length lines → (get_or levels (k / 2) 0 ≡ 0 → ⊥)
    → x ≡ get_or lines k (pos 0) → w ≡ v → nat_abs v ≤ nat_abs x + 1 → RoomFrom k levels lines → RoomFrom (k + 1) levels (set lines k w)
room_next k levels lines x v w h z y o a r = rw o (step k levels lines v h z (rw y at a) r)
