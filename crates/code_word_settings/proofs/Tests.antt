-- The test of elements: what the bits that occur in them tell, over plain lists.
-- Assumes nothing.
use mathlib.Core.Path.{◌≡◌}
use mathlib.Core.List.{List, [], ◌∷◌}
use Prim.Native.Nat.{ℕ, ◌≤◌, ◌<◌}
use native.Mathlib.Omega.{arith}
use lib.Bits.{bit_or, or_lt, or_add_and, and_le_l, and_le_r}
use lib.Dec.{ltb}
use Rattle.std.specs.List.{fold}
use borrow.Author.Tests.{ltb-true, ltb-false}
use Rattle.laws.specs.Decides.{Decides}
use Rattle.code_word_laws.specs.Word.{SemiOctets}

-- the bits of a and of all elements are low where a and each element are semi-octets
gathers : (a : ℕ) (cs : List ℕ) → fold bit_or a cs < 16 → (a < 16) × SemiOctets cs
gathers a [] h = (h, tt)
gathers a (c ∷ cs) h =
    let t = gathers (bit_or a c) cs h in
    let e = or_add_and a c in
    let l = and_le_l a c in
    let r = and_le_r a c in
    (omega (arith, t.0), (omega (arith, t.0), t.1))

gathered : (a : ℕ) (cs : List ℕ) → a < 16 → SemiOctets cs → fold bit_or a cs < 16
gathered a [] h s = h
gathered a (c ∷ cs) h s = gathered (bit_or a c) cs (or_lt 4 a c h s.0) s.1

pub all-low : (cs : List ℕ) (bits : ℕ) → bits ≡ fold bit_or 0 cs → Decides (SemiOctets cs) (ltb bits 16)
all-low cs bits e =
    record {
      holds = λ t. (gathers 0 cs (rw e at (ltb-true bits 16 t))).1;
      fails = λ f s.
          let b = gathered 0 cs (omega arith) s in
          let m : 16 ≤ bits = ltb-false bits 16 f in
          omega arith;
    }
