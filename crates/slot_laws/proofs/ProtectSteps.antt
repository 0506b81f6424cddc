-- What the code of protecting asks: the data lent in the front of a longer buffer, and the slot written from them.
-- Assumes nothing.
use mathlib.Core.Path.{◌≡◌, sym, ap, ◌∙◌}
use mathlib.Core.List.{List, ◌++◌}
use Prim.Native.Nat.{ℕ}
use lib.ListN.{length, take, replicate}
use lib.Seq.{take_at}
use Rattle.slot_laws.specs.Sizes.{data_size}
use Rattle.slot_laws.specs.Order.{data_of}
use Rattle.slot_laws.specs.Slot.{slot_with, slot_of}
use Rattle.slot_laws.proofs.Order.{data-of}

abbrev pub blanks : List ℕ
blanks = replicate 800 0

-- the data are the front of the buffer
pub message-is : (size mode q e : ℕ) (frame last rest : List ℕ) → e ≡ data_size size mode → last ≡ data_of size mode q frame
    → take e (last ++ rest) ≡ data_of size mode q frame
message-is size mode q e frame last rest h f =
    take_at last rest e (ap (λ (s : List ℕ). length s) f ∙ (data-of size mode q frame).long ∙ sym h) ∙ f

pub slot_is : (size mode q e : ℕ) (frame last rest new : List ℕ) → e ≡ data_size size mode
    → last ≡ data_of size mode q frame → new ≡ slot_with size mode (take e (last ++ rest)) → new ≡ slot_of size mode q frame
unfolding slot_of
slot_is size mode q e frame last rest new h f g = g ∙ ap (slot_with size mode) (message-is size mode q e frame last rest h f)
