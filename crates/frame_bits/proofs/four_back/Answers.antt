-- `frame_bits::four_back` meets its contract. Assumes nothing.
use Rattle.frame_bits.proofs.SideBits.{four-joined}
use Rattle.frame_bits.proofs.four_back.Goals as goal

pub returns : goal.returns
returns c =
    four-joined _ _ _ _ _ _ c.from.ensures c.from-2.ensures c.from-3.ensures c.from-4.ensures
