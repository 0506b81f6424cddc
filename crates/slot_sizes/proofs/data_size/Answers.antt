-- `slot_sizes::data_size` meets its contract. Assumes nothing.
use Rattle.slot_laws.proofs.Sizes.{sizes}
use native.Mathlib.Omega.{arith}
use Rattle.slot_sizes.proofs.data_size.Goals as goal

pub returns : goal.returns
returns c =
    let f = sizes c.args.size c.args.mode c.requires in
    record { is = omega arith; most = omega arith }
