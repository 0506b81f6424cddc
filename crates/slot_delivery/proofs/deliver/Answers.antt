-- `slot_delivery::deliver` meets its contract. Assumes nothing.
use Rattle.slot_delivery.proofs.HeadingSteps.{delivered-frame}
use Rattle.slot_ordering.proofs.OrderSteps.{rest-is, frame-fits}
use Rattle.laws.proofs.Tab.{below-take, below-drop}
use lib.ListN.{length, drop}
use Prim.Native.Nat.{◌-◌}
use native.Mathlib.Omega.{arith}
use Rattle.slot_delivery.proofs.deliver.Goals as goal

pub roll-requires : goal.roll-requires
roll-requires c =
    let k = c.heading_size-heading.result in
    let t = c.args.message.now in
    let w = frame-fits c.args.size c.args.mode c.requires.carries.range in
    record {
      long = rest-is _ k t (omega (arith, c.requires.carries.given.long, c.requires.frame_len, c.heading_size-heading.ensures.is));
      most = omega (arith, c.requires.frame_len);
      below = below-take 16 (length t - k) (drop k t) (omega arith) (below-drop 16 k t c.requires.carries.given.below);
    }

pub returns : goal.returns
returns c =
    let a = c.args in
    record {
      matching = c.matches.ensures.holds c.if-not-matches.false;
      frame_is = delivered-frame a.size a.mode c.heading_size-heading.result a.message.now a.frame.now c.roll.new.frame
          c.requires.frame_len c.heading_size-heading.ensures.is c.roll.ensures;
    }
