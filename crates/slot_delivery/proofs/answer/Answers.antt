-- `slot_delivery::answer` meets its contract. Assumes nothing.
use mathlib.Core.Bool.{true, false}
use mathlib.Core.Path.{refl, ap, ◌∙◌}
use Rattle.slot_laws.specs.Order.{request_swapped, Data}
use Rattle.slot_laws.specs.Back.{request_in}
use Rattle.slot_delivery.specs.Inner.{IsDelivered, AcceptedFrom}
use Rattle.slot_delivery.proofs.HeadingSteps.{request-is, data-unmixed}
use Rattle.slot_delivery.proofs.answer.Goals as goal
use Rattle.slot_delivery.proofs.answer.Goals.{After-swap_request}

ordered : (c : After-swap_request) → Data c.args.size c.args.mode c.swap_request.new.s
ordered c = data-unmixed c.args.size c.args.mode c.args.message.now c.swap_request.new.s c.requires.fact c.swap_request.ensures

pub deliver-requires : goal.deliver-requires
deliver-requires c = record {
  carries = record {
    range = c.requires.in_range;
    request =
        c.from.ensures
        ∙ request-is c.args.size c.first_hash_size.result c.swap_request.new.s c.first_hash_size.ensures.value;
    given = ordered (goal.at.deliver-requires c).After-swap_request;
  };
  frame_len = c.requires.frame_len;
}

pub returns-then-not-deliver : goal.returns-then-not-deliver
returns-then-not-deliver c =
    let a = c.args in
    let kept : IsDelivered a.size a.mode (request_swapped a.size a.mode a.message.now) a.frame.now c.deliver.new.frame false =
    rw (c.if-not-deliver.true, c.swap_request.ensures) at c.deliver.ensures in
    record { answered = kept; fact_2 = ordered (goal.at.returns-then-not-deliver c).After-swap_request }

pub returns : goal.returns
returns c =
    let a = c.args in
    let written : IsDelivered a.size a.mode (request_swapped a.size a.mode a.message.now) a.frame.now c.deliver.new.frame true =
    rw (c.if-not-deliver.false, c.swap_request.ensures) at c.deliver.ensures in
    let accepted : AcceptedFrom a.size a.mode (request_swapped a.size a.mode a.message.now) a.count a.bits c.deliver.new.frame
    _ a.count a.bits =
    record {
      request =
          request-is a.size c.first_hash_size.result c.swap_request.new.s c.first_hash_size.ensures.value
          ∙ ap (request_in a.size) c.swap_request.ensures;
      counted = refl;
      bits_counted = refl;
      written = written;
    } in
    record { answered = accepted; fact_2 = ordered (goal.at.returns c).After-swap_request }
