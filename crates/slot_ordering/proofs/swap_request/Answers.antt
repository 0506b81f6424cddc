-- `slot_ordering::swap_request` meets its contract. Assumes nothing.
use Rattle.slot_ordering.proofs.OrderSteps.{swap-request-inside, request-swapped-is}
use Rattle.slot_laws.proofs.Sizes.{words-low}
use native.Mathlib.Omega.{arith}
use Rattle.slot_ordering.proofs.swap_request.Goals as goal

pub word_length-requires-clause-i_bound : goal.word_length-requires-clause-i_bound
word_length-requires-clause-i_bound c = let w = words-low c.args.size c.requires.in_range.size_from in omega arith

pub swap-requires : goal.swap-requires
swap-requires c =
    let a = c.args in
    swap-request-inside a.size a.mode c.first_hash_size.result c.word_length.result c.distance-distance.result a.s.now
    c.requires.in_range c.requires.fact
    c.first_hash_size.ensures.value c.word_length.ensures.value c.distance-distance.ensures.is

pub returns : goal.returns
returns c =
    let a = c.args in
    request-swapped-is a.size a.mode c.first_hash_size.result c.word_length.result c.distance-distance.result a.s.now c.swap.new.s
    c.first_hash_size.ensures.value c.word_length.ensures.value c.distance-distance.ensures.is c.swap.ensures
