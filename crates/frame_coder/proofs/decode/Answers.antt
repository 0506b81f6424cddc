-- `frame_coder::decode` meets its contract. By the symbol found and the refill behind it. Assumes nothing.
use mathlib.Core.Path.{refl, sym, ◌∙◌}
use Prim.Native.Nat.{◌+◌, ◌-◌}
use Rattle.frame_coder.specs.declared.Coder.{Coder}
use Rattle.frame_coder.proofs.Decoding.{narrow, symbol_high, symbol-taken, good-symbol}
use Rattle.frame_coder.proofs.decode.Goals as goal

pub returns-then-t-c-clause-result_value : goal.returns-then-t-c-clause-result_value
returns-then-t-c-clause-result_value c = sym (symbol_high _ _ _ _ _ c.if-t-c.true)

pub refill-requires-clause-narrow : goal.refill-requires-clause-narrow
refill-requires-clause-narrow c =
    narrow c.find-f.result c.requires.symbol_row.row c.requires.ready.sound c.find-f.ensures.scaled

pub returns-clause-result_value : goal.returns-clause-result_value
returns-clause-result_value c = let a = c.args in
    let f = c.find-f in
    c.refill.ensures.result_value
    ∙ sym (symbol-taken a.s.now a.cum.now a.row a.last a.c.low f.result a.c c.if-t-c.false f.ensures.symbol_value f.ensures.scaled)

pub returns-clause-good_symbol : goal.returns-clause-good_symbol
returns-clause-good_symbol c = let a = c.args in
    let f = c.find-f.result in
    let d : Coder = record { low = a.c.low - f.below; range = f.above - f.below; at = a.c.at; taken = a.c.taken + 1 } in
    good-symbol a.s.now a.last f.symbol a.c d c.refill.result c.find-f.ensures.scaled.symbol refl c.refill.ensures.refilled
