-- `writer_tns::coefficients` meets its contract. The loop keeps what is still to be sent equal to the whole. Assumes nothing.
use mathlib.Core.Path.{◌≡◌, sym, ◌∙◌}
use Prim.Native.Nat.{◌<◌}
use native.Mathlib.Omega.{arith}
use lib.ListN.{get_or}
use Rattle.std.proofs.lemmas.List.{length-take-le, get_or-take}
use Rattle.coder_tables.specs.Tables.{coefficient_table}
use Rattle.coder_tables.proofs.Rules.{coefficient-row}
use Rattle.writer_laws.specs.Stream.{whole_of}
use Rattle.writer_stream.proofs.Placing.{part_of}
use Rattle.writer_tns.proofs.TnsSteps.{coefficients-done, coefficients-more}
use Rattle.writer_tns.proofs.coefficients.Goals as goal

pub encode-c-requires-clause-part : goal.encode-c-requires-clause-part
encode-c-requires-clause-part c =
    let a = c.args in
    let k = c.loop-k.k in
    let i : k < a.n = omega (arith, length-take-le a.n a.l.now (omega arith)) in
    let v = c.from.ensures ∙ get_or-take a.n a.l.now k 0 i in
    let s = c.requires.sendable k i in
    rw c.tns_coefficients-rows.ensures (part_of _ (coefficient-row k (omega arith)) (omega arith))

pub loop-k-preserved : goal.loop-k-preserved
loop-k-preserved c =
    let a = c.args in
    let l = c.loop-k in
    let i : l.k < a.n = omega (arith, length-take-le a.n a.l.now (omega arith)) in
    let v : c.from.result ≡ get_or a.l.now l.k 0 = c.from.ensures ∙ get_or-take a.n a.l.now l.k 0 i in
    let e = c.encode-c.ensures in
    let d = rw c.tns_coefficients-rows.ensures at e.result_after in
    let at = e.one_more.at in
    let taken = e.one_more.taken in
    record {
      flows = e.flows_2;
      at = omega arith;
      taken = omega arith;
      sent = coefficients-more coefficient_table a.l.now a.n l.k _ _ _ i v d ∙ l.invariant.sent;
    }

pub returns-clause-result_after : goal.returns-clause-result_after
returns-clause-result_after c =
    let a = c.args in
    let l = c.loop-k in
    let t = length-take-le a.n a.l.now (omega arith) in
    sym (coefficients-done coefficient_table a.l.now a.n l.k (whole_of l.front l.c) (omega arith)) ∙ l.invariant.sent
