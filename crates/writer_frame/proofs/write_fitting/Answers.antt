-- `writer_frame::write_fitting` meets its contract. The frame is written, or it is too small and as lent. Assumes nothing.
use mathlib.Core.Path.{refl, sym, ◌∙◌}
use Rattle.writer_laws.specs.Writing.{Given, given}
use Rattle.writer_frame.proofs.Fitting.{counted, none_left, some_left, sent_is, rest, frame_is, frame-sent}
use Rattle.writer_frame.proofs.write_fitting.Goals as goal

pub bits_left-requires : goal.bits_left-requires
bits_left-requires c =
    let n = counted c.in_ok-ends.ends c.requires c.in_ok-ends.ensures in
    record {
      bytes_bound = c.requires.most;
      p_bound = n.0;
      le_at = c.in_ok-ends.ensures.2.flows.at;
      at_le_bytes = n.1;
      range_bound = c.in_ok-ends.ensures.2.flows.range;
    }

pub write_rest-requires : goal.write_rest-requires
write_rest-requires c =
    let left = some_left c.in_ok-ends.ends c.requires c.in_ok-ends.ensures c.bits_left.result _ c.bits_left.ensures.p_value
    (sym c.ok.ensures.value ∙ c.in_ok-left.was) in
    rest c.in_ok-ends.ends c.requires c.in_ok-ends.ensures _ left.0
    (sent_is c.in_ok-ends.ends c.requires c.in_ok-ends.ensures _ _ _ left.1 c.from.ensures c.min-sent.ensures)

pub returns-in_err-left : goal.returns-in_err-left
returns-in_err-left c =
    rw c.from_residual-in_err-left.ensures (
      none_left c.in_ok-ends.ends c.requires c.in_ok-ends.ensures c.bits_left.result c.bits_left.ensures.p_value
          (sym c.ok.ensures.value ∙ c.in_err-left.was),
      refl,
    )

pub returns : goal.returns
returns c =
    let left = some_left c.in_ok-ends.ends c.requires c.in_ok-ends.ensures c.bits_left.result _ c.bits_left.ensures.p_value
    (sym c.ok.ensures.value ∙ c.in_ok-left.was) in
    let sent = sent_is c.in_ok-ends.ends c.requires c.in_ok-ends.ensures _ _ _ left.1 c.from.ensures c.min-sent.ensures in
    let a = c.args in
    let g : Given = given a.f a.first.now a.second.now a.lines.now a.bits.now in
    frame-sent a.r g a.frame.now _ _ left.0 sent
    (frame_is c.in_ok-ends.ends c.requires c.in_ok-ends.ensures _ _ sent c.write_rest.ensures)
