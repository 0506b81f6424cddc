-- `record_bytes::bits_at` meets its contract. Assumes nothing.
use Rattle.record_bytes.proofs.Before.{bits-joined}
use Rattle.record_bytes.proofs.bits_at.Goals as goal

pub returns : goal.returns
returns c =
    let a = c.args in
    let n = c.number2 in
    let u = bits-joined a.form a.s.now a.at n.result c.joined_bits.result n.ensures.upper_bound n.ensures.value
    c.joined_bits.ensures in
    record { value = u.0; upper_bound = u.1 }
