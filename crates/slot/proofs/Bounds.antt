-- An accepted slot's request, counts and frame have the bounds that a record asks for. Assumes nothing.
use mathlib.Core.List.{List}
use Prim.Native.Nat.{ℕ, ◌*◌, ◌≤◌}
use native.Mathlib.Omega.{arith}
use Rattle.laws.proofs.Tab.{total-most}
use Rattle.code_word_laws.specs.Word.{semi_octet_changed, apart}
use Rattle.slot_laws.specs.Sizes.{InRange, words}
use Rattle.slot_laws.specs.Words.{signature}
use Rattle.slot_laws.specs.Slot.{slot_of, word_in}
use Rattle.slot_laws.specs.Changes.{changes}
use Rattle.slot_laws.specs.Corrected.{Corrected}
use Rattle.slot_laws.proofs.Sizes.{words-high, frame-bounds}
use Rattle.slot_laws.proofs.Places.{semi-octets-shifted, changes-words, bit-changes-between}
use Rattle.slot_answers.specs.Answers.{Told}
use Rattle.slot.specs.Unprotect.{IsAccepted, Unprotects, Recordable}
use Rattle.slot.proofs.Rule.{is-accepted}

-- at most m - 1 changes in each of at most 54 words
few-changes : (size mode : ℕ) (slot c : List ℕ) → InRange size mode → Corrected size mode slot c → changes size slot c ≤ 162
unfolding word_in
few-changes size mode slot c r a =
    let e = changes-words semi_octet_changed semi-octets-shifted size (signature mode) slot c r.size_from in
    let w = words-high size in
    let l = total-most (λ i. apart (word_in size mode slot i) (word_in size mode c i)) 3 (words size)
    (λ i p. let n = (a.near i p).near in omega (arith, r.mode_to)) in
    omega (arith, r.size_to)

-- one to four changed bits for each changed semi-octet
bits-near : {size mode : ℕ} {slot old new : List ℕ} (answer : Told) → IsAccepted size mode slot old new answer
    → (answer.count ≤ answer.bits) × (answer.bits ≤ 4 * answer.count)
bits-near {size} {mode} {slot} {new = new} answer a =
    let b = bit-changes-between size slot (slot_of size mode answer.request new) in
    (omega (arith, b.0, a.counted, a.bits_counted), omega (arith, b.1, a.counted, a.bits_counted))

pub recordable : (size mode : ℕ) (slot old new : List ℕ) (answer : Told) → Unprotects size mode slot old new answer
    → Recordable answer new
recordable size mode slot old new answer u e =
    let a = is-accepted answer.number size mode slot old new answer e u in
    let r = a.taken.range in
    let b = frame-bounds size mode r in
    let l = a.sent.frame_bytes.long in
    let f = few-changes size mode slot _ r a.corrected in
    let between = bits-near answer a in
    record {
      request_to = omega (arith, a.sent.request);
      count_to = omega (arith, a.counted);
      bits_from = between.0;
      bits_within = between.1;
      bits_to = omega (arith, between.1, a.counted);
      same_clean = (λ e. omega (arith, between.0), λ e. omega (arith, between.1));
      frame_from = omega (arith, b.0);
      frame_to = omega (arith, b.1);
    }
