-- `code_word_corrector::correct_words` meets its contract. The loop has the first words done and the rest as it was. Assumes nothing.
use mathlib.Core.Path.{◌≡◌, ◌∙◌}
use Prim.Native.Nat.{◌+◌, ◌<◌, ◌≤◌, ◌-◌, ◌%◌, ◌/◌}
use native.Mathlib.Numerals.{add-one}
use native.Mathlib.Omega.{arith}
use lib.Seq.{length-take-le}
use lib.ListN.{length, drop, length-take, length-drop}
use Rattle.code_word_corrector.proofs.Batch.{batch-inside, batch-semi, batch-next, dealt-is, told, told-small}
use Rattle.code_word_corrector.proofs.correct_words.Goals as goal
use Rattle.code_word_corrector.proofs.correct_words.Goals.{After-dealt}

-- the end of word i lies in the words
inside : (c : After-dealt) → c.loop-i.at + c.dealt.result ≤ length c.args.words.now
inside c =
    let l = c.loop-i in
    let k = l.invariant in
    let long-of = dealt-is l.i c.requires.dealt c.dealt.ensures in
    omega (arith, batch-inside _ _ _ _ _ _ _ _ _ k c.dealt.result long-of (omega arith), k.as_long)

pub overflow_add-end : goal.overflow_add-end
overflow_add-end c = record { fits = omega (arith, inside c) }

pub slice_bounds-correct_word-end : goal.slice_bounds-correct_word-end
slice_bounds-correct_word-end c = omega (arith, inside c, c.loop-i.invariant.as_long)

pub correct_word-requires : goal.correct_word-requires
correct_word-requires c =
    let l = c.loop-i in
    let p = c.requires in
    let d = c.dealt.result in
    let long-of = dealt-is l.i p.dealt c.dealt.ensures in
    let e : l.at + d - l.at ≡ d = omega arith in
    let i-in : l.i < length c.args.counts.now = omega arith in
    record {
      most_from = p.sought.most_from;
      most_to = p.sought.most_to;
      short = rw e (omega (arith, p.dealt.short l.i i-in, long-of, length-take d (drop l.at l.words)));
      semi_octets = rw e (batch-semi _ _ _ _ _ _ _ _ _ l.invariant d long-of i-in p.semi_octets);
    }

pub overflow_cast-bits : goal.overflow_cast-bits
overflow_cast-bits c =
    let f = c.unwrap_or-both in
    let m = c.correct_word in
    record { fits = omega (arith, told-small _ _ _ m.result f.result c.requires.sought.most_to f.ensures m.ensures) }

pub loop-i-preserved : goal.loop-i-preserved
loop-i-preserved c =
    let l = c.loop-i in
    let m = c.correct_word in
    let k = l.invariant in
    let d = c.dealt.result in
    let f = c.unwrap_or-both in
    let long-of = dealt-is l.i c.requires.dealt c.dealt.ensures in
    let in-words = batch-inside _ _ _ _ _ _ _ _ _ k d long-of (omega arith) in
    let e : l.at + d - l.at ≡ d = omega arith in
    let i-in : l.i < length c.args.counts.now = omega arith in
    let kept : length m.new.word ≡ d = m.auto.word
    ∙ rw e (length-take-le d (drop l.at l.words) (omega (arith, in-words, length-drop l.at l.words))) in
    rw (e, add-one l.i)
    (batch-next _ _ _ _ _ _ _ _ _ k d long-of i-in m.new.word (f.result % 16) (f.result / 16) kept
    (rw e at (told _ _ _ m.result f.result c.requires.sought.most_to f.ensures m.ensures)))
