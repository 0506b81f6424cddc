-- `code_word_corrector::correct_word` meets its contract. Assumes nothing.
use mathlib.Core.List.{List}
use mathlib.Core.Path.{◌≡◌, refl, ap, ◌∙◌}
use Prim.Native.Nat.{ℕ, ◌%◌, ◌/◌}
use native.Mathlib.Omega.{arith}
use Rattle.code_word_laws.specs.Corrector.{taken_off}
use Rattle.code_word_laws.specs.Word.{apart, bits_apart}
use Rattle.code_word_laws.proofs.Correcting.{
  taken-off-length,
  taken-off-semi-octets,
  taken-off-clean,
  correct-word-accepted,
  correct-word-refused,
}
use Rattle.code_word_errors.proofs.Single.{bits-of, count_of}
use Rattle.code_word_corrector.proofs.correct_word.Goals as goal

pub returns-then-clear : goal.returns-then-clear
returns-then-clear c =
    let p = c.requires in (
      omega arith,
      omega arith,
      taken-off-clean c.args.most c.args.word.now p.most_to p.short p.semi_octets c.syndromes-s.result c.syndromes-s.ensures
          (c.clear.ensures.holds c.if-clear.true),
    )

pub returns-in-Some : goal.returns-in-Some
returns-in-Some c =
    let v = c.in-Some.v in
    let both = c.both_counts in
    let (below, nonzero, corrected) = c.in-Some.ensures in
    let n = count_of v both.result below nonzero both.ensures.value in
    (omega arith, omega (arith, n, c.requires.most_from), rw (n, bits-of v both.result below both.ensures.value) corrected)

pub accepted-requires : goal.accepted-requires
accepted-requires c =
    let p = c.requires in
    let e : c.take_off-both.new.word ≡ taken_off c.args.word.now c.error_word-e.result =
    c.take_off-both.ensures.word_is ∙ ap (λ (l : List ℕ). taken_off l c.error_word-e.result) c.in_default.ensures in
    record {
      most_from = p.most_from;
      most_to = p.most_to;
      short = rw e (omega (arith, taken-off-length c.args.word.now c.error_word-e.result));
      semi_octets = rw e (taken-off-semi-octets c.args.word.now _ p.semi_octets);
    }

pub returns-then-not-accepted : goal.returns-then-not-accepted
returns-then-not-accepted c =
    let z = c.take_off in
    let o = c.take_off-both in
    let p = c.requires in
    let e = c.error_word-e.result in
    let k = c.in_default.ensures in
    correct-word-refused c.args.most c.args.word.now p.most_to p.short p.semi_octets e (c.take_off-both.result % 16) o.new.word
    (o.ensures.word_is ∙ ap (λ (l : List ℕ). taken_off l e) k)
    (o.ensures.counted ∙ ap (λ (l : List ℕ). apart l o.new.word) k) c.accepted.ensures
    c.syndromes-s.result _ z.new.word z.ensures.word_is refl c.syndromes-s.ensures c.error_word-e.ensures c.if-not-accepted.true

pub returns : goal.returns
returns c =
    let o = c.take_off-both in
    let p = c.requires in
    let e = c.error_word-e.result in
    let k = c.in_default.ensures in (
      o.ensures.few,
      (c.accepted.ensures.holds c.if-not-accepted.false).few,
      correct-word-accepted c.args.most c.args.word.now p.most_to p.short p.semi_octets e (c.take_off-both.result % 16) o.new.word
          (o.ensures.word_is ∙ ap (λ (l : List ℕ). taken_off l e) k)
          (o.ensures.counted ∙ ap (λ (l : List ℕ). apart l o.new.word) k) c.accepted.ensures
          (c.take_off-both.result / 16)
          (o.ensures.bits_counted ∙ ap (λ (l : List ℕ). bits_apart l o.new.word) k)
          c.if-not-accepted.false,
    )
