-- Document 01's small sums, proved together: each is computed from its definition, the three about the last pair and the bandwidth from
-- what is read. Assumes nothing.
use mathlib.Core.Path.{◌≡◌, refl, sym}
use Prim.Native.Nat.{ℕ, suc, ◌+◌, ◌*◌, ◌^◌}
use native.Mathlib.Omega.{arith}
use native.Mathlib.Nat.{pow-suc}
use lib.Pow.{pow_pos}
use borrow.Author.Tests.{lt-leb}
use Rattle.gf16.specs.Field.{product, expanded, reduced, lowered}
use Rattle.code_word_laws.proofs.Division.{generators}
use Rattle.slot_laws.specs.Sizes.{words, word_length}
use Rattle.frame_settings.specs.Settings.{setting_of, rate, setting}
use Rattle.frame_bits.specs.Fields.{read_list}
use Rattle.frame_side.specs.Side.{head_of}
use Rattle.frame_pair.specs.Pair.{pair_of}
use Rattle.frame_pair.proofs.Escaping.{plane-both}
use Rattle.record_bytes.specs.Layout.{record_bytes, entries_bytes, end_bytes, big}
use Rattle.silberlaus.specs.SmallSums.{all_set, SmallSums}

-- one bit more, set
all_set-next : (n : ℕ) → all_set n + 1 * 2 ^ n ≡ all_set (suc n)
all_set-next n = let e = pow-suc 2 n in let p = pow_pos n in omega arith

pub small-sums :
    SmallSums (setting (rate 24 2 2) 40) (setting (rate 48 4 3) 40)
unfolding product expanded reduced lowered words word_length setting_of head_of read_list pair_of record_bytes entries_bytes end_bytes big
small-sums = record {
  products = (refl, refl);
  polynomials = generators;
  counts = (refl, refl, refl);
  lengths = (refl, refl, refl, refl, refl, refl);
  context = refl;
  escape = λ s level p q r e f.
      plane-both s 0 level _ _ p 1 q 1 r _ _ (omega arith) e f (sym (all_set-next level)) (sym (all_set-next level));
  highest = λ s look cum lsb base context p c k e. rw e refl;
  rates = (refl, refl);
  line_400 = λ s b m g h e f k l. rw e (rw (lt-leb 5 b (omega arith)) (rw f (rw k (rw l refl))));
  past_400 = λ s b h e f. rw e (rw (lt-leb 5 b (omega arith)) (rw f refl));
  bandwidth = λ s e. rw e refl;
  empty = refl;
}
