-- The arithmetic stream (5.4.2.7) in the order of reading, what an accepted frame holds, and what is answered and written by a judgement.
-- Assumes nothing.
use Rattle.std.specs.Prelude.{◌≡◌, List, ℕ, ℤ}
use Rattle.coder_tables.specs.Tables.{order_table, coefficient_table}
use Rattle.frame_bits.specs.Read.{Read, value, cause, and_then}
use Rattle.frame_coder.specs.Symbol.{start_of}
use Rattle.frame_tns.specs.Tns.{Filter, filter_of}
use Rattle.frame_settings.specs.declared.Setting.{Setting}
use Rattle.frame_side.specs.declared.Side.{Side}
use Rattle.frame_answers.specs.declared.Fields.{Fields}
use Rattle.frame_answers.specs.Answers.{Given, refused_with}
use Rattle.frame_spectral.specs.Spectral.{Spectral, spectral_from}

-- what an accepted frame holds
pub record Whole : Type 0 where
  pub side : Side
  pub first : Filter
  pub second : Filter
  pub spectral : Spectral

-- the arithmetic stream: the two filters' TNS data, then the pairs
unfoldable pub arithmetic_from : List ℕ → Setting → Side → ℕ → Read ℕ Whole
arithmetic_from s r v p =
    and_then (filter_of s order_table coefficient_table r.duration v.flags.tns_0 (start_of s)) (λ f c.
    and_then (filter_of s order_table coefficient_table r.duration v.flags.tns_1 c) (λ g c.
    and_then (spectral_from s r v.head c p) (λ x p. value (record { side = v; first = f; second = g; spectral = x }) p)))

-- accepted; or refused, with document 01's number and the cause
pub data Judged : Type 0 where
  accepted : Whole → Judged
  refused : ℕ → ℕ → Judged

-- 5: "a bit error condition holds in a frame"
abbrev pub judged_read : Read ℕ Whole → Judged
judged_read (value w p) = accepted w
judged_read (cause k) = refused 5 k

abbrev pub fields_of : Whole → Fields
fields_of w = record {
  side = w.side;
  tns_order_0 = w.first.order;
  tns_order_1 = w.second.order;
  residual_bits = w.spectral.residual.number;
  symbols = w.spectral.symbols;
}

unfoldable pub given_of : Judged → Given
given_of (accepted w) =
    record { number = 0; cause = 0; fields = fields_of w; first = w.first.coefficients; second = w.second.coefficients }
given_of (refused number why) = refused_with number why

-- the two lent buffers afterwards: written where the frame was accepted, as lent where not
abbrev pub spectrum_of : Judged → List ℤ → List ℤ
spectrum_of (accepted w) lent = w.spectral.lines
spectrum_of (refused number why) lent = lent

abbrev pub residual_after : Judged → List ℕ → List ℕ
residual_after (accepted w) lent = w.spectral.residual.bits
residual_after (refused number why) lent = lent

-- the answer g and both buffers afterwards are what judgement j asks for
pub record Answers (g : Given) (j : Judged) (spectrum spectrum' : List ℤ) (residual residual' : List ℕ) : Type 0 where
  pub given : g ≡ given_of j
  pub lines : spectrum' ≡ spectrum_of j spectrum
  pub bits : residual' ≡ residual_after j residual
