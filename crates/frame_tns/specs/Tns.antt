-- The TNS data (5.4.2.7): for each filter with its flag set the order, then so many coefficients, and cause 8. Assumes nothing.
use Rattle.std.specs.Prelude.{cond, Result, Ok, Err, List, [], ◌∷◌, ℕ, zero, suc, ◌*◌, ltb, eqb, length, set}
use Rattle.frame_bits.specs.Read.{Read, value, cause, and_then}
use Rattle.frame_settings.specs.Settings.{order_of, weighting}
use Rattle.frame_coder.specs.Symbol.{symbol_of}
use Rattle.frame_coder.specs.declared.Coder.{Coder}
use Rattle.frame_bits.specs.declared.Step.{Step}
use Rattle.refusals.specs.declared.Cause.{Cause}
use Rattle.refusals.specs.Numbers.{cause_number}

-- a filter: its order and eight coefficients, 0 from the order on
pub record Filter : Type 0 where
  pub order : ℕ
  pub coefficients : List ℕ

-- order and coefficients of a filter whose flag is 0 are 0
abbrev pub unused : List ℕ
unused = 0 ∷ 0 ∷ 0 ∷ 0 ∷ 0 ∷ 0 ∷ 0 ∷ 0 ∷ []

-- the n coefficients from k on, each a symbol 0 .. 16 of its own row
unfoldable pub coefficients_of : List ℕ → List ℕ → ℕ → ℕ → List ℕ → Coder → Read Coder (List ℕ)
coefficients_of s rows zero k l c = value l c
coefficients_of s rows (suc n) k l c =
    and_then (symbol_of s rows (k * 18) 16 c) (λ v c. coefficients_of s rows n (suc k) (set l k v) c)

-- a filter that is sent: the order is 1 + a symbol (0 .. 7) of the weighting's row of the orders (cause 8: order above the highest), then
-- its coefficients
unfoldable pub sent_of : List ℕ → List ℕ → List ℕ → ℕ → Coder → Read Coder Filter
sent_of s orders rows q c =
    and_then (symbol_of s orders (weighting q (length s) * 9) 7 c) (λ v c. cond (ltb (order_of q) (suc v)) (cause 8)
    (and_then (coefficients_of s rows (suc v) 0 unused c) (λ l c. value (record { order = suc v; coefficients = l }) c)))

-- by the duration and the filter's flag
unfoldable pub filter_of : List ℕ → List ℕ → List ℕ → ℕ → ℕ → Coder → Read Coder Filter
filter_of s orders rows q flag c =
    cond (eqb flag 0) (value (record { order = 0; coefficients = unused }) c) (sent_of s orders rows q c)

-- the answers, with the coefficients in the list lent
abbrev pub coefficients_given : Result Coder Cause → List ℕ → Read Coder (List ℕ)
coefficients_given (Ok c) l = value l c
coefficients_given (Err why) l = cause (cause_number why)

abbrev pub filter_given : Result (Step ℕ Coder) Cause → List ℕ → Read Coder Filter
filter_given (Ok order) l = value (record { order = order.value; coefficients = l }) order.next
filter_given (Err why) l = cause (cause_number why)
