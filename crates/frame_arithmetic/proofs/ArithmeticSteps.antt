-- The arithmetic stream of a frame (5.4.2.7): what each return of `read_arithmetic` says, and the answer with both buffers as a judgement
-- asks.
-- Assumes nothing.
use mathlib.Core.Path.{◌≡◌, refl, sym, ap, ◌∙◌}
use mathlib.Core.List.{List}
use Prim.Native.Nat.{ℕ, ◌≤◌, ◌<◌}
use native.Mathlib.Omega.{arith}
use lib.IntN.{ℤ}
use Rattle.coder_tables.specs.Tables.{order_table, coefficient_table}
use Rattle.frame_bits.specs.Read.{Read, value, cause}
use Rattle.frame_coder.specs.Symbol.{start_of}
use Rattle.frame_tns.specs.Tns.{Filter, filter_of}
use Rattle.frame_spectral.specs.Spectral.{Spectral, spectral_from}
use Rattle.frame_arithmetic.specs.Answers.{Whole, arithmetic_from}
use Rattle.frame_arithmetic.specs.Answers.{Judged, refused, judged_read, given_of, Answers}
use Rattle.frame_answers.specs.Answers.{Given, refused_with, told}
use Rattle.frame_arithmetic.specs.Sound.{Bounded}
use Rattle.frame_settings.specs.declared.Setting.{Setting}
use Rattle.frame_side.specs.declared.Side.{Side}
use Rattle.frame_coder.specs.declared.Coder.{Coder}
use Rattle.std.specs.Prelude.{Result, Ok, Err}
use Rattle.refusals.specs.declared.Cause.{Cause}
use Rattle.refusals.specs.declared.Refusal.{Refusal}
use Rattle.refusals.specs.declared.Refusal.TheVariants as refusal
use Rattle.refusals.specs.Numbers.{cause_number}
use Rattle.frame_answers.specs.declared.Reading.{Reading}

-- ---- the arithmetic stream

-- what the two filters' data are
abbrev pub First : List ℕ → Setting → Side → Read Coder Filter → Type 0
First s r v x = filter_of s order_table coefficient_table r.duration v.flags.tns_0 (start_of s) ≡ x

abbrev pub Second : List ℕ → Setting → Side → Coder → Read Coder Filter → Type 0
Second s r v c x = filter_of s order_table coefficient_table r.duration v.flags.tns_1 c ≡ x

pub first-at : (s : List ℕ) (r : Setting) (v : Side) (c : Coder) (x : Read Coder Filter) → c ≡ start_of s
    → x ≡ filter_of s order_table coefficient_table r.duration v.flags.tns_0 c → First s r v x
first-at s r v c x o q = sym (rw o at q)

pub arithmetic-first : (s : List ℕ) (r : Setting) (v : Side) (p k : ℕ) → First s r v (cause k) → arithmetic_from s r v p ≡ cause k
unfolding arithmetic_from
arithmetic-first s r v p k e = rw e

pub arithmetic-second : (s : List ℕ) (r : Setting) (v : Side) (p k : ℕ) (f : Filter) (c : Coder) → First s r v (value f c)
    → Second s r v c (cause k) → arithmetic_from s r v p ≡ cause k
unfolding arithmetic_from
arithmetic-second s r v p k f c e g = rw (e, g)

pub arithmetic-third : (s : List ℕ) (r : Setting) (v : Side) (p k : ℕ) (f g : Filter) (c d : Coder) → First s r v (value f c)
    → Second s r v c (value g d) → spectral_from s r v.head d p ≡ cause k → arithmetic_from s r v p ≡ cause k
unfolding arithmetic_from
arithmetic-third s r v p k f g c d e i j = rw (e, i, j)

pub arithmetic-value : (s : List ℕ) (r : Setting) (v : Side) (p q : ℕ) (f g : Filter) (c d : Coder) (y : Spectral) → First s r v (value f c)
    → Second s r v c (value g d) → spectral_from s r v.head d p ≡ value y q
    → arithmetic_from s r v p ≡ value (record { side = v; first = f; second = g; spectral = y }) q
unfolding arithmetic_from
arithmetic-value s r v p q f g c d y e i j = rw (e, i, j)

-- ---- the answer and both buffers, as a judgement j asks

-- a refusal g with number n and cause k: zero in every other field, and both buffers as lent
pub answers-refused : (g : Given) (j : Judged) (n k : ℕ) (spectrum : List ℤ) (residual : List ℕ) → g ≡ refused_with n k → j ≡ refused n k
    → Answers g j spectrum spectrum residual residual
unfolding given_of
answers-refused g j n k spectrum residual e f = rw (e, f) (record { given = refl; lines = refl; bits = refl })

abbrev pub Answered : ℕ → Result Reading Refusal → Judged → List ℤ → List ℤ → List ℕ → List ℕ → Type 0
Answered most o j spectrum spectrum' residual residual' =
    Answers (told o) j spectrum spectrum' residual residual' × Bounded most (told o) spectrum'

-- a refusal is bounded by its cause alone
pub refused-bounded : (most : ℕ) (g : Given) (n k : ℕ) (lines : List ℤ) → g ≡ refused_with n k → 1 ≤ n → (n ≡ 5 → 1 ≤ k) → k ≤ most
    → Bounded most g lines
refused-bounded most g n k lines e h a b =
    rw e (record { symbols = λ z. absurd (omega arith); values = λ z. absurd (omega arith); cause_from = a; cause_to = b })

-- refusal a is what a judgement with number n and without a cause asks for
abbrev pub Refuses : Refusal → ℕ → Type 0
Refuses a n = (most : ℕ) (o : Result Reading Refusal) (j : Judged) (spectrum : List ℤ) (residual : List ℕ) → o ≡ Err a → j ≡ refused n 0
    → Answered most o j spectrum spectrum residual residual

refuses : (a : Refusal) (n : ℕ) → told (Err a) ≡ refused_with n 0 → 1 ≤ n → n < 5 → Refuses a n
refuses a n i h k most o j spectrum residual e f =
    let g : told o ≡ refused_with n 0 = ap told e ∙ i in (
      answers-refused (told o) j n 0 spectrum residual g f,
      refused-bounded most (told o) n 0 spectrum g h (λ z. absurd (omega (arith, z, k))) (omega arith),
    )

pub answers-setting : Refuses refusal.Setting 1
answers-setting = refuses refusal.Setting 1 refl (omega arith) (omega arith)

pub answers-length : Refuses refusal.Length 2
answers-length = refuses refusal.Length 2 refl (omega arith) (omega arith)

-- a bit error: e is what the cause `why` was turned into
pub answers-cause : (o : Result Reading Refusal) (e : Refusal) (why : Cause) (x : Read ℕ Whole) (spectrum spectrum' : List ℤ)
    (residual residual' : List ℕ) → o ≡ Err e → e ≡ refusal.BitError why → x ≡ cause (cause_number why)
    → spectrum' ≡ spectrum → residual' ≡ residual → Answers (told o) (judged_read x) spectrum spectrum' residual residual'
answers-cause o e why x spectrum spectrum' residual residual' i j f a b =
    rw (i, j, a, b) (answers-refused _ _ 5 (cause_number why) spectrum residual refl (ap judged_read f))

pub answers-value : (x : Read ℕ Whole) (v : Side) (f g : Filter) (y : Spectral) (q : ℕ) (spectrum : List ℤ) (residual : List ℕ)
    → x ≡ value (record { side = v; first = f; second = g; spectral = y }) q
    → Answers
    (told (Ok (record {
      fields = record {
        side = v;
        tns_order_0 = f.order;
        tns_order_1 = g.order;
        residual_bits = y.residual.number;
        symbols = y.symbols;
      };
      tns_coefficients_0 = f.coefficients;
      tns_coefficients_1 = g.coefficients;
    })))
    (judged_read x) spectrum y.lines residual y.residual.bits
unfolding given_of
answers-value x v f g y q spectrum residual e = rw e (record { given = refl; lines = refl; bits = refl })
