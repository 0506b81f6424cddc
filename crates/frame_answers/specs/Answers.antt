-- What the reader of a frame answers: document 01's number, the cause, and the values. Assumes nothing.
use Rattle.std.specs.Prelude.{List, ℕ, Result, Ok, Err}
use Rattle.refusals.specs.declared.Refusal.{Refusal}
use Rattle.refusals.specs.Numbers.{refusal_number, refusal_cause}
use Rattle.frame_tns.specs.Tns.{unused}
use Rattle.frame_answers.specs.declared.Fields.{Fields}
use Rattle.frame_answers.specs.declared.Reading.{Reading}

-- document 01's number, the cause, and what goes with them
pub record Given : Type 0 where
  pub number : ℕ
  pub cause : ℕ
  pub fields : Fields
  pub first : List ℕ
  pub second : List ℕ

-- "zero in every other field"
abbrev pub no_fields : Fields
no_fields = record {
  side = record {
    head = record { bandwidth = 0; last_line = 0; lsb_mode = 0; gain = 0 };
    flags = record { tns_0 = 0; tns_1 = 0; pitch_present = 0 };
    shape = record { low = 0; high = 0; mode = 0; gain = 0; sign = 0; joint = 0 };
    tail = record { filter_flag = 0; pitch_index = 0; noise_level = 0 };
  };
  tns_order_0 = 0;
  tns_order_1 = 0;
  residual_bits = 0;
  symbols = 0;
}

abbrev pub refused_with : ℕ → ℕ → Given
refused_with number why = record { number = number; cause = why; fields = no_fields; first = unused; second = unused }

-- document 01's number, cause and values of an answer
abbrev pub told : Result Reading Refusal → Given
told (Ok r) =
    record { number = 0; cause = 0; fields = r.fields; first = r.tns_coefficients_0; second = r.tns_coefficients_1 }
told (Err why) = refused_with (refusal_number why) (refusal_cause why)
