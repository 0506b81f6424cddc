-- The answers of `frame` (its specs/Frame.antt) over the fields of the C struct. Assumes nothing.
use Rattle.std.specs.Prelude.{List, ℕ}
use Rattle.frame_answers.specs.Answers.{Given}
use Rattle.frame_answers.specs.declared.Fields.{Fields}
use Rattle.silberlaus_frames.specs.declared.SilberlausFrame.{SilberlausFrame}

abbrev pub given : ℕ → ℕ → Fields → List ℕ → List ℕ → Given
given number why f first second = record { number = number; cause = why; fields = f; first = first; second = second }

-- the fields of the C struct, group by group
abbrev pub frame_given : SilberlausFrame → Given
frame_given r = given r.number r.cause
    (record {
      side = record {
        head = record { bandwidth = r.bandwidth; last_line = r.last_line; lsb_mode = r.lsb_mode; gain = r.gain };
        flags = record { tns_0 = r.tns_flag_0; tns_1 = r.tns_flag_1; pitch_present = r.pitch_present };
        shape = record {
          low = r.shape_low;
          high = r.shape_high;
          mode = r.shape_mode;
          gain = r.shape_gain;
          sign = r.shape_sign;
          joint = r.shape_joint;
        };
        tail = record { filter_flag = r.filter_flag; pitch_index = r.pitch_index; noise_level = r.noise_level };
      };
      tns_order_0 = r.tns_order_0;
      tns_order_1 = r.tns_order_1;
      residual_bits = r.residual_bits;
      symbols = r.symbols;
    })
    r.tns_coefficients_0 r.tns_coefficients_1
