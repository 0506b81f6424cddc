-- What is written and answered, over the fields of the C structs. Assumes nothing.
use Rattle.std.specs.Prelude.{List, ℕ, ℤ}
use Rattle.writer_laws.specs.Writing.{Given, given}
use Rattle.writer.specs.Writer.{Told, telling}
use Rattle.silberlaus_frames.specs.Frames.{frame_given}
use Rattle.silberlaus_frames.specs.declared.SilberlausFrame.{SilberlausFrame}
use Rattle.silberlaus_writing.specs.declared.SilberlausWritten.{SilberlausWritten}

-- what is to be written: number, cause and symbols of the struct are not looked at
abbrev pub given_by : SilberlausFrame → List ℤ → List ℕ → Given
given_by r lines residual =
    given (frame_given r).fields r.tns_coefficients_0 r.tns_coefficients_1 lines residual

abbrev pub written_given : SilberlausWritten → Told
written_given r = telling r.number r.residual_bits
