-- Whatever is written reads back. Any bytes that hold both streams: a symbol (Inside), the pairs of lines (PairsBack), the TNS data
-- (TnsBack), the fields (FieldsBack), the lines and residual bits (LinesBack, SpectralBack). The frame that is written holds them (Binary,
-- Holds, Held), since every symbol is one of its row (ItemsFit). The whole (Trip).
pub mod Inside
pub mod PairsBack
pub mod TnsBack
pub mod FieldsBack
pub mod LinesBack
pub mod SpectralBack
pub mod Binary
pub mod Holds
pub mod Held
pub mod ItemsFit
pub mod Trip
