-- A slot unpacked and its words from that (Unpacking), and what the code that tells a clean slot asks (CleanSteps).
pub mod Unpacking
pub mod CleanSteps
