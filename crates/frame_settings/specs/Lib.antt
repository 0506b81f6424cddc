-- What a rate, a duration and a length give (Settings), and document 01's table of the 10 ms settings (TenMs).
pub mod Settings
pub mod TenMs
