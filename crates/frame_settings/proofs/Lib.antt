-- The twenty settings, and what stays at 10 ms.
pub mod Settings
pub mod TenMs
