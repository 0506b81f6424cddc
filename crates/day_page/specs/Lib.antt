-- Where the day's texts stand.
pub mod Page
