-- The walk that writes what it reads (Carrying), and what a move keeps and when it can be taken back (RoundTrips).
pub mod Carrying
pub mod RoundTrips
