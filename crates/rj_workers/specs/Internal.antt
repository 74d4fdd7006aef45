-- Definitions that no public contract of this crate uses.
pub mod Scans
pub mod Takes
pub mod Ends
pub mod Workers
