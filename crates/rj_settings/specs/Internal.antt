-- Definitions that no public contract of this crate uses.
pub mod Scanning
