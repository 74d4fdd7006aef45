-- Definitions that no public contract of this crate uses.
pub mod Marks
pub mod Ranges
