-- Definitions that no public contract of this crate uses.
pub mod Ends
pub mod Texts
pub mod Prepared
