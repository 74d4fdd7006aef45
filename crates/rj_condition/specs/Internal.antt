-- Definitions that no public contract of this crate uses.
pub mod RowPairs
pub mod Decimals
pub mod Scanning
pub mod Reading
