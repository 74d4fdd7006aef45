-- Definitions that no public contract of this crate uses.
pub mod Nulls
pub mod Packed
pub mod Widths
pub mod Columns
pub mod Stores
pub mod Folded
pub mod Segments
pub mod Placed
