-- Definitions that no public contract of this crate uses.
pub mod RowReading
pub mod Blocks
pub mod RowParts
pub mod StrictSteps
pub mod StrictWalk
pub mod NameColumns
