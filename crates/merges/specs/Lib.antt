pub mod Copies
pub mod Failures
pub mod Lines
pub mod Merges
pub mod Refusals
