pub mod Limits
pub mod Columns
pub mod Labels
pub mod Lists
pub mod Selected
pub mod Separated
pub mod Words
pub mod Internal
