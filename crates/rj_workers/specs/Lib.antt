pub mod Posts
pub mod Arrivals
pub mod Settings
pub mod Sharing
pub mod Internal
