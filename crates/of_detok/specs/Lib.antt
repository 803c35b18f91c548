pub mod Definitions
pub mod Digits
pub mod Labels
pub mod Listing
pub mod Notes
pub mod Parts
pub mod Reading
