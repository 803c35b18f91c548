pub mod Shown
pub mod Scripts
