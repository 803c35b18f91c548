pub mod Numbers
pub mod Pins
pub mod Reading
