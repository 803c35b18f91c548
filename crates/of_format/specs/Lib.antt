pub mod Digits
pub mod Reading
pub mod Pictured
