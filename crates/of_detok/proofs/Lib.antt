pub mod Loops
pub mod Plain
pub mod Laid
pub mod Digits16
pub mod ReadBack
pub mod Taking
pub mod Shortness
pub mod Whole
