pub mod Returns
pub mod Turns
pub mod Tokens
pub mod Reading
pub mod Texts
