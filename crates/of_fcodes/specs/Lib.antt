pub mod Rows
pub mod Lookup
pub mod Words
pub mod Numbers
pub mod Finding
pub mod Index
pub mod Tokens
