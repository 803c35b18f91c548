pub mod Scan
pub mod Numbers
pub mod Words
pub mod Strings
pub mod Parts
pub mod Groups
pub mod Laws
