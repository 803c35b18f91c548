pub mod Words
pub mod Headers
pub mod Calls
pub mod Index
pub mod Laws
