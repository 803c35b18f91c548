pub mod Data
pub mod Addresses
pub mod Memory
pub mod Text
pub mod Numbers
pub mod Prims
pub mod Listed
