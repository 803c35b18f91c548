pub mod Pairs
pub mod Elements
pub mod Laws
