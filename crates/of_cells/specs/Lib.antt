pub mod Outcomes
pub mod Numbers
pub mod Arithmetic
pub mod Division
pub mod Bits
pub mod Comparing
pub mod Splitting
pub mod Doubles
