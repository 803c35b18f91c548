pub mod Arithmetic
pub mod Arranging
pub mod Comparing
pub mod Listed
pub mod Shapes
pub mod Splitting
