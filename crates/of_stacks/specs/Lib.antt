pub mod Throws
pub mod Stacks
pub mod Order
pub mod Returns
pub mod Loops
pub mod Unwinding
pub mod ReturnLaws
