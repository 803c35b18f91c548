pub mod Turns
pub mod Marks
pub mod Stepping
pub mod Debugging
pub mod Stops
