pub mod Bound
pub mod Judging
pub mod Making
pub mod Steps
pub mod Clean
pub mod Ordered
pub mod Writing
