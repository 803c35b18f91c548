pub mod AtOnce
pub mod Steps
pub mod Goals
pub mod Unmarked
pub mod Turning
