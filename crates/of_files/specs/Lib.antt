pub mod Faults
pub mod Files
pub mod Handed
pub mod Messages
pub mod Programs
pub mod Saying
pub mod Sources
