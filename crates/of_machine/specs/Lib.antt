pub mod States
pub mod Views
pub mod Runs
pub mod Racks
pub mod Refused
pub mod Stretches
pub mod Events
