pub mod State
pub mod Settling
pub mod Loading
pub mod Views
