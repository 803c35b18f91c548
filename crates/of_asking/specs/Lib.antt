pub mod Questions
pub mod Keys
pub mod Devices
pub mod Settling
pub mod Said
pub mod Listed
pub mod Images
