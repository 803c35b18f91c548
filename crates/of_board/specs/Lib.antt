pub mod Text
pub mod OpenDevices
pub mod Active
pub mod DeviceOutcomes
pub mod Nest
pub mod Left
