pub mod Requests
pub mod StepLimits
