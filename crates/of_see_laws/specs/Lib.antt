pub mod ReadsBack
pub mod Finished
pub mod Scanning
