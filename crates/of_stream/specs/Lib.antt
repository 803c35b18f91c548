pub mod Image
pub mod Decoding
pub mod Sizes
pub mod Targets
pub mod Bytes
