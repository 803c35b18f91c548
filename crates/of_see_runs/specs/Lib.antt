pub mod Remade
pub mod Limits
pub mod Alike
