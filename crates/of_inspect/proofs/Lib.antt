pub mod Looked
pub mod Shown
