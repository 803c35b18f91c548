pub mod Spelling
pub mod Numbers
pub mod Reading
pub mod Soundness
pub mod Kinds
