pub mod Items
pub mod Code
pub mod Numbering
pub mod Laws
