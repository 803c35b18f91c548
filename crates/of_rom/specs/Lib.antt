pub mod Images
pub mod Laws
pub mod Roms
pub mod Rows
pub mod Texts
