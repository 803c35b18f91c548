pub mod Racks
pub mod Ranges
pub mod Stored
pub mod Memories
pub mod Keyboards
pub mod Clocks
pub mod Parts
pub mod Laws
