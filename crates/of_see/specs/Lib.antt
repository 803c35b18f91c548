pub mod SeeItems
pub mod Begins
pub mod SeeText
pub mod Counts
pub mod Laws
