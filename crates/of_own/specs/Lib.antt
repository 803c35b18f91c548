pub mod Slots
pub mod Defers
pub mod Stores
pub mod SlotLaw
pub mod Finding
