mod Alone
mod Appended
mod TextLaws
mod Spelt
pub mod InFull
