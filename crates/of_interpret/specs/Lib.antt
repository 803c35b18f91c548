pub mod TextActs
pub mod Strings
pub mod TextWords
pub mod Reading
pub mod Laws
