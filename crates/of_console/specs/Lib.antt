pub mod Values
pub mod Links
pub mod Texts
pub mod Children
pub mod Names
pub mod Laws
pub mod NameLaws
