pub mod Places
pub mod Tokens
pub mod Image
pub mod Layout
pub mod Shown
pub mod Laws
pub mod Origins
